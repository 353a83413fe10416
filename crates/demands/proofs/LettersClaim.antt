-- Texts that differ in the case of letters alone are answered alike, since they are read alike; and what is written has no small letter. Assumes nothing.
use mathlib.Core.List.{List}
use mathlib.Core.Path.{◌≡◌, refl, sym, ap, ◌∙◌}
use Prim.Native.Nat.{ℕ, ◌<◌}
use native.Mathlib.Omega.{arith}
use lib.ListN.{length, take}
use lib.Seq.{take-append_seam}
use Rattle.consensus.specs.Instance.{Instance}
use Rattle.text.specs.Capitals.{EqualUpToCase, InCapitals}
use Rattle.general.specs.Answer.{Answer, accepted, refused}
use Rattle.ticket_format.specs.Ticket.{read_ticket}
use Rattle.answers.specs.ResultLine.{result_text, result_size}
use Rattle.answers.specs.Running.{running, buffer_after, written, program_writes}
use Rattle.answers.specs.Settle.{settling}
use Rattle.answers.specs.Reason.{reason, reasons}
use Rattle.answers.specs.Code.{size_code, number_code, WritingCall}
use Rattle.ticket_format.proofs.ReadCapitals.{read_capitals, read_alike}
use Rattle.answers.proofs.InCapitals.{refusal_in_capitals}
use Rattle.ticket_laws.proofs.WellFormed.{accepted_well_formed}
use Rattle.answers.proofs.ResultLength.{length-text}
use Rattle.answers.specs.Reply.{size_of, Writing}
use Rattle.answers.proofs.Replies.{same_reply}
use Rattle.answers.specs.Reply.{Reply}
use Rattle.ticket_format.proofs.RefusalRange.{RefusedBy, last_refused, ticket_refused}
use Rattle.pricing_format.specs.Quoting.{quoting}
use Rattle.pricing_format.specs.QuoteCall.{place_after, quote_code}
use Rattle.demands.specs.Written.{Wrote}
use Rattle.demands.specs.Witnesses.{RunMet}
use Rattle.demands.specs.LettersClaim.{RunAlike, SettledAlike, ExplainedAlike, QuotedAlike, LettersClaim}
use Rattle.demands.proofs.Answered.{RunCase, fits, short, unread, run_case}
use Rattle.demands.proofs.ResultInCapitals.{text_in_capitals}

-- What is made of two things that are the same.
made_alike : {A B : Type 0} (made : B → A) (s t : B) → s ≡ t → (u v : A) → u ≡ made s → v ≡ made t → u ≡ v
made_alike made s t same u v e g = e ∙ ap made same ∙ sym g

-- Two calls that write, of which both answer the same for every room.
module _ (answers answers' : (room : ℕ) → Answer (List ℕ)) (same : (room : ℕ) → answers room ≡ answers' room) (before out out' : List ℕ) where
  written_alike : (answer answer' : Reply) → Writing answers before out answer → Writing answers' before out' answer' → (answer ≡ answer') × (out ≡ out')
  written_alike answer answer' r s =
      let alike = same (length before) in
      (same_reply answer answer' (made_alike size_of _ _ alike _ _ r.answered s.answered), made_alike (λ m. buffer_after m before) _ _ alike _ _ r.buffer s.buffer)

  called_alike : (code code' : ℕ) → WritingCall answers before out code → WritingCall answers' before out' code' → (code ≡ code') × (out ≡ out')
  called_alike code code' r s =
      let alike = same (length before) in
      (made_alike size_code _ _ alike _ _ r.answered s.answered, made_alike (λ m. buffer_after m before) _ _ alike _ _ r.buffer s.buffer)

-- So with running and settling.
pub ran_alike : (a b : List ℕ) → ((room : ℕ) → running a room ≡ running b room) → RunAlike a b
unfolding program_writes
ran_alike a b same =
    record {
      ran = written_alike (running a) (running b) same;
      called = called_alike (running a) (running b) same;
      program = ap written (same (result_size 64));
    }

pub settle_alike : (a b : List ℕ) → settling a ≡ settling b → SettledAlike a b
settle_alike a b same =
    record {
      settled = λ answer answer' e g. same_reply answer answer' (e ∙ same ∙ sym g);
      called = λ code code' e g. e ∙ ap number_code same ∙ sym g;
    }

-- The number of a ticket's refusal is a byte.
refusal_byte : (text : List ℕ) (number line : ℕ) → read_ticket text ≡ refused number line → number < 256
unfolding RefusedBy
refusal_byte text number line read =
    let range : RefusedBy last_refused (read_ticket text) = ticket_refused text in
    let known : RefusedBy {A = Instance} last_refused (refused number line) = rw read at range in
    omega (arith, known.1)

module _ (a b : List ℕ) (same : EqualUpToCase a b) where
  alike : read_ticket a ≡ read_ticket b
  alike = read_alike a b same

  running_alike : (room : ℕ) → running a room ≡ running b room
  unfolding running
  running_alike room = rw alike refl

  run_alike : RunAlike a b
  run_alike = ran_alike a b running_alike

  -- What running one text meets, running the other does.
  pub run_met_alike : (size : ℕ) → RunMet a size → RunMet b size
  run_met_alike size met =
      let e = running_alike (length met.before) in
      record {
        before = met.before;
        after = met.after;
        ran = record { answered = rw e at met.ran.answered; buffer = rw e at met.ran.buffer };
        called = record { answered = rw e at met.called.answered; buffer = rw e at met.called.buffer };
        small = met.small;
      }

  settling_alike : settling a ≡ settling b
  unfolding settling
  settling_alike = rw alike refl

  settled_alike : SettledAlike a b
  settled_alike = settle_alike a b settling_alike

  reason_alike : (p r : ℕ) → reason a p r ≡ reason b p r
  unfolding reason
  reason_alike p r = rw alike refl

  reasons_alike : (room : ℕ) → reasons a room ≡ reasons b room
  unfolding reasons
  reasons_alike room = rw alike refl

  explained_alike : ExplainedAlike a b
  explained_alike =
      record {
        given = λ p r answer answer' e g. same_reply answer answer' (e ∙ reason_alike p r ∙ sym g);
        called = λ p r code code' e g. e ∙ ap number_code (reason_alike p r) ∙ sym g;
        all_given = written_alike (reasons a) (reasons b) reasons_alike;
        all_called = called_alike (reasons a) (reasons b) reasons_alike;
      }

  quoting_alike : (costs : List ℕ) (p : ℕ) → quoting a costs p ≡ quoting b costs p
  unfolding quoting
  quoting_alike costs p = rw alike refl

  quoted_alike : QuotedAlike a b
  quoted_alike =
      record {
        given = λ costs p answer answer' e g. same_reply answer answer' (e ∙ quoting_alike costs p ∙ sym g);
        called = λ costs p before after after' code code' r s.
            let same-replys = quoting_alike costs p in (
              made_alike quote_code _ _ same-replys _ _ r.answered s.answered,
              made_alike (λ (m : Answer ℕ). place_after m before) _ _ same-replys _ _ r.place s.place,
            );
      }

result_in_capitals : (text : List ℕ) (x : Instance) (out : List ℕ) → Wrote text x out → InCapitals (take (result_size x.processes) out)
result_in_capitals text x out wrote =
    let size = length-text x (accepted_well_formed text x wrote.read) in
    let front : take (result_size x.processes) out ≡ result_text x =
    rw (← size, wrote.front) (take-append_seam (result_text x) wrote.behind) in
    rw front (text_in_capitals text x wrote.read)

written_in_capitals : (text : List ℕ) → InCapitals (program_writes text)
unfolding program_writes written
written_in_capitals text = by_case (running text (result_size 64)) (run_case text (result_size 64))
  where
    by_case : (a : Answer (List ℕ)) → RunCase text (result_size 64) a → InCapitals (written a)
    by_case (accepted r) (fits x read room) = text_in_capitals text x read
    by_case (refused number line) (short x read room) = refusal_in_capitals 9 0 (omega arith)
    by_case (refused number line) (unread _ _ read) = refusal_in_capitals number line (refusal_byte text number line read)

pub letters_claim : LettersClaim
letters_claim =
    record {
      capitals = read_capitals;
      read = read_alike;
      run = run_alike;
      settle = settled_alike;
      explain = explained_alike;
      quote = quoted_alike;
      result = result_in_capitals;
      written = written_in_capitals;
    }
