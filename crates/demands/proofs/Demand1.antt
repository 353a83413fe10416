-- Demand 1, of tickets and of the process part. Assumes nothing.
use mathlib.Core.List.{List, [], ◌∷◌, ◌++◌, append-nil}
use mathlib.Core.Option.{some}
use mathlib.Core.Path.{◌≡◌, refl, sym, ap, ◌∙◌}
use Prim.Native.Nat.{ℕ, ◌<◌}
use native.Mathlib.Omega.{arith}
use lib.ListN.{length, get_or}
use Rattle.general.specs.BigEndian.{bytes_of}
use Rattle.general.proofs.Bytes.{Bytes, bytes_each, bytes_append}
use Rattle.general.proofs.BigEndian.{bytes_of_number, number_bytes}
use Rattle.consensus.specs.Instance.{Instance}
use Rattle.ticket_laws.specs.FirstWrong.{FirstWrong}
use Rattle.ticket_format.specs.Ticket.{read_ticket}
use Rattle.text.specs.Line.{Line, no_line, lines_of}
use Rattle.ticket_format.specs.Says.{is_kind}
use Rattle.text.specs.HexText.{hex_line}
use Rattle.answers.specs.ResultLine.{refusal_line}
use Rattle.answers.specs.Running.{result_in, running, buffer_after, written, program_writes}
use Rattle.text.proofs.LineReadBack.{line_read_back}
use Rattle.ticket_format.proofs.RefusalRange.{RefusedBy, last_refused, ticket_refused}
use Rattle.demands.specs.OutputSays.{line_at, refusal_from, refusal_said}
use Rattle.general.specs.Answer.{Answer, accepted, refused, and_then}
use Rattle.coordinator.specs.Settling.{first_settling}
use Rattle.coordinator_laws.proofs.Counts.{counts_fit}
use Rattle.coordinator_laws.proofs.FirstSettling.{first_settling_lem}
use Rattle.answers.specs.Settle.{settling}
use Rattle.answers.specs.Reason.{reason, reasons}
use Rattle.answers.specs.Reply.{answer_by, Writing}
use Rattle.answers.specs.Reply.{Reply}
use Rattle.answers.specs.Reply.{Refused}
use Rattle.answers.proofs.Replies.{same_reply}
use Rattle.answers.specs.Code.{code_of, number_code}
use Rattle.pricing_format.specs.Quoting.{quoting}
use Rattle.ticket_laws.proofs.WellFormed.{accepted_well_formed}
use Rattle.ticket_laws.proofs.RefusedTexts.{wrong_refused, refused_wrong, refused_texts_lem}
use Rattle.ticket_laws.proofs.AcceptedTexts.{accepted_texts_lem}
use Rattle.ticket_laws.proofs.TextsJudged.{texts_judged}
use Rattle.text.proofs.Split.{lines_split}
use Rattle.part_laws.proofs.PartCalls.{part_calls}
use Rattle.part_format.proofs.Refused.{refused_change_nothing, speak_answers_apart}
use Rattle.demands.specs.Demand1.{SettleAnswered, round, refusal, Replied, TicketsAnswered, Demand1}
use Rattle.demands.proofs.Answered.{unread_numbered, run_answered}

settle_answered : (text : List ℕ) (code : ℕ) → code ≡ number_code (settling text) → SettleAnswered text code
unfolding settling code_of
settle_answered text code e = by_reading (read_ticket text) refl e
  where
    by_reading : (reading : Answer Instance) → read_ticket text ≡ reading → code ≡ number_code (and_then reading (λ x. accepted (first_settling x))) → SettleAnswered text code
    by_reading (accepted x) read coded =
        let formed = accepted_well_formed text x read in
        round x (accepted_texts_lem.exact text x read) coded (omega (arith, coded, (first_settling_lem x formed).within.1, (counts_fit x formed).rounds))
    by_reading (refused number line) read coded =
        refusal number line (refused_wrong text number line read) coded (omega (arith, coded, unread_numbered text number line read))

-- What is replied to a refused text.
module _ (text : List ℕ) (number line : ℕ) (wrong : FirstWrong text number line) where
  unread : read_ticket text ≡ refused number line
  unread = wrong_refused text number line wrong

  replied_so : (reply : Reply) → answer_by reply ≡ refused number line → reply ≡ Refused number line
  unfolding answer_by
  replied_so reply e = same_reply reply (Refused number line) e

  wrote_nothing : (answer : ℕ → Answer (List ℕ)) (before after : List ℕ) (reply : Reply) → answer (length before) ≡ refused number line
      → Writing answer before after reply → (reply ≡ Refused number line) × (after ≡ before)
  unfolding buffer_after
  wrote_nothing answer before after reply e wrote = (replied_so reply (rw e at wrote.answered), rw e at wrote.buffer)

  replied : Replied text number line
  unfolding running settling reason reasons quoting
  replied =
      record {
        ran = λ before after reply. wrote_nothing (running text) before after reply (rw unread refl);
        settled = λ reply e. replied_so reply (e ∙ rw unread refl);
        reasoned = λ p r reply e. replied_so reply (e ∙ rw unread refl);
        explained = λ before after reply. wrote_nothing (reasons text) before after reply (rw unread refl);
        quoted = λ costs p reply e. replied_so reply (e ∙ rw unread refl);
      }

-- What the program writes for a refused text, and what it says.
program_refuses : (text : List ℕ) (number line : ℕ) → FirstWrong text number line → program_writes text ≡ refusal_line number line
unfolding program_writes written running result_in
program_refuses text number line w = rw (wrong_refused text number line w) refl

refusal_read_back : (number line : ℕ) → number < 256 → line < 65536 → refusal_said (refusal_line number line) ≡ some (record { refusal = number; line = line })
unfolding refusal_said refusal_from line_at refusal_line is_kind bytes_of
refusal_read_back number line small short =
    let front : Bytes (0x1F ∷ number ∷ []) = bytes_each (0x1F ∷ number ∷ []) (omega arith, (small, tt)) in
    let each = bytes_append (0x1F ∷ number ∷ []) (bytes_of 2 line) front (bytes_of_number 2 line) in
    let read = line_read_back 0x1F (number ∷ bytes_of 2 line) [] each in
    let whole : hex_line (0x1F ∷ number ∷ bytes_of 2 line) ++ [] ≡ hex_line (0x1F ∷ number ∷ bytes_of 2 line) = append-nil _ in
    ap (λ (l : List ℕ). refusal_from (get_or (lines_of l) 0 no_line)) (sym whole)
    ∙ ap (λ (lines : List Line). refusal_from (get_or lines 0 no_line)) read
    ∙ ap (λ (k : ℕ). some (record { refusal = number; line = k })) (number_bytes 2 line short)

program_says : (text : List ℕ) (number line : ℕ) → FirstWrong text number line
    → refusal_said (program_writes text) ≡ some (record { refusal = number; line = line })
unfolding RefusedBy
program_says text number line w =
    let range : RefusedBy last_refused (read_ticket text) = ticket_refused text in
    let known : RefusedBy {A = Instance} last_refused (refused number line) = rw (wrong_refused text number line w) at range in
    rw (program_refuses text number line w) (refusal_read_back number line (omega (arith, known.1)) (omega (arith, known.2)))

tickets_answered : TicketsAnswered
tickets_answered =
    record {
      run = run_answered;
      settle = settle_answered;
      replied = replied;
      program = λ text number line w. (program_refuses text number line w, program_says text number line w);
    }

pub demand_1 : Demand1
demand_1 =
    record {
      tickets = tickets_answered;
      parts = refused_change_nothing;
      speaking = speak_answers_apart;
      texts = texts_judged;
      accepts = accepted_texts_lem;
      refuses = refused_texts_lem;
      lines = lines_split;
      calls = part_calls;
    }
