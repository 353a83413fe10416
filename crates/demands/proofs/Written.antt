-- Where running writes a result: by the library's contract, by the C call's answer and bytes, and by the program. Assumes nothing.
use mathlib.Core.List.{List, [], append-nil}
use mathlib.Core.Path.{◌≡◌, refl, sym, ap, ◌∙◌}
use Prim.Native.Nat.{ℕ, ◌≤◌, ◌<◌}
use native.Mathlib.Omega.{arith}
use lib.ListN.{length, drop}
use Rattle.consensus.specs.Instance.{Instance}
use Rattle.general.specs.Answer.{Answer, accepted, refused}
use Rattle.ticket_format.specs.Ticket.{read_ticket}
use Rattle.answers.specs.ResultLine.{result_text, result_size}
use Rattle.answers.specs.Running.{running, buffer_after, written, program_writes}
use Rattle.answers.specs.Code.{refusals_from}
use Rattle.answers.specs.Reply.{answer_by, Ran}
use Rattle.answers.specs.Reply.{Given}
use Rattle.ticket_laws.proofs.AcceptedTexts.{accepted_texts_lem}
use Rattle.ticket_laws.proofs.WellFormed.{accepted_well_formed}
use Rattle.ticket_format.proofs.Passing.{refused_accepted}
use Rattle.demands.specs.Demand1.{RunAnswered, result, refusal}
use Rattle.demands.specs.Written.{Wrote, WritesResults}
use Rattle.demands.proofs.Answered.{RunCase, fits, short, unread, run_case, run_answered}

-- A refusal writes no result.
accepted_not_refused : (size number line : ℕ) → accepted size ≡ refused number line → ⊥
accepted_not_refused size number line e = let z : ◌≡◌ {A = ℕ} 0 1 = cc in omega arith

ran_wrote : (text before out : List ℕ) (size : ℕ) → Ran text before out (Given size) → (x : Instance) × Wrote text x out
unfolding answer_by buffer_after
ran_wrote text before out size ran = by_case (running text (length before)) refl (run_case text (length before))
  where
    by_case : (a : Answer (List ℕ)) → running text (length before) ≡ a → RunCase text (length before) a → (x : Instance) × Wrote text x out
    by_case (accepted r) e (fits x read room) = (x, record { read = read; behind = drop (length (result_text x)) before; front = rw e at ran.buffer })
    by_case (refused number line) e (short x read room) = absurd (accepted_not_refused size 9 0 (rw e at ran.answered))
    by_case (refused number line) e (unread _ _ read) = absurd (accepted_not_refused size number line (rw e at ran.answered))

answered_wrote : (text before out : List ℕ) (code : ℕ) → code < refusals_from → RunAnswered text before out code → (x : Instance) × Wrote text x out
answered_wrote text before out code small (result x ticket room size less front) =
    (x, record { read = accepted_texts_lem.complete text x ticket; behind = drop (result_size x.processes) before; front = front })
answered_wrote text before out code small (refusal number line reason coded large same) = absurd (omega arith)

-- The program has room for the result of 64 processes.
program_fits : (text : List ℕ) (x : Instance) → read_ticket text ≡ accepted x → result_size x.processes ≤ result_size 64
unfolding result_size
program_fits text x read = let formed = accepted_well_formed text x read in omega (arith, formed.at_most_64)

program_wrote : (text : List ℕ) (x : Instance) → read_ticket text ≡ accepted x → Wrote text x (program_writes text)
unfolding program_writes written
program_wrote text x read = by_case (running text (result_size 64)) refl (run_case text (result_size 64))
  where
    by_case : (a : Answer (List ℕ)) → running text (result_size 64) ≡ a → RunCase text (result_size 64) a → Wrote text x (program_writes text)
    by_case (accepted r) e (fits y again room) =
        let same : y ≡ x = cc in
        record { read = read; behind = []; front = ap written e ∙ ap result_text same ∙ sym (append-nil (result_text x)) }
    by_case (refused number line) e (short y again room) = absurd (omega (arith, program_fits text y again))
    by_case (refused number line) e (unread _ _ again) = absurd (refused_accepted number line x (sym again ∙ read))

pub writes_results : WritesResults
writes_results =
    record {
      by_running = ran_wrote;
      by_call = λ text before out code call small. answered_wrote text before out code small (run_answered text before out code call);
      by_program = program_wrote;
    }
