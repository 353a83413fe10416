-- What running answers on any text and any room, by cases, and so what its call in C answers and leaves. Assumes nothing.
use mathlib.Core.List.{List}
use mathlib.Core.Path.{◌≡◌, refl, ◌∙◌}
use mathlib.Core.Bool.{Bool, true, false}
use Prim.Native.Nat.{ℕ, ◌≤◌, ◌<◌}
use native.Mathlib.Omega.{arith}
use borrow.Author.Tests.{ltb-true, ltb-false}
use lib.Dec.{ltb}
use lib.ListN.{length}
use Rattle.consensus.specs.Instance.{Instance}
use Rattle.general.specs.Answer.{Answer, accepted, refused, and_then}
use Rattle.ticket_format.specs.Ticket.{read_ticket}
use Rattle.answers.specs.ResultLine.{result_text, result_size}
use Rattle.answers.specs.Running.{result_in, running, buffer_after}
use Rattle.answers.specs.Code.{code_of, refusals_from, RunCall}
use Rattle.ticket_laws.proofs.WellFormed.{accepted_well_formed}
use Rattle.ticket_format.proofs.RefusalRange.{RefusedBy, last_refused, ticket_refused}
use Rattle.answers.proofs.ResultLength.{length-text}
use Rattle.ticket_laws.proofs.AcceptedTexts.{accepted_texts_lem}
use Rattle.ticket_laws.proofs.RefusedTexts.{refused_wrong}
use Rattle.demands.specs.Demand1.{wrong, too_short, RunAnswered, result, refusal}

-- The three answers of running.
pub data RunCase (text : List ℕ) (room : ℕ) : Answer (List ℕ) → Type 0 where
  fits : (x : Instance) → read_ticket text ≡ accepted x → result_size x.processes ≤ room → RunCase text room (accepted (result_text x))
  short : (x : Instance) → read_ticket text ≡ accepted x → room < result_size x.processes → RunCase text room (refused 9 0)
  unread : (number line : ℕ) → read_ticket text ≡ refused number line → RunCase text room (refused number line)

pub run_case : (text : List ℕ) (room : ℕ) → RunCase text room (running text room)
unfolding running result_in
run_case text room = by_reading (read_ticket text) refl
  where
    by_room : (x : Instance) → read_ticket text ≡ accepted x → (b : Bool) → ltb room (result_size x.processes) ≡ b
        → RunCase text room (result_in room x)
    by_room x e true h = rw h (short x e (ltb-true _ _ h))
    by_room x e false h = rw h (fits x e (ltb-false _ _ h))

    by_reading : (reading : Answer Instance) → read_ticket text ≡ reading → RunCase text room (and_then reading (result_in room))
    by_reading (accepted x) e = by_room x e (ltb room (result_size x.processes)) refl
    by_reading (refused number line) e = unread number line e

-- A refusal has a number from 1 on, so that its code is none of a result.
pub unread_numbered : (text : List ℕ) (number line : ℕ) → read_ticket text ≡ refused number line → 1 ≤ number
unfolding RefusedBy
unread_numbered text number line e = let range : RefusedBy last_refused (read_ticket text) = ticket_refused text in (rw e at range).0

pub result_small : (text : List ℕ) (x : Instance) → read_ticket text ≡ accepted x → result_size x.processes < refusals_from
unfolding result_size
result_small text x e = let formed = accepted_well_formed text x e in omega (arith, formed.at_most_64)

module _ (text before after : List ℕ) (code : ℕ) (call : RunCall text before after code) where
  by_case : (a : Answer (List ℕ)) → running text (length before) ≡ a → RunCase text (length before) a → RunAnswered text before after code
  unfolding code_of buffer_after
  by_case (accepted r) e (fits x read room) =
      let size = length-text x (accepted_well_formed text x read) in
      let coded : code ≡ result_size x.processes = (rw e at call.answered) ∙ size in
      result x (accepted_texts_lem.exact text x read) room coded (omega (arith, result_small text x read)) (rw (e, size) at call.buffer)
  by_case (refused number line) e (short x read room) =
      refusal 9 0 (too_short x (accepted_texts_lem.exact text x read) room) (rw e at call.answered) (rw (call.answered, e) (omega arith)) (rw e at call.buffer)
  by_case (refused number line) e (unread _ _ read) =
      let some = unread_numbered text number line read in
      refusal number line (wrong (refused_wrong text number line read))
      (rw e at call.answered) (rw (call.answered, e) (omega arith)) (rw e at call.buffer)

  pub run_answered : RunAnswered text before after code
  run_answered = by_case (running text (length before)) refl (run_case text (length before))
