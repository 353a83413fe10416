-- The room for a result, from what running answers. Assumes nothing.
use mathlib.Core.List.{List}
use mathlib.Core.Path.{◌≡◌, ◌∙◌}
use Prim.Native.Nat.{ℕ, ◌≤◌, ◌<◌}
use borrow.Author.Tests.{lt-ltb, le-ltb}
use lib.ListN.{length}
use Rattle.consensus.specs.Instance.{Instance}
use Rattle.general.specs.Answer.{accepted, refused}
use Rattle.ticket_format.specs.Ticket.{read_ticket}
use Rattle.answers.specs.ResultLine.{result_text, result_size}
use Rattle.answers.specs.Running.{result_in, running, buffer_after}
use Rattle.answers.specs.Code.{code_of, refusal_code, RunCall}
use Rattle.answers.proofs.AnswerCases.{result_sizes}
use Rattle.answers.proofs.ResultLength.{length-text}
use Rattle.answers.specs.Reply.{answer_by, Ran}
use Rattle.answers.specs.Reply.{Reply}
use Rattle.answers.specs.Reply.{Given, Refused}
use Rattle.ticket_laws.proofs.WellFormed.{accepted_well_formed}
use Rattle.answers.proofs.Replies.{same_reply}
use Rattle.demands.specs.RoomClaim.{needed, Holds, RoomClaim}

module _ (text before : List ℕ) (x : Instance) (read : read_ticket text ≡ accepted x) where
  -- What running answers, by the room.
  too_short_lem : length before < needed x.processes → running text (length before) ≡ refused 9 0
  unfolding running result_in
  too_short_lem h = rw (read, lt-ltb (length before) (result_size x.processes) (rw (result_sizes.needed x.processes) h))

  fits : needed x.processes ≤ length before → running text (length before) ≡ accepted (result_text x)
  unfolding running result_in
  fits h = rw (read, le-ltb (length before) (result_size x.processes) (rw (result_sizes.needed x.processes) h))

  size : length (result_text x) ≡ needed x.processes
  size = length-text x (accepted_well_formed text x read) ∙ result_sizes.needed x.processes

short : (text before after : List ℕ) (answer : Reply) (x : Instance) → read_ticket text ≡ accepted x → Ran text before after answer
    → length before < needed x.processes → (answer ≡ Refused 9 0) × (after ≡ before)
unfolding answer_by buffer_after
short text before after answer x read ran h =
    let few = too_short_lem text before x read h in
    (same_reply answer (Refused 9 0) (rw few at ran.answered), rw few at ran.buffer)

short_called_lem : (text before after : List ℕ) (code : ℕ) (x : Instance) → read_ticket text ≡ accepted x → RunCall text before after code
    → length before < needed x.processes → (code ≡ refusal_code 9 0) × (after ≡ before)
unfolding code_of buffer_after
short_called_lem text before after code x read call h =
    let few = too_short_lem text before x read h in
    (rw few at call.answered, rw few at call.buffer)

enough : (text before after : List ℕ) (answer : Reply) (x : Instance) → read_ticket text ≡ accepted x → Ran text before after answer
    → needed x.processes ≤ length before → (answer ≡ Given (needed x.processes)) × Holds x before after
unfolding answer_by buffer_after
enough text before after answer x read ran h =
    let whole = fits text before x read h in
    let long = size text before x read in
    (same_reply answer (Given (needed x.processes)) (rw (whole, long) at ran.answered), rw (whole, long) at ran.buffer)

enough_called_lem : (text before after : List ℕ) (code : ℕ) (x : Instance) → read_ticket text ≡ accepted x → RunCall text before after code
    → needed x.processes ≤ length before → (code ≡ needed x.processes) × Holds x before after
unfolding code_of buffer_after
enough_called_lem text before after code x read call h =
    let whole = fits text before x read h in
    let long = size text before x read in
    (rw (whole, long) at call.answered, rw (whole, long) at call.buffer)

pub room_claim : RoomClaim
room_claim = record { short = short; short_called = short_called_lem; enough = enough; enough_called = enough_called_lem }
