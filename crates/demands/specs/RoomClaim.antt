-- The room for a result (document 02, Paper 2: "Refusal 9 now means output shorter than 21n + 17 bytes"), of every accepted text and every buffer, in Rattle
-- and in C.
use Rattle.std.specs.Prelude.{List, ◌++◌, ◌≡◌, ℕ, ◌+◌, ◌*◌, ◌≤◌, ◌<◌, length, drop}
use Rattle.consensus.specs.Instance.{Instance}
use Rattle.general.specs.Answer.{accepted}
use Rattle.ticket_format.specs.Ticket.{read_ticket}
use Rattle.answers.specs.ResultLine.{result_text}
use Rattle.answers.specs.Code.{refusal_code, RunCall}
use Rattle.answers.specs.Reply.{Ran}
use Rattle.answers.specs.Reply.{Reply}
use Rattle.answers.specs.Reply.{Given, Refused}

-- The bytes that the result of n processes needs.
abbrev pub needed : (n : ℕ) → ℕ
needed n = 21 * n + 17

-- The result stands at the front of the buffer, and behind it what stood there.
abbrev pub Holds : Instance → (before after : List ℕ) → Type 0
Holds x before after = after ≡ result_text x ++ drop (needed x.processes) before

pub record RoomClaim : Type 0 where
  -- a buffer that is shorter gets refusal 9, of no line, and stays as it was
  pub short : (text before after : List ℕ) (answer : Reply) (x : Instance) → read_ticket text ≡ accepted x → Ran text before after answer
      → length before < needed x.processes → (answer ≡ Refused 9 0) × (after ≡ before)
  pub short_called : (text before after : List ℕ) (code : ℕ) (x : Instance) → read_ticket text ≡ accepted x → RunCall text before after code
      → length before < needed x.processes → (code ≡ refusal_code 9 0) × (after ≡ before)
  -- into any other that many bytes are written
  pub enough : (text before after : List ℕ) (answer : Reply) (x : Instance) → read_ticket text ≡ accepted x → Ran text before after answer
      → needed x.processes ≤ length before → (answer ≡ Given (needed x.processes)) × Holds x before after
  pub enough_called : (text before after : List ℕ) (code : ℕ) (x : Instance) → read_ticket text ≡ accepted x → RunCall text before after code
      → needed x.processes ≤ length before → (code ≡ needed x.processes) × Holds x before after
