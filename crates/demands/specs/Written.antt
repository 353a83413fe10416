-- Where running writes a result (document 01, 'A round', last paragraph: "wherever running writes a result").
use Rattle.std.specs.Prelude.{List, ◌++◌, ◌≡◌, ℕ, ◌<◌}
use Rattle.consensus.specs.Instance.{Instance}
use Rattle.general.specs.Answer.{accepted}
use Rattle.ticket_format.specs.Ticket.{read_ticket}
use Rattle.answers.specs.ResultLine.{result_text}
use Rattle.answers.specs.Running.{program_writes}
use Rattle.answers.specs.Code.{refusals_from, RunCall}
use Rattle.answers.specs.Reply.{Ran}
use Rattle.answers.specs.Reply.{Given}

-- The result of an accepted text stands at the front of `out`.
pub record Wrote (text : List ℕ) (x : Instance) (out : List ℕ) : Type 0 where
  pub read : read_ticket text ≡ accepted x
  pub behind : List ℕ
  pub front : out ≡ result_text x ++ behind

-- The claim: it does wherever running answers that it wrote one, by the library's own contract; wherever the C call answers less than 65536, by that call's
-- answer and bytes alone; and in what the program writes for an accepted text.
pub record WritesResults : Type 0 where
  pub by_running : (text before out : List ℕ) (size : ℕ) → Ran text before out (Given size) → (x : Instance) × Wrote text x out
  pub by_call : (text before out : List ℕ) (code : ℕ) → RunCall text before out code → code < refusals_from → (x : Instance) × Wrote text x out
  pub by_program : (text : List ℕ) (x : Instance) → read_ticket text ≡ accepted x → Wrote text x (program_writes text)
