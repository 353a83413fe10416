-- The settling round of every accepted text, and what the calls name (document 02, Paper 6: "Two report pages named different settling rounds for one run,
-- both true. The operation must name the lowest that qualifies").
use Rattle.std.specs.Prelude.{List, ◌≡◌, ℕ}
use Rattle.consensus.specs.Instance.{Instance}
use Rattle.coordinator_laws.specs.FirstSettling.{FirstSettles, SettledSince}
use Rattle.general.specs.Answer.{accepted}
use Rattle.ticket_format.specs.Ticket.{read_ticket}
use Rattle.answers.specs.Settle.{settling}
use Rattle.answers.specs.Code.{number_code}
use Rattle.answers.specs.Reply.{answer_by}
use Rattle.answers.specs.Reply.{Reply}
use Rattle.answers.specs.Reply.{Given}

pub record SettlingClaim : Type 0 where
  -- an accepted text is answered with a round, its first settling round, by the library's own contract and by the C call's
  pub named : (text : List ℕ) (x : Instance) (answer : Reply) → read_ticket text ≡ accepted x → answer_by answer ≡ settling text
      → (r : ℕ) × (answer ≡ Given r) × FirstSettles x r × SettledSince x r
  pub called : (text : List ℕ) (x : Instance) (code : ℕ) → read_ticket text ≡ accepted x → code ≡ number_code (settling text)
      → FirstSettles x code × SettledSince x code
  -- a run has no other, so that two pages name the same
  pub only : (x : Instance) (r s : ℕ) → FirstSettles x r → FirstSettles x s → r ≡ s
