-- Which texts are refused (document 00, demand 1: "the number of its refusal and its first wrong line (0 if no line is wrong)").
use Rattle.std.specs.Prelude.{List, ◌≡◌, ℕ}
use Rattle.general.specs.Answer.{refused}
use Rattle.ticket_format.specs.Ticket.{read_ticket}
use Rattle.ticket_laws.specs.FirstWrong.{FirstWrong}

-- Reading refuses a text with exactly the number and the line that document 01's words give it.
pub record RefusedTexts : Type 0 where
  pub given : (text : List ℕ) (refusal line : ℕ) → FirstWrong text refusal line → read_ticket text ≡ refused refusal line
  pub only : (text : List ℕ) (refusal line : ℕ) → read_ticket text ≡ refused refusal line → FirstWrong text refusal line
