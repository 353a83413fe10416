-- Every text is a ticket or is wrong in one way, and never both (document 00, demand 1: "A ticket, well formed or damaged, gets a result, or the
-- number of its refusal and its first wrong line").
use Rattle.std.specs.Prelude.{List, ◌≡◌, ℕ}
use Rattle.consensus.specs.Instance.{Instance}
use Rattle.ticket_laws.specs.AcceptedTexts.{TicketOf}
use Rattle.ticket_laws.specs.FirstWrong.{FirstWrong}

-- What a text is.
pub data TextJudged (text : List ℕ) : Type 0 where
  is_ticket : (x : Instance) → TicketOf x text → TextJudged text
  is_wrong : (refusal line : ℕ) → FirstWrong text refusal line → TextJudged text

pub record TextsJudged : Type 0 where
  pub each : (text : List ℕ) → TextJudged text
  pub one_instance : (text : List ℕ) (x y : Instance) → TicketOf x text → TicketOf y text → x ≡ y
  pub one_refusal : (text : List ℕ) (refusal line refusal' line' : ℕ) → FirstWrong text refusal line → FirstWrong text refusal' line'
      → (refusal ≡ refusal') × (line ≡ line')
  pub not_both : (text : List ℕ) (x : Instance) (refusal line : ℕ) → TicketOf x text → FirstWrong text refusal line → ⊥
