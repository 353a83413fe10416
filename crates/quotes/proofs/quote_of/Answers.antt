-- `quote_of` meets its contract: it quotes by what the process decides. Assumes nothing.
use Rattle.std.proofs.Common.{◌∙◌, refl}
use Rattle.quotes.proofs.Answers.{by_decision, refused_told}
use Rattle.quotes.proofs.quote_of.Goals as goal

pub returns-in-Ok : goal.returns-in-Ok
returns-in-Ok c = c.quote_by.ensures ∙ by_decision _ _ _ _ (rw c.in-Ok.is at c.decision_of.ensures)

pub returns-in-Err : goal.returns-in-Err
returns-in-Err c = refused_told _ _ _ _ (rw c.in-Err.is at c.decision_of.ensures) _ refl
