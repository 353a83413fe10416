-- `quote_by` meets its contract: a law for each reply. Assumes nothing.
use Rattle.std.proofs.Common.{Err, ◌∙◌, sym}
use Rattle.refusals.specs.Answered.{refusal_in}
use Rattle.quotes.proofs.Answers.{lines_told, none_told, priced}
use Rattle.quotes.proofs.quote_by.Goals as goal

pub returns-in-Err : goal.returns-in-Err
unfolding refusal_in
returns-in-Err c = lines_told _ _ _ (rw c.in-Err.is at c.check_lines.ensures) (Err _) c.at_line.ensures

pub returns-in_err-value : goal.returns-in_err-value
unfolding refusal_in
returns-in_err-value c =
    none_told _ _ (rw c.in-Ok.is at c.check_lines.ensures) _ (sym c.ok_or.ensures.value ∙ c.in_err-value.was) _ c.from_residual.ensures.1

pub price-requires : goal.price-requires
unfolding refusal_in
price-requires c = sym (rw c.in-Ok.is at c.check_lines.ensures)

pub returns : goal.returns
unfolding refusal_in
returns c = priced _ _ (rw c.in-Ok.is at c.check_lines.ensures) _ (sym c.ok_or.ensures.value ∙ c.in_ok-value.was) _ c.price.ensures
