-- `check_lines` meets its contract. Assumes nothing.
use Rattle.std.proofs.Common.{arith}
use Rattle.std.proofs.lemmas.Grind.{common_steps}
use Rattle.pricing.specs.Quote.{lines_refusal}
use Rattle.refusals.specs.Number.{number_of}
use Rattle.refusals.specs.Answered.{refusal_in}
use Rattle.pricing_lines.proofs.check_lines.Goals as goal

pub returns-then-not-contains : goal.returns-then-not-contains
unfolding refusal_in number_of lines_refusal
returns-then-not-contains c = grind (arith, common_steps)

pub returns-then-any_above : goal.returns-then-any_above
unfolding refusal_in number_of lines_refusal
returns-then-any_above c = grind (arith, common_steps)

pub returns : goal.returns
unfolding refusal_in number_of lines_refusal
returns c = grind (arith, common_steps)
