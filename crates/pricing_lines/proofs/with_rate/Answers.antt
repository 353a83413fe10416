-- `with_rate` meets its contract. Assumes nothing.
use Rattle.std.proofs.Common.{rules}
use Rattle.pricing.specs.Price.{nearest, with_rate}
use Rattle.pricing_lines.proofs.with_rate.Goals as goal

pub returns : goal.returns
unfolding with_rate nearest
returns c = search rules
