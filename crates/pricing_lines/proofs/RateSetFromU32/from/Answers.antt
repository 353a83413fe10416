-- The rates of a value. Assumes nothing.
use Rattle.std.proofs.Common.{refl}
use Rattle.pricing.specs.Price.{overhead_of, markup_of}
use Rattle.pricing_lines.proofs.RateSetFromU32.from.Goals as goal

pub returns : goal.returns
unfolding overhead_of markup_of
returns c = refl
