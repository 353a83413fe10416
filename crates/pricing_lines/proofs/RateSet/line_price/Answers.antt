-- `RateSet::line_price` meets its contract. Assumes nothing.
use Rattle.std.proofs.Common.{◌*◌, ◌≤◌, arith}
use native.Mathlib.Nat.{mul-le-mul}
use Rattle.pricing.specs.Price.{nearest, with_rate}
use Rattle.pricing.specs.Quote.{highest_cost}
use Rattle.pricing.specs.Largest.{highest_rate}
use Rattle.pricing_lines.proofs.RateSet.line_price.Goals as goal

pub with_rate-requires : goal.with_rate-requires
unfolding with_rate nearest
with_rate-requires c =
    let low : c.args.self.overhead ≤ highest_rate = omega arith in
    let product : c.args.cost * c.args.self.overhead ≤ highest_cost * highest_rate = mul-le-mul c.requires low in
    omega arith
