-- To the nearest penny, halves up, in these words (document 02, Paper 9): what `nearest` gives, and nothing else, is nearest; and what is added to a direct cost,
-- twice, is rounded so.
use Rattle.std.specs.Prelude.{◌≡◌, ℕ, ◌+◌, ◌-◌, ◌*◌, ◌≤◌}
use Rattle.pricing.specs.Price.{overhead_of, markup_of, nearest, line_price}

-- How far a number of pence is from an amount in ten-thousandths of a penny, in these. (Subtraction stops at 0: one of the two is 0.)
unfoldable pub distance : (exact pence : ℕ) → ℕ
distance exact pence = (exact - 10000 * pence) + (10000 * pence - exact)

-- No number of pence is nearer, and of two that are equally near it is the higher.
pub record NearestPenny (exact pence : ℕ) : Type 0 where
  pub none_nearer : (other : ℕ) → distance exact pence ≤ distance exact other
  pub halves_up : (other : ℕ) → distance exact other ≡ distance exact pence → other ≤ pence

-- The price of a tender line in these words: overhead worked on direct cost, markup on that sum, each rounded to the nearest penny and added.
pub record RoundedTwice (value cost : ℕ) : Type 0 where
  pub overhead : ℕ
  pub markup : ℕ
  pub overhead_rounded : NearestPenny (cost * overhead_of value) overhead
  pub markup_rounded : NearestPenny ((cost + overhead) * markup_of value) markup
  pub price : line_price value cost ≡ cost + overhead + markup

-- The claim.
pub record Rounding : Type 0 where
  pub given : (exact : ℕ) → NearestPenny exact (nearest exact)
  pub only : (exact pence : ℕ) → NearestPenny exact pence → pence ≡ nearest exact
  pub lines : (value cost : ℕ) → RoundedTwice value cost
