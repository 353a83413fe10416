-- No number on the way to a quote needs more than 64 bits, and which quote is the largest. Assumes nothing.
use mathlib.Core.List.{List, [], ◌∷◌}
use mathlib.Core.Path.{◌≡◌, refl}
use mathlib.Core.Bool.{false}
use Prim.Native.Nat.{ℕ, ◌*◌, ◌≤◌}
use native.Mathlib.Nat.{mul-le-mul}
use native.Mathlib.Omega.{arith}
use lib.ListN.{length}
use Rattle.pricing.specs.Price.{overhead_of, markup_of, nearest, with_rate, line_price, price_of}
use Rattle.pricing.specs.Quote.{highest_cost, any_above, lines_refusal}
use Rattle.pricing.specs.Largest.{highest_rates, highest_rate, highest_sum, highest_price, largest_quote, Largest}
use Rattle.pricing.proofs.Lines.{few_lines, first_within, rest_within, none_above}

-- The rates of a value.
overhead_low : (value : ℕ) → value ≤ highest_rates → overhead_of value ≤ highest_rate
unfolding overhead_of
overhead_low value h = omega arith

markup_low : (value : ℕ) → markup_of value ≤ highest_rate
unfolding markup_of
markup_low value = omega arith

-- What is worked out of an amount that is not above the highest sum.
pub product_low : (amount rate : ℕ) → amount ≤ highest_sum → rate ≤ highest_rate → amount * rate ≤ 495018622500000
product_low amount rate h g = let most : amount * rate ≤ highest_sum * highest_rate = mul-le-mul h g in omega arith

module _ (value cost : ℕ) (rates : value ≤ highest_rates) (low : cost ≤ highest_cost) where
  pub overhead_product_lem : cost * overhead_of value ≤ 65535000000000
  overhead_product_lem = let most : cost * overhead_of value ≤ highest_cost * highest_rate = mul-le-mul low (overhead_low value rates) in omega arith

  pub sum_low : with_rate cost (overhead_of value) ≤ highest_sum
  unfolding with_rate nearest
  sum_low = let product = overhead_product_lem in omega arith

  pub markup_product_lem : with_rate cost (overhead_of value) * markup_of value ≤ 495018622500000
  markup_product_lem = product_low (with_rate cost (overhead_of value)) (markup_of value) sum_low (markup_low value)

  pub line_low : line_price value cost ≤ highest_price
  unfolding line_price with_rate nearest
  line_low = let product = markup_product_lem in let sum = sum_low in omega arith

-- Lines of which none costs more than the highest cost.
pub lines_low : (value : ℕ) (costs : List ℕ) → value ≤ highest_rates → any_above highest_cost costs ≡ false → price_of value costs ≤ length costs * highest_price
unfolding price_of
lines_low value [] rates within = omega arith
lines_low value (cost ∷ costs) rates within =
    let first = line_low value cost rates (first_within highest_cost cost costs within) in
    let others = lines_low value costs rates (rest_within highest_cost cost costs within) in
    omega arith

quote_low : (value : ℕ) (costs : List ℕ) → value ≤ highest_rates → lines_refusal costs ≡ 0 → price_of value costs ≤ largest_quote
quote_low value costs rates priced =
    let few = few_lines costs priced in
    let low = lines_low value costs rates (none_above costs priced) in
    omega arith

pub largest : Largest
unfolding overhead_of markup_of nearest with_rate line_price price_of any_above lines_refusal
largest =
    record {
      overhead_product = λ value cost rates low. omega (arith, overhead_product_lem value cost rates low);
      markup_product = λ value cost rates low. omega (arith, markup_product_lem value cost rates low);
      line = line_low;
      sum_met = refl;
      price_met = refl;
      quote = quote_low;
      met = refl;
      met_by_lines = refl;
    }
