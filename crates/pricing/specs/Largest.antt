-- The arithmetic is exact: no number on the way to a quote needs more than 64 bits, and the largest quote is known (document 02, Paper 9).
use Rattle.std.specs.Prelude.{List, ◌≡◌, ℕ, ◌+◌, ◌*◌, ◌≤◌, ◌<◌, replicate}
use Rattle.pricing.specs.Price.{overhead_of, markup_of, with_rate, line_price, price_of}
use Rattle.pricing.specs.Quote.{most_lines, highest_cost, lines_refusal}

-- The highest rate set, the highest rate, and what these make of the highest direct cost: with overhead, and with markup on that.
abbrev pub highest_rates : ℕ
highest_rates = 4294967295

abbrev pub highest_rate : ℕ
highest_rate = 65535

abbrev pub highest_sum : ℕ
highest_sum = 7553500000

abbrev pub highest_price : ℕ
highest_price = 57055362250

-- The largest quote.
abbrev pub largest_quote : ℕ
largest_quote = 11411072450000

pub record Largest : Type 0 where
  -- of every line: both products, with the half penny that rounding adds, are below 5 * 10 ^ 14, and the price is at most the highest
  pub overhead_product : (value cost : ℕ) → value ≤ highest_rates → cost ≤ highest_cost → cost * overhead_of value + 5000 < 500000000000000
  pub markup_product : (value cost : ℕ) → value ≤ highest_rates → cost ≤ highest_cost
      → with_rate cost (overhead_of value) * markup_of value + 5000 < 500000000000000
  pub line : (value cost : ℕ) → value ≤ highest_rates → cost ≤ highest_cost → line_price value cost ≤ highest_price
  -- so high are the sum and the price of a line
  pub sum_met : with_rate highest_cost highest_rate ≡ highest_sum
  pub price_met : line_price highest_rates highest_cost ≡ highest_price
  -- of all lines that are priced
  pub quote : (value : ℕ) (costs : List ℕ) → value ≤ highest_rates → lines_refusal costs ≡ 0 → price_of value costs ≤ largest_quote
  -- which is met
  pub met : price_of highest_rates (replicate most_lines highest_cost) ≡ largest_quote
  pub met_by_lines : lines_refusal (replicate most_lines highest_cost) ≡ 0
