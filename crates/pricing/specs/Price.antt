-- What a rate set makes of direct costs (document 02, Paper 9). Amounts are in pence.
use Rattle.std.specs.Prelude.{List, [], ◌∷◌, ℕ, ◌+◌, ◌*◌, ◌/◌, ◌%◌}

-- A rate set is a value of four bytes: "Its upper two bytes are the overhead and its lower two the markup, in hundredths of a percent."
unfoldable pub overhead_of : (value : ℕ) → ℕ
overhead_of value = value / 65536

unfoldable pub markup_of : (value : ℕ) → ℕ
markup_of value = value % 65536

-- An amount in ten-thousandths of a penny, "rounded to the nearest penny, halves up" (what that means: `Rounding`).
unfoldable pub nearest : (exact : ℕ) → ℕ
nearest exact = (exact + 5000) / 10000

-- So many hundredths of a percent worked on an amount, rounded, and added. A hundredth of a percent of a penny is a ten-thousandth of one.
unfoldable pub with_rate : (amount rate : ℕ) → ℕ
with_rate amount rate = amount + nearest (amount * rate)

-- The price of a tender line: overhead is worked on direct cost, markup on that sum.
unfoldable pub line_price : (value cost : ℕ) → ℕ
line_price value cost = with_rate (with_rate cost (overhead_of value)) (markup_of value)

-- "The quote is the sum of lines."
unfoldable pub price_of : (value : ℕ) → (costs : List ℕ) → ℕ
price_of value [] = 0
price_of value (cost ∷ costs) = line_price value cost + price_of value costs
