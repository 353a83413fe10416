-- Searching numbers upwards.
use Rattle.std.specs.Prelude.{ℕ, zero, suc, Bool, cond}

-- The lowest number from `from` on that passes, of `many` numbers; the number behind them, where none of them does.
unfoldable pub lowest_from : (passes : ℕ → Bool) → (from many : ℕ) → ℕ
lowest_from passes from zero = from
lowest_from passes from (suc many) = cond (passes from) from (lowest_from passes (suc from) many)
