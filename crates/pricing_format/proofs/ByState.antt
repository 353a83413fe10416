-- What nine bytes quote, by their mark and their value. Assumes nothing.
use mathlib.Core.List.{List}
use mathlib.Core.Option.{Option, some, none}
use mathlib.Core.Path.{◌≡◌, refl}
use mathlib.Core.Bool.{Bool, true, false, cond}
use Prim.Native.Nat.{ℕ}
use lib.Dec.{eqb}
use Rattle.consensus.specs.declared.State.TheVariants.{Undecided as undecided, Decided as decided}
use Rattle.pricing.specs.Price.{price_of}
use Rattle.pricing.specs.Quote.{quote_by}
use Rattle.part_format.specs.PartState.{state_from}
use Rattle.part_host.specs.Part.{up}
use Rattle.part_host.specs.PartEnds.{state_by_part}

-- The price, if the process has decided.
abbrev pub price_if : (known : Bool) → (value : ℕ) → (costs : List ℕ) → Option ℕ
price_if known value costs = cond known (some (price_of value costs)) none

pub quote_by_state : (b costs : List ℕ) → quote_by (state_by_part (up b)) costs ≡ price_if (eqb (state_from b).mark 1) (state_from b).value costs
unfolding state_by_part quote_by
quote_by_state b costs = by_mark (eqb (state_from b).mark 1)
  where
    by_mark : (first : Bool) → quote_by (cond first (decided (state_from b).round (state_from b).value) (undecided (state_from b).value)) costs
        ≡ price_if first (state_from b).value costs
    by_mark true = refl
    by_mark false = refl
