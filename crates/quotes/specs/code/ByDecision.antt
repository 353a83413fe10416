-- For the code alone: the price by what a process has decided, if it has.
use Rattle.std.specs.Prelude.{List, ℕ, Option as Optional, Some, None}
use Rattle.std.proofs.Math.Option.{Option, some, none}
use Rattle.pricing.specs.Price.{price_of}

unfoldable pub price_by : (costs : List ℕ) → Optional ℕ → Option ℕ
price_by costs (Some v) = some (price_of v costs)
price_by costs None = none
