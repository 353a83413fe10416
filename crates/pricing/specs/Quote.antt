-- Which lines are priced, and what a process quotes by how it ends (document 02, Paper 9: "It stands above the agreement and rests only on its results.").
use Rattle.std.specs.Prelude.{List, [], ◌∷◌, Bool, true, false, cond, ℕ, eqb, ltb, length}
use Rattle.std.proofs.Math.Option.{Option, some, none}
use Rattle.consensus.specs.declared.State.{State}
use Rattle.consensus.specs.declared.State.TheVariants.{Undecided as undecided, Decided as decided, Crashed as crashed}
use Rattle.pricing.specs.Price.{price_of}

-- The most tender lines, and the highest direct cost.
abbrev pub most_lines : ℕ
most_lines = 200

abbrev pub highest_cost : ℕ
highest_cost = 1000000000

-- Whether some cost is above a limit.
unfoldable pub any_above : (limit : ℕ) → (costs : List ℕ) → Bool
any_above limit [] = false
any_above limit (cost ∷ costs) = cond (ltb limit cost) true (any_above limit costs)

-- The refusal of lines that are not priced, 0 for none: "14, no lines or more than 200; 15, a direct cost above 1,000,000,000".
unfoldable pub lines_refusal : (costs : List ℕ) → ℕ
lines_refusal costs = cond (eqb (length costs) 0) 14 (cond (ltb most_lines (length costs)) 14 (cond (any_above highest_cost costs) 15 0))

-- What a process that ends so quotes: the price by its decided value; one that has crashed (document 02: dark) quotes nothing, nor would one that had not
-- decided.
unfoldable pub quote_by : State → (costs : List ℕ) → Option ℕ
quote_by (undecided v) costs = none
quote_by (decided round v) costs = some (price_of v costs)
quote_by (crashed round) costs = none
