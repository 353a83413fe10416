-- Which lines are priced: one law for each refusal, and what is known of lines that are not refused. Assumes nothing.
use mathlib.Core.List.{List, ◌∷◌}
use mathlib.Core.Path.{◌≡◌, refl}
use mathlib.Core.Bool.{Bool, true, false, cond}
use Prim.Native.Nat.{ℕ, ◌≤◌, ◌<◌}
use native.Mathlib.Omega.{arith}
use borrow.Author.Tests.{eq-eqb, ne_eqb, lt-ltb, le-ltb, ltb-false}
use lib.Dec.{eqb, ltb}
use lib.ListN.{length}
use Rattle.pricing.specs.Quote.{most_lines, highest_cost, any_above, lines_refusal}

-- The first cost of some, and the others.
module _ (limit cost : ℕ) (costs : List ℕ) where
  pub first_below : cost ≤ limit → any_above limit (cost ∷ costs) ≡ any_above limit costs
  unfolding any_above
  first_below h = rw (le-ltb limit cost h) refl

  first_tested : (b : Bool) → ltb limit cost ≡ b → any_above limit (cost ∷ costs) ≡ false → (cost ≤ limit) × (any_above limit costs ≡ false)
  unfolding any_above
  first_tested true e within = let clash : true ≡ false = rw e at within in absurd (let z : ◌≡◌ {A = ℕ} 0 1 = cc in omega arith)
  first_tested false e within = (ltb-false limit cost e, rw e at within)

  pub first_within : any_above limit (cost ∷ costs) ≡ false → cost ≤ limit
  first_within within = (first_tested (ltb limit cost) refl within).0

  pub rest_within : any_above limit (cost ∷ costs) ≡ false → any_above limit costs ≡ false
  rest_within within = (first_tested (ltb limit cost) refl within).1

module _ (costs : List ℕ) where
  -- 14, 14, 15 and 0.
  pub no_lines_lem : length costs ≡ 0 → lines_refusal costs ≡ 14
  unfolding lines_refusal
  no_lines_lem h = rw (eq-eqb (length costs) 0 h) refl

  pub many_lines_lem : most_lines < length costs → lines_refusal costs ≡ 14
  unfolding lines_refusal
  many_lines_lem h = rw (ne_eqb (length costs) 0 (λ e. omega arith), lt-ltb most_lines (length costs) h) refl

  module _ (some : (length costs ≡ 0 → ⊥)) (few : length costs ≤ most_lines) where
    pub by_costs : lines_refusal costs ≡ cond (any_above highest_cost costs) 15 0
    unfolding lines_refusal
    by_costs = rw (ne_eqb (length costs) 0 some, le-ltb most_lines (length costs) few) refl

  -- Of lines that are not refused.
  tested : (a b c : Bool) → eqb (length costs) 0 ≡ a → ltb most_lines (length costs) ≡ b → any_above highest_cost costs ≡ c → lines_refusal costs ≡ 0
      → (length costs ≤ most_lines) × (any_above highest_cost costs ≡ false)
  unfolding lines_refusal
  tested true b c e f g priced = absurd (let clash : 14 ≡ 0 = rw e at priced in let z : ⊥ = omega arith in z)
  tested false true c e f g priced = absurd (let clash : 14 ≡ 0 = rw (e, f) at priced in let z : ⊥ = omega arith in z)
  tested false false true e f g priced = absurd (let clash : 15 ≡ 0 = rw (e, f, g) at priced in let z : ⊥ = omega arith in z)
  tested false false false e f g priced = (ltb-false most_lines (length costs) f, g)

  pub few_lines : lines_refusal costs ≡ 0 → length costs ≤ most_lines
  few_lines priced = (tested (eqb (length costs) 0) (ltb most_lines (length costs)) (any_above highest_cost costs) refl refl refl priced).0

  pub none_above : lines_refusal costs ≡ 0 → any_above highest_cost costs ≡ false
  none_above priced = (tested (eqb (length costs) 0) (ltb most_lines (length costs)) (any_above highest_cost costs) refl refl refl priced).1

  -- A refusal of lines is 14 or 15.
  abbrev refusal_by : (a b c : Bool) → ℕ
  refusal_by a b c = cond a 14 (cond b 14 (cond c 15 0))

  refused_as : (a b c : Bool) → (refusal_by a b c ≡ 0 → ⊥) → (14 ≤ refusal_by a b c) × (refusal_by a b c ≤ 15)
  refused_as true b c h = (omega arith, omega arith)
  refused_as false true c h = (omega arith, omega arith)
  refused_as false false true h = (omega arith, omega arith)
  refused_as false false false h = absurd (h refl)

  pub lines_refused : (lines_refusal costs ≡ 0 → ⊥) → (14 ≤ lines_refusal costs) × (lines_refusal costs ≤ 15)
  unfolding lines_refusal
  lines_refused h = refused_as (eqb (length costs) 0) (ltb most_lines (length costs)) (any_above highest_cost costs) h
