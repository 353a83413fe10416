-- The number that tells which lines are priced says what the paper does. Assumes nothing.
use mathlib.Core.List.{List, [], ◌∷◌}
use mathlib.Core.Path.{◌≡◌, refl, sym, ap, ◌∙◌}
use mathlib.Core.Bool.{Bool, true, false, cond, true≢false}
use Prim.Native.Nat.{ℕ, zero, suc, ◌≤◌, ◌<◌}
use native.Mathlib.Omega.{arith}
use lib.Dec.{eqb, ltb}
use lib.ListN.{length, get_or}
use borrow.Author.Tests.{eqb-true, eqb-false, ltb-true, ltb-false}
use Rattle.pricing.specs.Quote.{most_lines, highest_cost, any_above, lines_refusal}
use Rattle.pricing.specs.PricedLines.{Priced, Unpriced, no_lines, many_lines, high_cost, PricedLines}
use Rattle.pricing.proofs.Lines.{first_below, first_within, rest_within, no_lines_lem, many_lines_lem, by_costs, few_lines, none_above}

module _ (limit : ℕ) where
  -- No cost is above the limit, or some is.
  pub all_within : (costs : List ℕ) → any_above limit costs ≡ false → (i : ℕ) → i < length costs → get_or costs i 0 ≤ limit
  all_within [] none i h = absurd (let z : ⊥ = omega arith in z)
  all_within (cost ∷ costs) none zero h = first_within limit cost costs none
  all_within (cost ∷ costs) none (suc i) h = all_within costs (rest_within limit cost costs none) i (omega arith)

  within_all : (costs : List ℕ) → ((i : ℕ) → i < length costs → get_or costs i 0 ≤ limit) → any_above limit costs ≡ false
  unfolding any_above
  within_all [] low = refl
  within_all (cost ∷ costs) low = first_below limit cost costs (low 0 (omega arith)) ∙ within_all costs (λ i h. low (suc i) (omega arith))

  abbrev HighCost : List ℕ → Type 0
  HighCost costs = (i : ℕ) × (i < length costs) × (limit < get_or costs i 0)

  above_first : (cost : ℕ) (costs : List ℕ) → (any_above limit costs ≡ true → HighCost costs) → any_above limit (cost ∷ costs) ≡ true
      → (b : Bool) → ltb limit cost ≡ b → HighCost (cost ∷ costs)
  above_first cost costs others above true e = (0, omega arith, ltb-true limit cost e)
  above_first cost costs others above false e =
      let (i, inside, high) = others (sym (first_below limit cost costs (ltb-false limit cost e)) ∙ above) in
      (suc i, omega arith, high)

  some_above : (costs : List ℕ) → any_above limit costs ≡ true → HighCost costs
  unfolding any_above
  some_above [] above = absurd (true≢false (sym above))
  some_above (cost ∷ costs) above = above_first cost costs (some_above costs) above (ltb limit cost) refl

module _ (costs : List ℕ) where
  priced : lines_refusal costs ≡ 0 → Priced costs
  priced zeroth =
      record {
        some = omega (arith, by_length (eqb (length costs) 0) refl);
        few = few_lines costs zeroth;
        low = all_within highest_cost costs (none_above costs zeroth);
      }
    where
      by_length : (b : Bool) → eqb (length costs) 0 ≡ b → 1 ≤ length costs
      by_length true e = absurd (let wrong : 14 ≡ 0 = sym (no_lines_lem costs (eqb-true (length costs) 0 e)) ∙ zeroth in let z : ⊥ = omega arith in z)
      by_length false e = let some : length costs ≡ 0 → ⊥ = eqb-false (length costs) 0 e in omega arith

  taken : Priced costs → lines_refusal costs ≡ 0
  taken known =
      let none : any_above highest_cost costs ≡ false = within_all highest_cost costs known.low in
      by_costs costs (λ e. omega (arith, e, known.some)) known.few ∙ ap (λ (b : Bool). cond b 15 0) none

  -- By whether there are lines, whether there are too many, and whether one costs too much.
  unpriced_by : (a b c : Bool) → eqb (length costs) 0 ≡ a → ltb most_lines (length costs) ≡ b → any_above highest_cost costs ≡ c
      → (lines_refusal costs ≡ 0 → ⊥) → Unpriced costs (lines_refusal costs)
  unpriced_by true b c e f g wrong = let none = eqb-true (length costs) 0 e in rw (no_lines_lem costs none) (no_lines none)
  unpriced_by false true c e f g wrong = let many = ltb-true most_lines (length costs) f in rw (many_lines_lem costs many) (many_lines many)
  unpriced_by false false c e f g wrong =
      let some : length costs ≡ 0 → ⊥ = eqb-false (length costs) 0 e in
      let few : length costs ≤ most_lines = ltb-false most_lines (length costs) f in
      by_cost c g some few
    where
      by_cost : (c : Bool) → any_above highest_cost costs ≡ c → (length costs ≡ 0 → ⊥) → length costs ≤ most_lines → Unpriced costs (lines_refusal costs)
      by_cost true h some few =
          let (i, inside, high) = some_above highest_cost costs h in
          rw (by_costs costs some few, h) (high_cost (omega arith) few i inside high)
      by_cost false h some few = absurd (wrong (by_costs costs some few ∙ ap (λ (b : Bool). cond b 15 0) h))

pub priced_lines : PricedLines
priced_lines =
    record {
      priced = priced;
      taken = taken;
      unpriced = λ costs wrong. unpriced_by costs (eqb (length costs) 0) (ltb most_lines (length costs)) (any_above highest_cost costs) refl refl refl wrong;
    }
