-- Which lines are priced, and which refusal the others get, in the paper's words (document 02, Paper 9: "in this order: 14, no lines or more than 200; 15, a
-- direct cost above 1,000,000,000").
use Rattle.std.specs.Prelude.{List, ◌≡◌, ℕ, ◌≤◌, ◌<◌, length, get_or}
use Rattle.pricing.specs.Quote.{lines_refusal}

-- From 1 to 200 lines, none of which costs more than 1,000,000,000 pence.
pub record Priced (costs : List ℕ) : Type 0 where
  pub some : 1 ≤ length costs
  pub few : length costs ≤ 200
  pub low : (i : ℕ) → i < length costs → get_or costs i 0 ≤ 1000000000

-- The refusal of lines that are not.
pub data Unpriced (costs : List ℕ) : (number : ℕ) → Type 0 where
  no_lines : length costs ≡ 0 → Unpriced costs 14
  many_lines : 200 < length costs → Unpriced costs 14
  high_cost : 1 ≤ length costs → length costs ≤ 200 → (i : ℕ) → i < length costs → 1000000000 < get_or costs i 0 → Unpriced costs 15

-- The claim: the number by the definition is 0 where the lines are priced, and else their refusal.
pub record PricedLines : Type 0 where
  pub priced : (costs : List ℕ) → lines_refusal costs ≡ 0 → Priced costs
  pub taken : (costs : List ℕ) → Priced costs → lines_refusal costs ≡ 0
  pub unpriced : (costs : List ℕ) → (lines_refusal costs ≡ 0 → ⊥) → Unpriced costs (lines_refusal costs)
