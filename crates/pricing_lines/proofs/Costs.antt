-- What is asked of all costs, in the words that iterators over them are told in. Assumes nothing.
use mathlib.Core.List.{List, [], ◌∷◌}
use mathlib.Core.Path.{◌≡◌, refl, sym, ◌∙◌, ap}
use mathlib.Core.Bool.{Bool, true, false, cond, ◌||◌}
use Prim.Native.Nat.{ℕ, ◌<◌, ◌≤◌, ◌^◌}
use native.Mathlib.Omega.{arith}
use lib.Dec.{ltb}
use lib.ListN.{length, get_or}
use Rattle.std.specs.List.{list_any, sum_by}
use Rattle.std.proofs.lemmas.Grind.{get_or_default_zero}
use Rattle.std.proofs.lemmas.List.Recursion.{is_sum_by}
use Rattle.pricing.specs.Price.{overhead_of, markup_of, with_rate, line_price, price_of}
use Rattle.pricing.specs.Quote.{highest_cost, any_above, lines_refusal}
use Rattle.pricing.specs.Largest.{highest_rates}
use Rattle.pricing.proofs.Lines.{none_above}
use Rattle.pricing.proofs.PricedLines.{all_within}
use Rattle.pricing.proofs.Largest.{largest}
use Rattle.pricing_lines.specs.declared.RateSet.{RateSet}

or_cond : (a b : Bool) → (a || b) ≡ cond a true b
or_cond true b = refl
or_cond false b = refl

pub any_is : (limit : ℕ) (costs : List ℕ) → list_any (λ cost. ltb limit cost) costs ≡ any_above limit costs
unfolding any_above
any_is limit [] = refl
any_is limit (cost ∷ costs) = or_cond (ltb limit cost) _ ∙ ap (λ (b : Bool). cond (ltb limit cost) true b) (any_is limit costs)

-- Of lines that are not refused, each cost is low.
pub each_low : (costs : List ℕ) → lines_refusal costs ≡ 0 → (cost k : ℕ) → k < length costs → cost ≡ get_or costs k cost → cost ≤ highest_cost
each_low costs priced cost k inside e =
    let low = all_within highest_cost costs (none_above costs priced) k inside in
    let here = get_or_default_zero costs k cost inside in
    omega arith

-- What a rate set makes of a cost.
abbrev pub priced : RateSet → ℕ → ℕ
priced rates cost = with_rate (with_rate cost rates.overhead) rates.markup

module _ (value : ℕ) (rates : RateSet) (e : rates ≡ record { overhead = overhead_of value; markup = markup_of value }) (costs : List ℕ) where
  pub sum_is : sum_by (priced rates) costs ≡ price_of value costs
  unfolding price_of line_price
  sum_is = rw e (sym (is_sum_by (price_of value) (line_price value) refl (λ _ _. refl) costs))

  pub sum_fits : value ≤ highest_rates → lines_refusal costs ≡ 0 → sum_by (priced rates) costs < 2 ^ 64
  sum_fits low priced = let most = largest.quote value costs low priced in omega (arith, sum_is)
