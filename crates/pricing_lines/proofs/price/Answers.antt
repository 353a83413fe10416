-- `price` meets its contract. Assumes nothing.
use Rattle.std.proofs.Common.{◌∙◌, ◌≤◌, rules, tests, arith}
use Rattle.std.proofs.lemmas.Iterator.{YieldsList-from_slice, YieldsList-from_map}
use Rattle.std.proofs.lemmas.Iterator.Consumers.{sum_by_from_yields_List, fits_by_from_yields_list}
use Rattle.std.proofs.lemmas.Iterator.Adapters.{serves_from_places}
use Rattle.std.proofs.lemmas.Grind.{common_steps}
use Rattle.pricing.specs.Quote.{highest_cost}
use Rattle.pricing_lines.proofs.Costs.{each_low, priced, sum_is, sum_fits}
use Rattle.pricing_lines.proofs.price.Goals as goal

pub sum-requires-clause-can : goal.sum-requires-clause-can
sum-requires-clause-can c = (
  tt,
  serves_from_places (YieldsList-from_slice c.args.costs.now (grind (arith, common_steps))) (λ x q k. search (rules, tests))
      (λ x k inside e. let low : x.now ≤ highest_cost = each_low c.args.costs.now c.requires x.now k inside e in search rules),
)

pub sum-requires-clause-fits : goal.sum-requires-clause-fits
sum-requires-clause-fits c =
    fits_by_from_yields_list (priced c.from-rates.result) c.args.costs.now c.map.result _
    (YieldsList-from_map _ (priced c.from-rates.result) (YieldsList-from_slice c.args.costs.now (grind (arith, common_steps))) c.map.ensures.closure (λ x r q k. search (rules, tests)))
    (sum_fits c.args.value c.from-rates.result c.from-rates.ensures c.args.costs.now (omega arith) c.requires)

pub returns : goal.returns
returns c =
    let total =
    sum_by_from_yields_List (priced c.from-rates.result) c.args.costs.now c.map.result _ c.sum.ensures.ran
    (YieldsList-from_map _ (priced c.from-rates.result) (YieldsList-from_slice c.args.costs.now (grind (arith, common_steps))) c.map.ensures.closure (λ x r q k. search (rules, tests)))
    ∙ sum_is c.args.value c.from-rates.result c.from-rates.ensures c.args.costs.now in
    omega (arith, total)
