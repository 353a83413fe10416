-- `any_above` meets its contract. Assumes nothing.
use Rattle.std.proofs.Common.{ltb, ◌∙◌, rules, tests}
use Rattle.std.proofs.lemmas.Iterator.{YieldsList-from_slice}
use Rattle.std.proofs.lemmas.Iterator.Search.{any_from_yields_List}
use Rattle.pricing_lines.proofs.Costs.{any_is}
use Rattle.pricing_lines.proofs.any_above.Goals as goal

pub returns : goal.returns
returns c =
    any_from_yields_List (λ cost. ltb c.args.limit cost) _ _ _ c.any.ensures.ran (YieldsList-from_slice c.args.costs.now cc) (λ x b q k. search (rules, tests))
    ∙ any_is c.args.limit c.args.costs.now
