-- `part::closing::decide` meets its contract. Assumes nothing.
use Rattle.std.proofs.Common.{◌∙◌}
use Rattle.part.proofs.Closed.{after_decides}
use Rattle.part.proofs.closing.decide.Goals as goal

pub returns : goal.returns
returns c = c.write_state.ensures ∙ after_decides _ _
