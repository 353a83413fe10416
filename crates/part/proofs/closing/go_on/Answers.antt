-- `part::closing::go_on` meets its contract: a law for each way. Assumes nothing.
use Rattle.std.proofs.Common.{◌∙◌, arith}
use Rattle.part.proofs.Closed.{after_last, after_earlier}
use Rattle.part.proofs.closing.go_on.Goals as goal

pub returns-then-round-t : goal.returns-then-round-t
returns-then-round-t c = c.write_state.ensures ∙ after_last _ _ (omega arith)

pub returns-else-round-t : goal.returns-else-round-t
returns-else-round-t c = c.write_state-else-round-t.ensures ∙ after_earlier _ _ (λ e. omega arith)
