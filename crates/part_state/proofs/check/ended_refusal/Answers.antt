-- `part_state::check::ended_refusal` meets its contract: a law for each return. Assumes nothing.
use Rattle.std.proofs.Common.{sym, arith}
use Rattle.part_format.specs.PartState.{state_valid, state_from}
use Rattle.part_state.proofs.Checks.{state_invalid, state_ended}
use Rattle.part_state.proofs.check.ended_refusal.Goals as goal

pub returns-then-fields_valid : goal.returns-then-fields_valid
unfolding state_valid state_from
returns-then-fields_valid c = state_ended _ (omega arith) (sym c.if-fields_valid.ensures) (λ e. omega arith)

pub returns : goal.returns
unfolding state_valid state_from
returns c = state_invalid _ (omega arith) (sym c.if-fields_valid.ensures)
