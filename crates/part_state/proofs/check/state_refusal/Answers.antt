-- `part_state::check::state_refusal` meets its contract: a law for each return. Assumes nothing.
use Rattle.std.proofs.Common.{arith}
use Rattle.part_state.proofs.Checks.{state_length, state_invalid, open_marked, state_open}
use Rattle.part_state.proofs.check.state_refusal.Goals as goal

pub returns-then-state-ne-STATE_SIZE : goal.returns-then-state-ne-STATE_SIZE
returns-then-state-ne-STATE_SIZE c = state_length _ (λ e. omega arith)

pub returns-then-open_valid : goal.returns-then-open_valid
returns-then-open_valid c = state_open _ (omega arith) (open_marked _ (omega arith) _ c.if-open_valid.ensures) (omega arith)

pub returns : goal.returns
returns c = state_invalid _ (omega arith) (open_marked _ (omega arith) _ c.if-open_valid.ensures)
