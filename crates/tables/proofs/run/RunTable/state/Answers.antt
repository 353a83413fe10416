-- The state is that of the numbers at the process's place. Assumes nothing.
use Rattle.std.proofs.Common.{refl}
use Rattle.std.proofs.Common.{arith}
use Rattle.tables.specs.code.RunOfTable.{state_by_end}
use Rattle.tables.proofs.run.RunTable.state.Goals as goal

pub returns-in-0 : goal.returns-in-0
unfolding state_by_end
returns-in-0 c = rw c.in-0.is refl

pub returns-in-1 : goal.returns-in-1
unfolding state_by_end
returns-in-1 c = rw c.in-1.is refl

pub returns-in_default : goal.returns-in_default
unfolding state_by_end
returns-in_default c = grind arith
