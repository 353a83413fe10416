-- `part_state::check::identity_valid` meets its contract: a law for each return. Assumes nothing.
use Rattle.std.proofs.Common.{arith}
use Rattle.part_state.proofs.Checks.{identity_fails, identity_last}
use Rattle.part_state.proofs.check.identity_valid.Goals as goal

pub returns-then-n-t : goal.returns-then-n-t
returns-then-n-t c = identity_fails _ _ _ (λ h. omega arith)

pub returns-then-n-gt64 : goal.returns-then-n-gt64
returns-then-n-gt64 c = identity_fails _ _ _ (λ h. omega arith)

pub returns-then-process-lt1 : goal.returns-then-process-lt1
returns-then-process-lt1 c = identity_fails _ _ _ (λ h. omega arith)

pub returns : goal.returns
returns c = identity_last _ _ _ (omega arith) (omega arith) (omega arith)
