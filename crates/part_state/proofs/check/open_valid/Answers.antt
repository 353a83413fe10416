-- `part_state::check::open_valid` meets its contract: a law for each return. Assumes nothing.
use Rattle.std.proofs.Common.{arith}
use Rattle.part_state.proofs.Checks.{open_fails, open_last}
use Rattle.part_state.proofs.check.open_valid.Goals as goal

pub returns-then-round-lt1 : goal.returns-then-round-lt1
returns-then-round-lt1 c = open_fails _ _ _ _ (λ h w. omega arith)

pub returns-then-last-round : goal.returns-then-last-round
returns-then-last-round c = open_fails _ _ _ _ (λ h w. omega arith)

pub returns-then-process-round : goal.returns-then-process-round
returns-then-process-round c = open_fails _ _ _ _ (λ h w. omega arith)

pub returns-then-n-process : goal.returns-then-n-process
returns-then-n-process c = open_fails _ _ _ _ (λ h w. omega arith)

pub returns-then-n-last : goal.returns-then-n-last
returns-then-n-last c = open_fails _ _ _ _ (λ h w. omega arith)

pub returns : goal.returns
returns c = open_last _ _ _ _ (omega arith) (omega arith) (omega arith) (omega arith) (omega arith)
