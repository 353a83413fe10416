-- `part_state::check::round_valid` meets its contract: a law for each return. Assumes nothing.
use Rattle.std.proofs.Common.{arith}
use Rattle.part_state.proofs.Checks.{over_other, over_last, round_zero, round_late, round_own}
use Rattle.part_state.proofs.check.round_valid.Goals as goal

pub returns-then-round-last : goal.returns-then-round-last
returns-then-round-last c = over_other _ _ _ _ (omega arith) (λ e. omega arith)

pub returns-then-mark-eq-MARK_OVER : goal.returns-then-mark-eq-MARK_OVER
returns-then-mark-eq-MARK_OVER c = over_last _ _ _ _ (omega arith) (omega arith)

pub returns-then-round-lt1 : goal.returns-then-round-lt1
returns-then-round-lt1 c = round_zero _ _ _ _ (λ e. omega arith) (omega arith)

pub returns-then-last-round : goal.returns-then-last-round
returns-then-last-round c = round_late _ _ _ _ (λ e. omega arith) (omega arith) (omega arith)

pub returns : goal.returns
returns c = round_own _ _ _ _ (λ e. omega arith) (omega arith) (omega arith)
