-- Invariant: the rows of the rounds passed, followed by what stood there before.
use Rattle.std.proofs.Common.{◌≡◌, length}
use Rattle.coordinator_reason.proofs.Rows.{with_rows}
use Rattle.coordinator_reason.proofs.put_reasons.Given as goal

abbrev pub invariant-loop-i : goal.invariant-loop-i
invariant-loop-i l = (length l.out ≡ length l.initial.out) × (l.out ≡ with_rows l.table l.run l.initial.out l.i)
