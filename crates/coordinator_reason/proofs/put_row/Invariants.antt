-- Invariant: the reasons of the processes below p as of such that do not coordinate, followed by what stood there before.
use Rattle.std.proofs.Common.{◌≡◌, ◌+◌, ◌-◌, ◌≤◌}
use Rattle.general.proofs.Table.{overwritten}
use Rattle.coordinator_reason.proofs.Rows.{besides}
use Rattle.coordinator_reason.proofs.put_row.Given as goal

abbrev pub invariant-loop-p : goal.invariant-loop-p
invariant-loop-p l = (l.p ≤ l.run.n + 1) × (l.out ≡ overwritten (besides l.table l.run l.r) l.initial.out (l.p - 1))
