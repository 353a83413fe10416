-- The loop's invariant: the processes below p have been put into the sets of their rounds.
use Rattle.std.proofs.Common.{◌≡◌, ◌≤◌, ◌+◌, ◌-◌, length}
use Rattle.coordinator_crashes.specs.code.CrashSets.{CrashSets}
use Rattle.coordinator_crashes.proofs.crash_sets.Given as goal

abbrev pub invariant-loop-p : goal.invariant-loop-p
invariant-loop-p l = (l.p ≤ l.table.n + 1) × (length l.by_round ≡ 64) × CrashSets (l.p - 1) l.table.pattern l.by_round
