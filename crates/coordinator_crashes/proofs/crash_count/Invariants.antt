-- The loop's invariant: f counts the processes below p, and each counts once at most.
use Rattle.std.proofs.Common.{◌≡◌, ◌≤◌, ◌<◌, ◌+◌, ◌-◌}
use Rattle.coordinator_crashes.proofs.Crashes.{crashes_from}
use Rattle.coordinator_crashes.proofs.crash_count.Given as goal

abbrev pub invariant-loop-p : goal.invariant-loop-p
invariant-loop-p l =
    (l.p ≤ l.table.n + 1) × (l.f < l.p) × (l.f + crashes_from l.table l.run (l.p - 1) ≡ crashes_from l.table l.run 0)
