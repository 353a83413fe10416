-- The loop's invariant: the table and the counts are those of the run as round r begins, and no round before it qualifies, where the run is to stop at the
-- settling round.
use Rattle.std.proofs.Common.{◌-◌}
use Rattle.tables.specs.code.InstanceOfTable.{instance_of}
use Rattle.coordinator_run.specs.code.Running.{RunTo}
use Rattle.coordinator_run.proofs.Stopping.{Unsettled}
use Rattle.coordinator_run.proofs.run_all.Given as goal

abbrev pub invariant-loop-r : goal.invariant-loop-r
invariant-loop-r l =
    RunTo (instance_of l.table) (l.r - 1) l.run l.sent × Unsettled (instance_of l.table) l.until_settled l.r
