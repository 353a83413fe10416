-- For the code alone: a table whose run is finished, with an end for each process.
use Rattle.std.specs.Prelude.{◌≡◌, ◌≤◌, length}
use Rattle.coordinator.specs.Run.{run_of}
use Rattle.coordinator.specs.WellFormed.{WellFormed}
use Rattle.tables.specs.declared.instance.InstanceTable.{InstanceTable}
use Rattle.tables.specs.declared.run.RunTable.{RunTable}
use Rattle.tables.specs.code.InstanceOfTable.{instance_of}
use Rattle.tables.specs.code.RunOfTable.{run_from}

pub record Finished (table : InstanceTable) (run : RunTable) : Type 0 where
  pub formed : WellFormed (instance_of table)
  pub processes : run.n ≡ table.n
  pub whole : run_from run ≡ run_of (instance_of table)
  pub entries : run.n ≤ length run.ends
