-- For the code alone: what it asks before it runs a round and what it has done after it (document 01, 'A round').
use Rattle.std.specs.Prelude.{◌≡◌, ℕ, ◌<◌, true}
use Rattle.general.specs.Bits.{set_of}
use Rattle.consensus.specs.Instance.{Instance, fault_of}
use Rattle.consensus.specs.declared.Fault.{Fault}
use Rattle.consensus.specs.State.{crashes_in}
use Rattle.coordinator.specs.Undecided.{any_undecided, undecided_among}
use Rattle.coordinator.specs.Run.{with_round}
use Rattle.coordinator.specs.WellFormed.{WellFormed}
use Rattle.tables.specs.declared.run.RunTable.{RunTable}
use Rattle.tables.specs.code.RunOfTable.{states_in, run_from}
use Rattle.coordinator_sending.specs.code.Sending.{SendingAllowed}

-- The set of the processes up and undecided, by the arrays of a table.
abbrev pub undecided_set : RunTable → ℕ
undecided_set run = undecided_among run.n (states_in run)

-- Of a well-formed instance these are n, the fault of round r's coordinator and the set of the processes whose crash round is r.
pub record RoundOf (x : Instance) (n r : ℕ) (fault : Fault) (faulty : ℕ) : Type 0 where
  pub well_formed : WellFormed x
  pub processes : x.processes ≡ n
  pub coordinator : fault_of x r ≡ fault
  pub crashing : faulty ≡ set_of n (λ p. crashes_in r (fault_of x p))

-- Round r, whose coordinator has this fault and which is the crash round of these, may be run on this table: there is an instance of which they are, the
-- round begins with a process up and undecided, the table's set of those is that of its arrays, and its counts have room for one round more.
pub record RoundAllowed (r : ℕ) (fault : Fault) (faulty : ℕ) (run : RunTable) : Type 0 where
  pub sender : SendingAllowed run.n r fault
  pub instance : Instance
  pub of_instance : RoundOf instance run.n r fault faulty
  pub some_undecided : any_undecided (states_in run) ≡ true
  pub kept : run.undecided ≡ undecided_set run
  pub speakers : run.speakers < 255
  pub data_sent : run.data_sent < 65280
  pub commits_sent : run.commits_sent < 65280

-- Round r has been run from the one table to the other: it has as many processes, its set is that of its arrays again, and of each such instance it holds one
-- round more.
pub record RoundRun (r : ℕ) (fault : Fault) (faulty : ℕ) (run next : RunTable) : Type 0 where
  pub processes : next.n ≡ run.n
  pub kept : next.undecided ≡ undecided_set next
  pub round : (x : Instance) → RoundOf x run.n r fault faulty → run_from next ≡ with_round x r (run_from run)
