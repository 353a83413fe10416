-- For the code alone: the reasons (document 02, Paper 7) by how the processes of a whole run end and by the faults of the coordinators. That they are
-- `reason_of` of the instance is `reason_by_table` of reasons/proofs/OfRun.
use Rattle.std.specs.Prelude.{List, [], ◌++◌, ℕ, zero, suc, ◌-◌, Bool, true, false, cond, ◌&&◌, eqb, ltb, get_or}
use Rattle.general.specs.Bits.{member}
use Rattle.general.specs.Table.{tabulate}
use Rattle.consensus.specs.declared.Fault.{Fault}
use Rattle.consensus.specs.declared.Fault.TheVariants.{Correct as correct, Crashes as crashes}
use Rattle.consensus.specs.declared.State.{State}
use Rattle.consensus.specs.declared.State.TheVariants.{Undecided as undecided, Decided as decided, Crashed as crashed}
use Rattle.coordinator.specs.Message.{gets_data}
use Rattle.coordinator.specs.Delivery.{reach_at}
use Rattle.coordinator_reason.specs.declared.Heard.{Heard}
use Rattle.coordinator_reason.specs.declared.Heard.TheVariants.{Alike, ValueBy}
use Rattle.coordinator_reason.specs.Number.{number_of_reason}
use Rattle.tables.specs.declared.instance.InstanceTable.{InstanceTable}
use Rattle.tables.specs.declared.run.RunTable.{RunTable}
use Rattle.tables.specs.code.RunOfTable.{state_by_end}

-- Whether the data message of a coordinator with this fault gets to process p in the round in which it crashes. How many processes there are does not
-- matter: they are taken as 0. Of one that is correct, which leaves no process waiting, it is false.
unfoldable pub data_reaches : (p : ℕ) → Fault → Bool
data_reaches p correct = false
data_reaches p (crashes round point) = gets_data (reach_at 0 point p)

-- Whether a process that ends so has ended before round r. No process ends a whole run undecided; one that did would have ended before round 1.
unfoldable pub ended_before : (r : ℕ) → State → Bool
ended_before r (undecided v) = true
ended_before r (decided round v) = ltb round r
ended_before r (crashed round) = ltb round r

-- The reason in round r of process p, which ends in a later round, by how the coordinator ends and by its fault.
unfoldable pub reason_waiting : (p r : ℕ) → (coordinator : State) → Fault → ℕ
reason_waiting p r coordinator fault = cond (ended_before r coordinator) 4 (cond (data_reaches p fault) 3 5)

-- The same by what those have heard that wait.
unfoldable pub reason_heard : (p : ℕ) → Heard → ℕ
reason_heard p (Alike reason) = number_of_reason reason
reason_heard p (ValueBy set) = cond (member p set) 3 5

-- The reason in round r of a process that does not coordinate it, by how it ends and by the reason that it has if it waits.
unfoldable pub reason_beside : (r : ℕ) → State → (waiting : ℕ) → ℕ
reason_beside r (undecided v) waiting = 7
reason_beside r (decided round v) waiting = cond (ltb round r) 7 (cond (ltb r round) waiting 2)
reason_beside r (crashed round) waiting = cond (ltb round r) 7 (cond (ltb r round) waiting 6)

-- Whether process p coordinates round r and decides in it.
unfoldable pub coordinates : (p r : ℕ) → State → Bool
coordinates p r (undecided v) = false
coordinates p r (decided round v) = eqb round r && eqb p r
coordinates p r (crashed round) = false

-- The reason of process p in round r, by how it ends, how the coordinator ends and the coordinator's fault.
unfoldable pub reason_by_end : (p r : ℕ) → (own coordinator : State) → Fault → ℕ
reason_by_end p r own coordinator fault = cond (coordinates p r own) 1 (reason_beside r own (reason_waiting p r coordinator fault))

-- The end of process p in a table, and its reason in round r.
abbrev pub end_in : RunTable → ℕ → State
end_in run p = state_by_end (get_or run.ends (p - 1) 0) (get_or run.end_rounds (p - 1) 0) (get_or run.values (p - 1) 0)

unfoldable pub reason_in_table : InstanceTable → RunTable → (p r : ℕ) → ℕ
reason_in_table table run p r = reason_by_end p r (end_in run p) (end_in run r) (get_or table.pattern (r - 1) correct)

-- Those of all processes in round r.
unfoldable pub row_by_ends : InstanceTable → RunTable → (r : ℕ) → List ℕ
row_by_ends table run r = tabulate (λ k. reason_in_table table run (suc k) r) run.n

-- Those of rounds 1 to r.
unfoldable pub rows_by_ends : InstanceTable → RunTable → (r : ℕ) → List ℕ
rows_by_ends table run zero = []
rows_by_ends table run (suc r) = rows_by_ends table run r ++ row_by_ends table run (suc r)
