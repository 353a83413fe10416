-- The reason of a process in a round (document 02, Paper 7: "For an accepted coordinator ticket, a station and a round, give one reason"), as a function.
-- What makes a reason true is a relation of its own (TrueReasons).
use Rattle.std.specs.Prelude.{List, [], ◌++◌, ℕ, zero, suc, ◌-◌, cond, eqb}
use Rattle.general.specs.Table.{tabulate}
use Rattle.consensus.specs.Instance.{Instance, fault_of}
use Rattle.consensus.specs.declared.Fault.{Fault}
use Rattle.consensus.specs.State.{state_of, crashes_in}
use Rattle.consensus.specs.declared.State.{State}
use Rattle.consensus.specs.declared.State.TheVariants.{Undecided as undecided, Decided as decided, Crashed as crashed}
use Rattle.coordinator.specs.Message.{Messages, nothing, estimate, estimate_and_commit}
use Rattle.coordinator.specs.Round.{received}
use Rattle.coordinator.specs.Run.{run_to, run_of}

-- The state of process p as round r begins, and as it ends.
unfoldable pub state_at_start : Instance → (r p : ℕ) → State
state_at_start x r p = state_of (run_to x (r - 1)).states p

unfoldable pub state_at_end : Instance → (r p : ℕ) → State
state_at_end x r p = state_of (run_to x r).states p

-- What the coordinator's messages let process p receive in round r, if it stays up and undecided until then (document 02: "heard").
unfoldable pub heard_in : Instance → (r p : ℕ) → Messages
heard_in x r p = received x.processes r (fault_of x r) (state_at_start x r r) p

-- The reason of a process that begins the round undecided, stays up in it and does not coordinate it: by what it receives, and by the coordinator's state as
-- the round begins. (No coordinator of a round of the run has decided before it: `ReasonsTrue`.)
unfoldable pub reason_hearing : Messages → (coordinator : State) → ℕ
reason_hearing (estimate_and_commit v) c = 2
reason_hearing (estimate v) c = 3
reason_hearing nothing (crashed round) = 4
reason_hearing nothing (undecided v) = 5
reason_hearing nothing (decided round v) = 5

-- The reason of process p in round r, by its state as the round begins.
unfoldable pub reason_from : (r p : ℕ) → (own : Fault) → Messages → (coordinator : State) → State → ℕ
reason_from r p own m c (undecided v) = cond (crashes_in r own) 6 (cond (eqb p r) 1 (reason_hearing m c))
reason_from r p own m c (decided round v) = 7
reason_from r p own m c (crashed round) = 7

unfoldable pub reason_of : Instance → (p r : ℕ) → ℕ
reason_of x p r = reason_from r p (fault_of x p) (heard_in x r p) (state_at_start x r r) (state_at_start x r p)

-- The reasons of all processes in round r, in order.
unfoldable pub reasons_in : Instance → (r : ℕ) → List ℕ
reasons_in x r = tabulate (λ k. reason_of x (suc k) r) x.processes

-- Those of rounds 1 to r, round by round, and those of the whole run.
unfoldable pub reasons_to : Instance → (r : ℕ) → List ℕ
reasons_to x zero = []
reasons_to x (suc r) = reasons_to x r ++ reasons_in x (suc r)

unfoldable pub reasons_of : Instance → List ℕ
reasons_of x = reasons_to x (run_of x).rounds
