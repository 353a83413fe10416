-- What every process becomes in a round (document 01, 'A round').
use Rattle.std.specs.Prelude.{List, ℕ, true, cond, eqb}
use Rattle.general.specs.Indexed.{map_from}
use Rattle.coordinator.specs.Message.{Messages, nothing, arriving}
use Rattle.consensus.specs.Instance.{Instance, fault_of}
use Rattle.consensus.specs.declared.Fault.{Fault}
use Rattle.consensus.specs.State.{state_of, crashes_in}
use Rattle.consensus.specs.declared.State.{State}
use Rattle.consensus.specs.declared.State.TheVariants.{Undecided as undecided, Decided as decided, Crashed as crashed}
use Rattle.coordinator.specs.Transition.{Outcome, continues, decides, sends, receives}
use Rattle.coordinator.specs.Delivery.{reach}

-- What the coordinator of a round sends: one that has decided or crashed sends nothing.
unfoldable pub sent_by : State → Messages
sent_by (undecided v) = sends true v
sent_by (decided round v) = nothing
sent_by (crashed round) = nothing

-- What process p, of n, receives in round r from its coordinator, which has this fault and began the round in the state `c`.
unfoldable pub received : (n r : ℕ) → Fault → State → (p : ℕ) → Messages
received n r fault c p = arriving (reach n fault r p) (sent_by c)

-- The state after round r that an outcome gives.
unfoldable pub after_outcome : ℕ → Outcome → State
after_outcome r (continues v) = undecided v
after_outcome r (decides v) = decided r v

-- What process p, with the fault `own`, becomes in round r on receiving `m`. One that crashes in the round hears nothing in it and does not decide.
-- One that has decided stays decided: a failure line of a later round is idle.
unfoldable pub after : (r p : ℕ) → Fault → Messages → State → State
after r p own m (undecided v) = cond (crashes_in r own) (crashed r) (after_outcome r (receives (eqb p r) v m))
after r p own m (decided round v) = decided round v
after r p own m (crashed round) = crashed round

-- What all processes become in round r, coordinated by process r.
unfoldable pub states_after : Instance → ℕ → List State → List State
states_after x r states =
    map_from (λ p s. after r p (fault_of x p) (received x.processes r (fault_of x r) (state_of states r) p) s) 1 states
