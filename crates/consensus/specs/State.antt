-- How a process ends, whatever the protocol; the coordinator's processes stand so between two rounds too (document 01, 'A round').
use Rattle.std.specs.Prelude.{List, ℕ, ◌-◌, Bool, false, eqb, get_or}
use Rattle.consensus.specs.declared.Fault.{Fault}
use Rattle.consensus.specs.declared.Fault.TheVariants.{Correct as correct, Crashes as crashes}
-- The code's enum: a process between two rounds (document 01: up and undecided, decided, dark).
use Rattle.consensus.specs.declared.State.{State}
use Rattle.consensus.specs.declared.State.TheVariants.{Crashed as crashed}

-- The state of process p among those of all.
unfoldable pub state_of : List State → ℕ → State
state_of states p = get_or states (p - 1) (crashed 0)

-- Whether a process with this fault crashes in round r, if it is still up and undecided then.
unfoldable pub crashes_in : ℕ → Fault → Bool
crashes_in r correct = false
crashes_in r (crashes round point) = eqb round r
