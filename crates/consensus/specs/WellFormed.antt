-- What refusals 1 to 8 leave of an instance, whatever the protocol (document 01, 'The ticket'): the limits of n and t, a proposal and a fault for each
-- process, at most t faults, each within its limits. At which points a process may crash is the protocol's.
use Rattle.std.specs.Prelude.{List, [], ◌∷◌, ◌≡◌, ℕ, suc, ◌^◌, ◌≤◌, ◌<◌, length, get_or}
use Rattle.consensus.specs.Instance.{Instance, fault_of}
use Rattle.consensus.specs.declared.Fault.{Fault}
use Rattle.consensus.specs.declared.Fault.TheVariants.{Correct as correct, Crashes as crashes}
use Rattle.consensus.specs.declared.CrashPoint.{CrashPoint}

-- The points at which process p, of n, may crash in a round.
abbrev pub Points : Type 1
Points = (n p round : ℕ) → CrashPoint → Type 0

-- Process p may have this fault: its round is from 1 to t + 1, and the point is allowed there.
unfoldable pub FaultAllowedBy : Points → (n t p : ℕ) → Fault → Type 0
FaultAllowedBy points n t p correct = Unit {0}
FaultAllowedBy points n t p (crashes round point) = (1 ≤ round) × (round ≤ suc t) × points n p round point

-- How many processes have a failure line.
unfoldable pub fault_count : List Fault → ℕ
fault_count [] = 0
fault_count (correct ∷ faults) = fault_count faults
fault_count (crashes round point ∷ faults) = suc (fault_count faults)

pub record WellFormedBy (points : Points) (x : Instance) : Type 0 where
  pub some_process : 1 ≤ x.processes
  pub at_most_64 : x.processes ≤ 64
  pub fewer_crashes : x.resilience < x.processes
  pub all_propose : length x.proposals ≡ x.processes
  pub all_have_fault : length x.pattern ≡ x.processes
  pub values_fit : (i : ℕ) → get_or x.proposals i 0 < 2 ^ 32
  pub faults_allowed : (p : ℕ) → 1 ≤ p → p ≤ x.processes → FaultAllowedBy points x.processes x.resilience p (fault_of x p)
  pub few_faults : fault_count x.pattern ≤ x.resilience
