-- Uniform consensus, decided by a round, and no later than in another run (document 001, section 3.1 and Lemmas 1 to 3; demand 3; document 01, 'A round',
-- last paragraph).
-- The claims are about how the processes of an instance end, by whatever protocol: `ends` gives the end of each process.
use Rattle.std.specs.Prelude.{List, ◌≡◌, false, ℕ, ◌≤◌}
use Rattle.general.specs.Indexed.{map_from}
use Rattle.consensus.specs.Instance.{Instance, proposal_of, fault_of}
use Rattle.consensus.specs.declared.Fault.TheVariants.{Crashes as crashes}
use Rattle.consensus.specs.declared.CrashPoint.{CrashPoint}
use Rattle.consensus.specs.declared.State.{State}
use Rattle.consensus.specs.declared.State.TheVariants.{Decided as decided, Crashed as crashed}
use Rattle.consensus.specs.CrashCount.{is_idle, crash_count}

-- p is a process of the instance.
pub record IsProcess (x : Instance) (p : ℕ) : Type 0 where
  pub first : 1 ≤ p
  pub last : p ≤ x.processes

-- Process p decides in round r on value v.
pub record Decides (x : Instance) (ends : ℕ → State) (p r v : ℕ) : Type 0 where
  pub process : IsProcess x p
  pub state : ends p ≡ decided r v

-- Process p crashes undecided, in round r: it has a failure line of that round, and the line is not idle (document 01, 'A round', last paragraph).
pub record CrashesUndecided (x : Instance) (ends : ℕ → State) (p r : ℕ) : Type 0 where
  pub process : IsProcess x p
  pub point : CrashPoint
  pub line : fault_of x p ≡ crashes r point
  pub not_idle : is_idle r (ends p) ≡ false

-- Uniform agreement: all processes that decide, crashed later or not, decide one value.
unfoldable pub Agreement : Instance → (ℕ → State) → Type 0
Agreement x ends = (p q r s v w : ℕ) → Decides x ends p r v → Decides x ends q s w → v ≡ w

-- Validity: a decided value is one that a process proposed.
unfoldable pub Validity : Instance → (ℕ → State) → Type 0
Validity x ends = (p r v : ℕ) → Decides x ends p r v → (q : ℕ) × IsProcess x q × (proposal_of x q ≡ v)

-- Termination: every process that does not crash undecided decides.
unfoldable pub Termination : Instance → (ℕ → State) → Type 0
Termination x ends = (p : ℕ) → IsProcess x p → ((r : ℕ) → CrashesUndecided x ends p r → ⊥) → (r : ℕ) × (v : ℕ) × Decides x ends p r v

-- Early decision: none decides after this round.
unfoldable pub DecidesBy : (latest : ℕ) → Instance → (ℕ → State) → Type 0
DecidesBy latest x ends = (p r v : ℕ) → Decides x ends p r v → r ≤ latest

-- A process that crashes undecided ends crashed, in the round of its failure line, and no other process does.
unfoldable pub CrashesAsSaid : Instance → (ℕ → State) → Type 0
CrashesAsSaid x ends = (p r : ℕ) → CrashesUndecided x ends p r → ends p ≡ crashed r

unfoldable pub CrashesNoOther : Instance → (ℕ → State) → Type 0
CrashesNoOther x ends = (p r : ℕ) → IsProcess x p → ends p ≡ crashed r → CrashesUndecided x ends p r

-- Demand 3, first half.
pub record UniformConsensus (latest : ℕ) (x : Instance) (ends : ℕ → State) : Type 0 where
  pub agreement : Agreement x ends
  pub validity : Validity x ends
  pub termination : Termination x ends
  pub early_decision : DecidesBy latest x ends
  pub crashes_as_said : CrashesAsSaid x ends
  pub crashes_no_other : CrashesNoOther x ends

-- The ends of all processes in order: one for each entry of the failure pattern.
unfoldable pub ends_of : Instance → (ℕ → State) → List State
ends_of x ends = map_from (λ p fault. ends p) 1 x.pattern

-- f counts the failure lines that are not idle (document 01, 'A round': 'f counts the lines that are not idle').
unfoldable pub CountsCrashes : (f : ℕ) → Instance → (ℕ → State) → Type 0
CountsCrashes f x ends = f ≡ crash_count x.pattern (ends_of x ends)

-- Demand 3, second half: every process that decides in the first decides in the second, on the same value, in the same round or an earlier one.
unfoldable pub NoLater : (x : Instance) → (ℕ → State) → (y : Instance) → (ℕ → State) → Type 0
NoLater x ends y ends' = (p r v : ℕ) → Decides x ends p r v → (s : ℕ) × (s ≤ r) × Decides y ends' p s v
