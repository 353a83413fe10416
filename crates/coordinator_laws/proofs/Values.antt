-- The values that processes hold come from the coordinators: what is true of the coordinator's value and of a process's own is true of that process's value
-- after the round. So every value fits four bytes, in well-formed instances. Assumes nothing else.
use mathlib.Core.Path.{◌≡◌, subst}
use Prim.Native.Nat.{ℕ, zero, suc, ◌^◌, ◌<◌}
use Rattle.coordinator.specs.Message.{Messages, nothing, estimate, estimate_and_commit}
use Rattle.coordinator.specs.Transition.{receives}
use Rattle.consensus.specs.Instance.{Instance, proposal_of}
use Rattle.consensus.specs.declared.Fault.{Fault}
use Rattle.consensus.specs.declared.State.{State}
use Rattle.consensus.specs.declared.State.TheVariants.{Undecided as undecided, Decided as decided, Crashed as crashed}
use Rattle.coordinator.specs.Round.{after_outcome}
use Rattle.coordinator.specs.WellFormed.{WellFormed}
use Rattle.coordinator_laws.proofs.Pointwise.{state_at}
use Rattle.coordinator_laws.proofs.Rounds.{Hears, data_alone, data_and_commit, Becomes, stays_decided, stays_crashed, crashing, coordinates, listens}
use Rattle.coordinator_laws.proofs.History.{hears_at, becomes_at}

-- P is true of the value that a process in this state holds, decided or not. One that has crashed holds none.
unfoldable pub Holds : (ℕ → Type 0) → State → Type 0
Holds P (undecided v) = P v
Holds P (decided i v) = P v
Holds P (crashed i) = Unit {0}

module _ (P : ℕ → Type 0) where
  pub holds_decided : (s : State) (i v : ℕ) → s ≡ decided i v → Holds P s → P v
  unfolding Holds
  holds_decided s i v e h = subst (Holds P) e h

  holds_case : (n r p : ℕ) (fault own : Fault) (c : State) (m : Messages) (s s' : State) → Hears n r fault p c m → Becomes r p own m s s'
      → Holds P c → Holds P s → Holds P s'
  unfolding Holds receives after_outcome
  holds_case n r p fault own c m s s' heard stays_decided g h = h
  holds_case n r p fault own c m s s' heard stays_crashed g h = tt
  holds_case n r p fault own c m s s' heard (crashing _) g h = tt
  holds_case n r p fault own c m s s' heard (coordinates _ _) g h = h
  holds_case n r p fault own c m s s' heard (listens {m = nothing} _ _) g h = h
  holds_case n r p fault own c m s s' (data_alone _ _) (listens {m = estimate w} _ _) g h = g
  holds_case n r p fault own c m s s' (data_and_commit _ _) (listens {m = estimate_and_commit w} _ _) g h = g

  pub holds_after_round : (x : Instance) (r p : ℕ) → Holds P (state_at x r (suc r)) → Holds P (state_at x r p) → Holds P (state_at x (suc r) p)
  holds_after_round x r p g h = holds_case _ _ p _ _ _ _ _ _ (hears_at x r p) (becomes_at x r p) g h

-- Every value held has four bytes.
pub holds_fitting : (x : Instance) → WellFormed x → (r p : ℕ) → Holds (λ v. v < 2 ^ 32) (state_at x r p)
unfolding state_at Holds proposal_of
holds_fitting x formed zero p = formed.values_fit _
holds_fitting x formed (suc r) p = holds_after_round _ x r p (holds_fitting x formed r (suc r)) (holds_fitting x formed r p)
