-- Validity (document 001, section 3.3, Lemma 1): every value that a process holds, and so every value decided, is one that a process proposed. For
-- well-formed instances. Assumes nothing else.
use mathlib.Core.Path.{◌≡◌, refl}
use Prim.Native.Nat.{ℕ, zero, suc, ◌≤◌}
use native.Mathlib.Omega.{arith}
use Rattle.consensus.specs.Instance.{Instance, proposal_of}
use Rattle.coordinator.specs.Run.{last_round, end_of}
use Rattle.coordinator.specs.WellFormed.{WellFormed}
use Rattle.consensus.specs.Consensus.{IsProcess, Validity}
use Rattle.coordinator_laws.proofs.Pointwise.{state_at}
use Rattle.coordinator_laws.proofs.Values.{Holds, holds_decided, holds_after_round}
use Rattle.coordinator_laws.proofs.Ends.{decided_at}

-- A process proposed v.
abbrev Proposed : Instance → ℕ → Type 0
Proposed x v = (q : ℕ) × IsProcess x q × (proposal_of x q ≡ v)

-- Every process holds a value that a process proposed.
pub holds_proposed : (x : Instance) (r p : ℕ) → r ≤ x.processes → IsProcess x p → Holds (Proposed x) (state_at x r p)
unfolding state_at Holds
holds_proposed x zero p h process = (p, process, refl)
holds_proposed x (suc r) p h process =
    holds_after_round (Proposed x) x r p
    (holds_proposed x r (suc r) (omega arith) (record { first = omega arith; last = h })) (holds_proposed x r p (omega arith) process)

pub decides_proposed : (x : Instance) → WellFormed x → Validity x (end_of x)
unfolding Validity proposal_of
decides_proposed x formed p r v d =
    holds_decided (Proposed x) _ r v (decided_at x formed d) (holds_proposed x (last_round x) p (omega arith) d.process)
