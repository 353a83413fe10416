-- The reason of a process in a round, by its states before and after it (document 02, Paper 7): first over plain variables, then of the run as a function of
-- round and process (Pointwise). Assumes nothing.
use mathlib.Core.Path.{◌≡◌, refl, sym, ◌∙◌}
use mathlib.Core.Bool.{cond, true, false}
use Prim.Native.Nat.{ℕ, zero, suc, ◌≤◌}
use native.Mathlib.Omega.{arith}
use lib.Dec.{eqb}
use borrow.Author.Tests.{eq-eqb, ne_eqb}
use Rattle.coordinator.specs.Message.{Messages, nothing, estimate, estimate_and_commit}
use Rattle.consensus.specs.Instance.{Instance, fault_of}
use Rattle.consensus.specs.declared.Fault.{Fault}
use Rattle.coordinator.specs.Transition.{receives}
use Rattle.consensus.specs.declared.State.{State}
use Rattle.consensus.specs.declared.State.TheVariants.{Undecided as undecided, Decided as decided, Crashed as crashed}
use Rattle.coordinator.specs.Round.{after_outcome}
use Rattle.coordinator.specs.Reason.{reason_hearing, reason_from}
use Rattle.coordinator_laws.proofs.Pointwise.{state_at}
use Rattle.coordinator_laws.proofs.Rounds.{Becomes, stays_decided, stays_crashed, crashing, coordinates, listens}
use Rattle.coordinator_laws.proofs.History.{heard_at, becomes_at, undecided_decided, undecided_crashed, decided_crashed, decided_later, crashed_later}
use Rattle.coordinator_laws.proofs.Faults.{outcome_up}

-- A process that begins the round undecided, by what it becomes: it crashes, decides or waits on.
module _ (r p : ℕ) (own : Fault) (c : State) where
  crash_case : (v j : ℕ) (m : Messages) (s s' : State) → Becomes r p own m s s' → s ≡ undecided v → s' ≡ crashed j
      → (j ≡ r) × (reason_from r p own m c s ≡ 6)
  unfolding reason_from
  crash_case v j m s s' stays_decided d e = absurd (undecided_decided _ v _ _ d refl)
  crash_case v j m s s' stays_crashed d e = absurd (undecided_crashed _ v _ d refl)
  crash_case v j m s s' (crashing up) d e = (cc, rw up)
  crash_case v j m s s' (coordinates {v = u} _ _) d e = absurd (outcome_up r j (receives true u m) e)
  crash_case v j m s s' (listens {v = u} _ _) d e = absurd (outcome_up r j (receives false u m) e)

  decision_case : (v i w : ℕ) (m : Messages) (s s' : State) → Becomes r p own m s s' → s ≡ undecided v → s' ≡ decided i w
      → (i ≡ r) × (reason_from r p own m c s ≡ cond (eqb p r) 1 2) × ((p ≡ r → ⊥) → m ≡ estimate_and_commit w)
  unfolding reason_from reason_hearing receives after_outcome
  decision_case v i w m s s' stays_decided d e = absurd (undecided_decided _ v _ _ d refl)
  decision_case v i w m s s' stays_crashed d e = absurd (undecided_crashed _ v _ d refl)
  decision_case v i w m s s' (crashing _) d e = absurd (decided_crashed _ i w r e refl)
  decision_case v i w m s s' (coordinates up h) d e = (cc, rw (up, eq-eqb p r h), λ other. absurd (other h))
  decision_case v i w m s s' (listens {m = nothing} _ _) d e = absurd (undecided_decided _ _ i w refl e)
  decision_case v i w m s s' (listens {m = estimate u} _ _) d e = absurd (undecided_decided _ _ i w refl e)
  decision_case v i w m s s' (listens {m = estimate_and_commit u} up other) d e = (cc, rw (up, ne_eqb p r other), λ _. cc)

  wait_case : (v w : ℕ) (m : Messages) (s s' : State) → Becomes r p own m s s' → s ≡ undecided v → s' ≡ undecided w
      → reason_from r p own m c s ≡ reason_hearing m c
  unfolding reason_from receives after_outcome
  wait_case v w m s s' stays_decided d e = absurd (undecided_decided _ v _ _ d refl)
  wait_case v w m s s' stays_crashed d e = absurd (undecided_crashed _ v _ d refl)
  wait_case v w m s s' (crashing _) d e = absurd (undecided_crashed _ w r e refl)
  wait_case v w m s s' (coordinates _ _) d e = absurd (undecided_decided _ w r _ e refl)
  wait_case v w m s s' (listens up other) d e = rw (up, ne_eqb p r other)

module _ (x : Instance) (q p : ℕ) where
  -- The reason of process p in round q + 1.
  abbrev pub reason_at : ℕ
  reason_at = reason_from (suc q) p (fault_of x p) (heard_at x q p) (state_at x q (suc q)) (state_at x q p)

  pub reason_crashed_before : (j : ℕ) → state_at x q p ≡ crashed j → reason_at ≡ 7
  unfolding reason_from
  reason_crashed_before j e = rw e

  pub reason_decided_before : (i v : ℕ) → state_at x q p ≡ decided i v → reason_at ≡ 7
  unfolding reason_from
  reason_decided_before i v e = rw e

  pub reason_crash : (v j : ℕ) → state_at x q p ≡ undecided v → state_at x (suc q) p ≡ crashed j → (j ≡ suc q) × (reason_at ≡ 6)
  reason_crash v j d e = crash_case (suc q) p _ _ v j _ _ _ (becomes_at x q p) d e

  pub reason_decision : (v i w : ℕ) → state_at x q p ≡ undecided v → state_at x (suc q) p ≡ decided i w
      → (i ≡ suc q) × (reason_at ≡ cond (eqb p (suc q)) 1 2) × ((p ≡ suc q → ⊥) → heard_at x q p ≡ estimate_and_commit w)
  reason_decision v i w d e = decision_case (suc q) p _ _ v i w _ _ _ (becomes_at x q p) d e

  pub reason_waiting_lem : (v w : ℕ) → state_at x q p ≡ undecided v → state_at x (suc q) p ≡ undecided w
      → reason_at ≡ reason_hearing (heard_at x q p) (state_at x q (suc q))
  reason_waiting_lem v w d e = wait_case (suc q) p _ _ v w _ _ _ (becomes_at x q p) d e

module _ (x : Instance) where
  -- A process that has crashed in round j was up and undecided when that round began, and has been crashed since it ended.
  abbrev CrashedSince : (r p j : ℕ) → Type 0
  CrashedSince r p j = (q : ℕ) × (u : ℕ) × (j ≡ suc q) × (suc q ≤ r) × (state_at x q p ≡ undecided u) × (state_at x (suc q) p ≡ crashed j)

  pub crashed_since : (r p j : ℕ) → state_at x r p ≡ crashed j → CrashedSince r p j
  unfolding state_at
  crashed_since zero p j e = absurd (undecided_crashed _ _ j refl e)
  crashed_since (suc r) p j e = by_state (crashed_since r p) (state_at x r p) refl
    where
      by_state : ((j : ℕ) → state_at x r p ≡ crashed j → CrashedSince r p j) → (s : State) → state_at x r p ≡ s → CrashedSince (suc r) p j
      by_state before (undecided u) b = (r, u, (reason_crash x r p u j b e).0, omega arith, b, e)
      by_state before (crashed i) b =
          let (q, u, same, within, waiting, since) = before i b in
          let stays : state_at x (suc r) p ≡ crashed i = crashed_later x r (suc r) p i (omega arith) b in
          let round : j ≡ i = cc in
          (q, u, omega arith, omega arith, waiting, since ∙ sym stays ∙ e)
      by_state before (decided i v) b = absurd (decided_crashed _ i v j (decided_later x r (suc r) p i v (omega arith) b) e)
