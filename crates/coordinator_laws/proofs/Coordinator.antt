-- Who decides does so on the coordinator's estimate, and the commit reaches whoever stands above it too. So if a process above k is up and undecided
-- after round k, coordinator k has crashed. Assumes nothing.
use mathlib.Core.Path.{◌≡◌, refl, sym, subst, ap, ◌∙◌}
use mathlib.Core.Bool.{false}
use Prim.Native.Nat.{ℕ, zero, suc, ◌≤◌, ◌<◌}
use native.Mathlib.Omega.{arith}
use native.Mathlib.Nat.{lt_of_not-le}
use Rattle.coordinator.specs.Message.{Messages, nothing, estimate, estimate_and_commit, all}
use Rattle.coordinator.specs.Transition.{receives}
use Rattle.consensus.specs.Instance.{Instance, fault_of}
use Rattle.consensus.specs.declared.Fault.{Fault}
use Rattle.coordinator.specs.Delivery.{reach_in}
use Rattle.consensus.specs.State.{crashes_in}
use Rattle.consensus.specs.declared.State.{State}
use Rattle.consensus.specs.declared.State.TheVariants.{Undecided as undecided, Decided as decided, Crashed as crashed}
use Rattle.coordinator.specs.Round.{after_outcome}
use Rattle.coordinator_laws.proofs.Pointwise.{state_at}
use Rattle.coordinator_laws.proofs.Rounds.{Hears, hears_commit, received_commit, Becomes, stays_decided, stays_crashed, crashing, coordinates, listens}
use Rattle.coordinator_laws.proofs.Delivery.{reach_up, reach_upward}
use Rattle.coordinator_laws.proofs.History.{heard_at, hears_at, becomes_at, undecided_decided, undecided_crashed}
use Rattle.coordinator_laws.proofs.History.{decided_crashed, undecided_earlier, decided_later, crashed_later}

-- A process that decides in round r on v is the coordinator of the round or above it, the coordinator began the round undecided with the estimate v, and
-- its commits reach the process.
pub record DecidesOn (n r : ℕ) (fault : Fault) (p : ℕ) (c : State) (i v : ℕ) : Type 0 where
  pub in_round_lem : i ≡ r
  pub at_or_above : r ≤ p
  pub committed : reach_in n fault r p ≡ all
  pub estimate_of : c ≡ undecided v

module _ (n r : ℕ) (fault : Fault) (p : ℕ) (own : Fault) (c : State) (i u v : ℕ) where
  decides_case : (m : Messages) (s s' : State) → Hears n r fault p c m → Becomes r p own m s s' → (p ≡ r → s ≡ c) → (p ≡ r → own ≡ fault)
      → s ≡ undecided u → s' ≡ decided i v → DecidesOn n r fault p c i v
  unfolding receives after_outcome
  decides_case m s s' heard stays_decided same same' d e = absurd (undecided_decided _ u _ _ d refl)
  decides_case m s s' heard stays_crashed same same' d e = absurd (undecided_crashed _ u _ d refl)
  decides_case m s s' heard (crashing _) same same' d e = absurd (decided_crashed _ i v r e refl)
  decides_case m s s' heard (coordinates up h) same same' d e =
      record {
        in_round_lem = cc;
        at_or_above = omega arith;
        committed = reach_up n fault r p (subst (λ (f : Fault). crashes_in r f ≡ false) (same' h) up);
        estimate_of = cc (same h);
      }
  decides_case m s s' heard (listens {m = nothing} _ _) same same' d e = absurd (undecided_decided _ _ i v refl e)
  decides_case m s s' heard (listens {m = estimate w} _ _) same same' d e = absurd (undecided_decided _ _ i v refl e)
  decides_case m s s' heard (listens {m = estimate_and_commit w} _ _) same same' d e =
      let (above, reached, from) = hears_commit n r fault p heard in
      record { in_round_lem = cc; at_or_above = omega arith; committed = reached; estimate_of = cc }

module _ (r p : ℕ) (own : Fault) (v : ℕ) where
  -- The coordinator does not wait on after its own round.
  coordinator_ends_wait : p ≡ r → (m : Messages) (s s' : State) → Becomes r p own m s s' → s' ≡ undecided v → ⊥
  unfolding receives after_outcome
  coordinator_ends_wait h m s s' stays_decided e = undecided_decided _ v _ _ e refl
  coordinator_ends_wait h m s s' stays_crashed e = undecided_crashed _ v _ e refl
  coordinator_ends_wait h m s s' (crashing _) e = undecided_crashed _ v _ e refl
  coordinator_ends_wait h m s s' (coordinates _ _) e = undecided_decided _ v _ _ e refl
  coordinator_ends_wait h m s s' (listens _ other) e = other h

  -- Nor does a process that receives a commit.
  commit_ends_wait : (u : ℕ) (s s' : State) → Becomes r p own (estimate_and_commit u) s s' → s' ≡ undecided v → ⊥
  unfolding receives after_outcome
  commit_ends_wait u s s' stays_decided e = undecided_decided _ v _ _ e refl
  commit_ends_wait u s s' stays_crashed e = undecided_crashed _ v _ e refl
  commit_ends_wait u s s' (crashing _) e = undecided_crashed _ v _ e refl
  commit_ends_wait u s s' (coordinates _ _) e = undecided_decided _ v _ _ e refl
  commit_ends_wait u s s' (listens _ _) e = undecided_decided _ v _ _ e refl

module _ (x : Instance) where
  -- What `DecidesOn` says, of a process of the run.
  pub decides_on : (r p i u v : ℕ) → state_at x r p ≡ undecided u → state_at x (suc r) p ≡ decided i v
      → DecidesOn x.processes (suc r) (fault_of x (suc r)) p (state_at x r (suc r)) i v
  decides_on r p i u v d e =
      decides_case _ _ _ p _ _ i u v _ _ _ (hears_at x r p) (becomes_at x r p)
      (λ h. ap (state_at x r) h) (λ h. ap (fault_of x) h) d e

  -- A process that has decided in round i was up and undecided when that round began, and has been decided since it ended.
  abbrev DecidedSince : (r p i v : ℕ) → Type 0
  DecidedSince r p i v = (q : ℕ) × (u : ℕ) × (i ≡ suc q) × (suc q ≤ r) × (state_at x q p ≡ undecided u) × (state_at x (suc q) p ≡ decided i v)

  pub decided_since : (r p i v : ℕ) → state_at x r p ≡ decided i v → DecidedSince r p i v
  unfolding state_at
  decided_since zero p i v e = absurd (undecided_decided _ _ i v refl e)
  decided_since (suc r) p i v e = by_state (decided_since r p) (state_at x r p) refl
    where
      by_state : ((i v : ℕ) → state_at x r p ≡ decided i v → DecidedSince r p i v) → (s : State) → state_at x r p ≡ s → DecidedSince (suc r) p i v
      by_state before (undecided u) b = (r, u, (decides_on r p i u v b e).in_round_lem, omega arith, b, e)
      by_state before (decided j w) b =
          let (q, u, same, within, waiting, since) = before j w b in
          let stays : state_at x (suc r) p ≡ decided j w = decided_later x r (suc r) p j w (omega arith) b in
          let round : i ≡ j = cc in
          (q, u, omega arith, omega arith, waiting, since ∙ sym stays ∙ e)
      by_state before (crashed j) b = absurd (decided_crashed _ i v j e (crashed_later x r (suc r) p j (omega arith) b))

  -- A process that a commit reaches is not undecided any more.
  pub committed_above : (r p u v : ℕ) → suc r < p → reach_in x.processes (fault_of x (suc r)) (suc r) p ≡ all → state_at x r (suc r) ≡ undecided u
      → state_at x (suc r) p ≡ undecided v → ⊥
  committed_above r p u v h reached from e =
      let heard : heard_at x r p ≡ estimate_and_commit u = rw from (received_commit _ _ _ p u h reached) in
      commit_ends_wait (suc r) p _ v u _ _ (rw heard at (becomes_at x r p)) e

  -- Whoever stands above a process that has decided is not undecided.
  pub decided_above : (r k p i v w : ℕ) → k < p → state_at x r k ≡ decided i v → state_at x r p ≡ undecided w → ⊥
  unfolding state_at
  decided_above zero k p i v w h d e = undecided_decided _ _ i v refl d
  decided_above (suc r) k p i v w h d e = by_state (decided_above r k p) (state_at x r k) refl
    where
      by_state : ((i v w : ℕ) → k < p → state_at x r k ≡ decided i v → state_at x r p ≡ undecided w → ⊥) → (s : State) → state_at x r k ≡ s → ⊥
      by_state before (undecided u) b =
          let on = decides_on r k i u v b d in
          let up : reach_in x.processes (fault_of x (suc r)) (suc r) p ≡ all = reach_upward _ _ _ k p (omega arith) on.committed in
          committed_above r p v w (omega arith) up on.estimate_of e
      by_state before (decided j u) b = let (y, f) = undecided_earlier x r (suc r) p w (omega arith) e in before j u y h b f
      by_state before (crashed j) b = decided_crashed _ i v j d (crashed_later x r (suc r) k j (omega arith) b)

  -- No process is undecided once its own round is over.
  own_round_over : (r p v : ℕ) → 1 ≤ p → p ≤ r → state_at x r p ≡ undecided v → ⊥
  own_round_over r zero v one h e = let z : ⊥ = omega arith in z
  own_round_over r (suc k) v one h e =
      let (w, f) = undecided_earlier x (suc k) r (suc k) v h e in
      coordinator_ends_wait (suc k) (suc k) _ w refl _ _ _ (becomes_at x k (suc k)) f

  -- A process that is undecided has its own round ahead of it.
  pub waits_below : (r p v : ℕ) → 1 ≤ p → state_at x r p ≡ undecided v → r < p
  waits_below r p v one e = lt_of_not-le (λ (over : p ≤ r). own_round_over r p v one over e)

  -- If a process above k is up and undecided after round k, coordinator k has crashed.
  pub coordinator_crashed : (k p v : ℕ) → 1 ≤ k → k < p → state_at x k p ≡ undecided v → (j : ℕ) × (state_at x k k ≡ crashed j)
  coordinator_crashed k p v one h e = by_state (state_at x k k) refl
    where
      by_state : (s : State) → state_at x k k ≡ s → (j : ℕ) × (state_at x k k ≡ crashed j)
      by_state (undecided u) b = absurd (own_round_over k k u one (omega arith) b)
      by_state (decided i u) b = absurd (decided_above k k p i u v h b e)
      by_state (crashed j) b = (j, b)
