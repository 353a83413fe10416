-- Uniform agreement (document 001, section 3.3, Lemma 2). The first round whose coordinator sends all its data fixes the value: before it nobody has decided,
-- after it every process that has not crashed holds that value. Assumes nothing.
use mathlib.Core.Logic.{◌⊎◌, inl, inr}
use mathlib.Core.Path.{◌≡◌, refl, sym, subst, ap}
use Prim.Native.Nat.{ℕ, zero, suc, ◌≤◌, ◌<◌}
use native.Mathlib.Omega.{arith}
use Rattle.coordinator.specs.Message.{Messages}
use Rattle.coordinator.specs.Transition.{receives}
use Rattle.consensus.specs.Instance.{Instance, fault_of}
use Rattle.consensus.specs.declared.Fault.{Fault}
use Rattle.consensus.specs.declared.State.{State}
use Rattle.consensus.specs.declared.State.TheVariants.{Undecided as undecided, Decided as decided, Crashed as crashed}
use Rattle.coordinator.specs.Round.{after_outcome}
use Rattle.coordinator_laws.proofs.Pointwise.{state_at}
use Rattle.coordinator_laws.proofs.Rounds.{Hears, below, from_decided, from_crashed, unreached, data_alone, data_and_commit}
use Rattle.coordinator_laws.proofs.Rounds.{Becomes, stays_decided, stays_crashed, crashing, coordinates, listens}
use Rattle.coordinator_laws.proofs.Delivery.{NoCommit, AllData, no_commit_or_all_data}
use Rattle.coordinator_laws.proofs.History.{hears_at, becomes_at, undecided_decided, undecided_crashed, decided_crashed, crashed_later}
use Rattle.coordinator_laws.proofs.Values.{Holds, holds_decided, holds_after_round}
use Rattle.coordinator_laws.proofs.Coordinator.{decides_on, waits_below}

-- After r rounds nobody has decided.
unfoldable pub NoneDecided : Instance → ℕ → Type 0
NoneDecided x r = (p i v : ℕ) → state_at x r p ≡ decided i v → ⊥

-- After r rounds every process that has not crashed holds v.
unfoldable pub Locked : Instance → ℕ → ℕ → Type 0
Locked x r v = (p : ℕ) → 1 ≤ p → Holds (λ w. w ≡ v) (state_at x r p)

-- A coordinator that sends all its data, while nobody has decided, hands its value to a process that is not behind it.
lock_case : (n r p : ℕ) (fault own : Fault) (u : ℕ) (c : State) (m : Messages) (s s' : State) → Hears n r fault p c m → Becomes r p own m s s'
    → AllData n fault r → c ≡ undecided u → ((i v : ℕ) → s ≡ decided i v → ⊥) → ((v : ℕ) → p < r → s ≡ undecided v → ⊥) → (p ≡ r → s ≡ c)
    → Holds (λ w. w ≡ u) s'
unfolding Holds AllData receives after_outcome
lock_case n r p fault own u c m s s' heard (stays_decided {i = i} {v = v}) sent from fresh ahead same = absurd (fresh i v refl)
lock_case n r p fault own u c m s s' heard stays_crashed sent from fresh ahead same = tt
lock_case n r p fault own u c m s s' heard (crashing _) sent from fresh ahead same = tt
lock_case n r p fault own u c m s s' heard (coordinates _ h) sent from fresh ahead same = cc (same h)
lock_case n r p fault own u c m s s' (below h) (listens {v = v} _ other) sent from fresh ahead same = absurd (ahead v (omega arith) refl)
lock_case n r p fault own u c m s s' (from_decided _) (listens _ _) sent from fresh ahead same = absurd (undecided_decided _ u _ _ from refl)
lock_case n r p fault own u c m s s' (from_crashed _) (listens _ _) sent from fresh ahead same = absurd (undecided_crashed _ u _ from refl)
lock_case n r p fault own u c m s s' (unreached _ e) (listens _ _) sent from fresh ahead same = absurd (sent p e)
lock_case n r p fault own u c m s s' (data_alone _ _) (listens _ _) sent from fresh ahead same = cc
lock_case n r p fault own u c m s s' (data_and_commit _ _) (listens _ _) sent from fresh ahead same = cc

module _ (x : Instance) (r : ℕ) where
  -- A round leaves the value fixed.
  stays_locked : (v : ℕ) → Locked x r v → Locked x (suc r) v
  unfolding Locked
  stays_locked v h p one = holds_after_round (λ w. w ≡ v) x r p (h (suc r) (omega arith)) (h p one)

  -- A round in which no undecided coordinator sends a commit leaves nobody decided.
  none_decides : NoneDecided x r → ((u : ℕ) → state_at x r (suc r) ≡ undecided u → NoCommit x.processes (fault_of x (suc r)) (suc r)) → NoneDecided x (suc r)
  unfolding NoneDecided NoCommit
  none_decides fresh cut p i v e = by_state (state_at x r p) refl
    where
      by_state : (s : State) → state_at x r p ≡ s → ⊥
      by_state (undecided u) b = let on = decides_on x r p i u v b e in cut v on.estimate_of p on.committed
      by_state (decided j u) b = fresh p j u b
      by_state (crashed j) b = decided_crashed _ i v j e (crashed_later x r (suc r) p j (omega arith) b)

  -- The first round whose coordinator sends all its data fixes its value.
  becomes_locked : (u : ℕ) → NoneDecided x r → state_at x r (suc r) ≡ undecided u → AllData x.processes (fault_of x (suc r)) (suc r) → Locked x (suc r) u
  unfolding NoneDecided Locked
  becomes_locked u fresh from sent p one =
      lock_case _ _ p _ _ u _ _ _ _ (hears_at x r p) (becomes_at x r p) sent from (fresh p)
      (λ v h e. let z : ⊥ = omega (arith, waits_below x r p v one e) in z) (λ h. ap (state_at x r) h)

  open_or_locked_step : NoneDecided x r ⊎ ((v : ℕ) × Locked x r v) → NoneDecided x (suc r) ⊎ ((v : ℕ) × Locked x (suc r) v)
  open_or_locked_step (inr (v, h)) = inr (v, stays_locked v h)
  open_or_locked_step (inl fresh) = by_state (state_at x r (suc r)) refl
    where
      by_sending : (u : ℕ) → state_at x r (suc r) ≡ undecided u
          → NoCommit x.processes (fault_of x (suc r)) (suc r) ⊎ AllData x.processes (fault_of x (suc r)) (suc r)
          → NoneDecided x (suc r) ⊎ ((v : ℕ) × Locked x (suc r) v)
      by_sending u b (inl cut) = inl (none_decides fresh (λ _ _. cut))
      by_sending u b (inr sent) = inr (u, becomes_locked u fresh b sent)

      by_state : (s : State) → state_at x r (suc r) ≡ s → NoneDecided x (suc r) ⊎ ((v : ℕ) × Locked x (suc r) v)
      by_state (undecided u) b = by_sending u b (no_commit_or_all_data _ _ _)
      by_state (decided i u) b = inl (none_decides fresh (λ w e. absurd (undecided_decided _ w i u e b)))
      by_state (crashed i) b = inl (none_decides fresh (λ w e. absurd (undecided_crashed _ w i e b)))

module _ (x : Instance) where
  -- After every round nobody has decided, or the value is fixed.
  pub open_or_locked : (r : ℕ) → NoneDecided x r ⊎ ((v : ℕ) × Locked x r v)
  unfolding NoneDecided state_at
  open_or_locked zero = inl (λ p i v e. undecided_decided _ _ i v refl e)
  open_or_locked (suc r) = open_or_locked_step x r (open_or_locked r)

  -- A process that has decided holds the value that is fixed.
  locked_value : (r u p i v : ℕ) → Locked x r u → 1 ≤ p → state_at x r p ≡ decided i v → v ≡ u
  unfolding Locked
  locked_value r u p i v h one d = holds_decided (λ w. w ≡ u) _ i v d (h p one)

  -- A process that has not crashed holds what another has decided.
  pub holds_decision : (r p q i v : ℕ) → 1 ≤ p → 1 ≤ q → state_at x r p ≡ decided i v → Holds (λ w. w ≡ v) (state_at x r q)
  unfolding NoneDecided Locked
  holds_decision r p q i v h g d = by_lock (open_or_locked r)
    where
      by_lock : NoneDecided x r ⊎ ((u : ℕ) × Locked x r u) → Holds (λ w. w ≡ v) (state_at x r q)
      by_lock (inl fresh) = absurd (fresh p i v d)
      by_lock (inr (u, holds)) = subst (λ (z : ℕ). Holds (λ w. w ≡ z) (state_at x r q)) (sym (locked_value r u p i v holds h d)) (holds q g)

  -- All processes that have decided after r rounds have decided one value.
  pub agreement_at : (r p q a b v w : ℕ) → 1 ≤ p → 1 ≤ q → state_at x r p ≡ decided a v → state_at x r q ≡ decided b w → v ≡ w
  agreement_at r p q a b v w h g d e = sym (holds_decided (λ u. u ≡ v) _ b w e (holds_decision r p q a v h g d))
