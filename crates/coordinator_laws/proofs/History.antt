-- The states of one process over the rounds: what it receives and becomes in each, and that decided and crashed are for good. Assumes nothing.
use mathlib.Core.Path.{◌≡◌, refl}
use Prim.Native.Nat.{ℕ, suc, ◌≤◌}
use native.Mathlib.Omega.{arith}
use native.Mathlib.Decide.{le_ind}
use Rattle.coordinator.specs.Message.{Messages}
use Rattle.consensus.specs.Instance.{Instance, fault_of}
use Rattle.consensus.specs.declared.State.{State}
use Rattle.consensus.specs.declared.State.TheVariants.{Undecided as undecided, Decided as decided, Crashed as crashed}
use Rattle.coordinator_laws.proofs.Pointwise.{received_in, state_at}
use Rattle.coordinator_laws.proofs.Rounds.{Hears, hears, Becomes, becomes, after_decided, after_crashed}

module _ (x : Instance) (r p : ℕ) where
  -- What process p receives in round r + 1.
  abbrev pub heard_at : Messages
  heard_at = received_in x (suc r) (state_at x r (suc r)) p

  pub hears_at : Hears x.processes (suc r) (fault_of x (suc r)) p (state_at x r (suc r)) heard_at
  hears_at = hears x.processes (suc r) (fault_of x (suc r)) p (state_at x r (suc r))

  -- What it becomes.
  pub becomes_at : Becomes (suc r) p (fault_of x p) heard_at (state_at x r p) (state_at x (suc r) p)
  unfolding state_at
  becomes_at = becomes (suc r) p (fault_of x p) heard_at (state_at x r p)

-- No state is of two kinds.
pub undecided_decided : (s : State) (u i v : ℕ) → s ≡ undecided u → s ≡ decided i v → ⊥
undecided_decided s u i v e d = let z : ◌≡◌ {A = ℕ} 0 1 = cc in omega arith

pub undecided_crashed : (s : State) (u i : ℕ) → s ≡ undecided u → s ≡ crashed i → ⊥
undecided_crashed s u i e d = let z : ◌≡◌ {A = ℕ} 0 1 = cc in omega arith

pub decided_crashed : (s : State) (i v j : ℕ) → s ≡ decided i v → s ≡ crashed j → ⊥
decided_crashed s i v j e d = let z : ◌≡◌ {A = ℕ} 0 1 = cc in omega arith

module _ (x : Instance) where
  -- Decided is for good.
  pub decided_later : (r m p i v : ℕ) → r ≤ m → state_at x r p ≡ decided i v → state_at x m p ≡ decided i v
  unfolding state_at
  decided_later r m p i v h e =
      le_ind (λ k. state_at x k p ≡ decided i v) e (λ k _ d. rw d (after_decided _ _ _ _ i v)) m h

  -- Crashed is for good.
  pub crashed_later : (r m p i : ℕ) → r ≤ m → state_at x r p ≡ crashed i → state_at x m p ≡ crashed i
  unfolding state_at
  crashed_later r m p i h e =
      le_ind (λ k. state_at x k p ≡ crashed i) e (λ k _ d. rw d (after_crashed _ _ _ _ i)) m h

  -- A process undecided after round m was so after every earlier round.
  pub undecided_earlier : (r m p v : ℕ) → r ≤ m → state_at x m p ≡ undecided v → (w : ℕ) × (state_at x r p ≡ undecided w)
  undecided_earlier r m p v h e = by_state (state_at x r p) refl
    where
      by_state : (s : State) → state_at x r p ≡ s → (w : ℕ) × (state_at x r p ≡ undecided w)
      by_state (undecided w) d = (w, d)
      by_state (decided i w) d = absurd (undecided_decided _ v i w e (decided_later r m p i w h d))
      by_state (crashed i) d = absurd (undecided_crashed _ v i e (crashed_later r m p i h d))
