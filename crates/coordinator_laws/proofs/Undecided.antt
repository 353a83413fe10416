-- The test for a process up and undecided in the forms that are used: at one process, and at all. Assumes nothing.
use mathlib.Core.List.{List, [], ◌∷◌}
use mathlib.Core.Path.{◌≡◌, refl, ap, ◌∙◌}
use mathlib.Core.Bool.{Bool, true, false, true≢false, false≢true}
use Prim.Native.Nat.{ℕ, zero, suc, ◌-◌, ◌≤◌, ◌<◌}
use native.Mathlib.Omega.{arith}
use lib.ListN.{length, get_or}
use Rattle.consensus.specs.State.{state_of}
use Rattle.consensus.specs.declared.State.{State}
use Rattle.consensus.specs.declared.State.TheVariants.{Undecided as undecided, Decided as decided, Crashed as crashed}
use Rattle.coordinator.specs.Undecided.{is_undecided, any_undecided}

-- The value of a state that is up and undecided.
pub value_of_undecided : (s : State) → is_undecided s ≡ true → (v : ℕ) × (s ≡ undecided v)
unfolding is_undecided
value_of_undecided (undecided v) h = (v, refl)
value_of_undecided (decided round v) h = absurd (false≢true h)
value_of_undecided (crashed round) h = absurd (false≢true h)

none_at : (states : List State) (k : ℕ) → any_undecided states ≡ false → is_undecided (get_or states k (crashed 0)) ≡ false
unfolding any_undecided is_undecided
none_at [] k h = refl
none_at (undecided v ∷ states) k h = absurd (true≢false h)
none_at (decided round v ∷ states) zero h = refl
none_at (decided round v ∷ states) (suc k) h = none_at states k h
none_at (crashed round ∷ states) zero h = refl
none_at (crashed round ∷ states) (suc k) h = none_at states k h

-- If no process is up and undecided, then process p is not, whether there is such a process or not.
pub none_undecided : (states : List State) (p : ℕ) → any_undecided states ≡ false → is_undecided (state_of states p) ≡ false
unfolding state_of
none_undecided states p h = none_at states (p - 1) h

some_at : (states : List State) → any_undecided states ≡ true → (k : ℕ) × (k < length states) × (v : ℕ) × (get_or states k (crashed 0) ≡ undecided v)
unfolding any_undecided is_undecided
some_at [] h = absurd (false≢true h)
some_at (undecided v ∷ states) h = (0, omega arith, v, refl)
some_at (decided round v ∷ states) h = let rest = some_at states h in (suc rest.0, omega arith, rest.2, rest.3)
some_at (crashed round ∷ states) h = let rest = some_at states h in (suc rest.0, omega arith, rest.2, rest.3)

-- If some process is up and undecided, here is one.
pub some_undecided : (states : List State) → any_undecided states ≡ true
    → (p : ℕ) × (1 ≤ p) × (p ≤ length states) × (v : ℕ) × (state_of states p ≡ undecided v)
unfolding state_of
some_undecided states h =
    let one = some_at states h in
    let same : suc one.0 - 1 ≡ one.0 = omega arith in
    (suc one.0, omega arith, omega arith, one.2, ap (λ (k : ℕ). get_or states k (crashed 0)) same ∙ one.3)

-- Where no process is up and undecided, none is found.
pub not_any : (states : List State) → ((p v : ℕ) → 1 ≤ p → p ≤ length states → state_of states p ≡ undecided v → ⊥) → any_undecided states ≡ false
not_any states h = by_test (any_undecided states) refl
  where
    by_test : (b : Bool) → any_undecided states ≡ b → b ≡ false
    by_test false e = refl
    by_test true e = let one = some_undecided states e in absurd (h one.0 one.3 one.1 one.2 one.4)
