-- Tests: what both sides of a conjunction say, tests that say the same, cases on an order and on an equality, and a bound of a choice. Assumes nothing.
use mathlib.Core.Path.{◌≡◌, refl, sym}
use mathlib.Core.Bool.{Bool, true, false, cond, ◌&&◌}
use Prim.Native.Nat.{ℕ, ◌≤◌, ◌<◌}
use native.Mathlib.Omega.{arith}
use lib.Dec.{leb, eqb}
use borrow.Author.Tests.{leb-true, leb-false, eqb-true, eqb-false}

-- Two tests that hold together hold each.
pub both : (a b : Bool) → (a && b) ≡ true → (a ≡ true) × (b ≡ true)
both true b e = (refl, e)
both false b e = (e, cc)

-- No test both holds and fails.
pub true_false : true ≡ false → ⊥
true_false e = let z : ◌≡◌ {A = ℕ} 1 0 = cc in omega arith

-- A test that holds only where nothing does is false.
pub refuted : (b : Bool) → (b ≡ true → ⊥) → false ≡ b
refuted true h = absurd (h refl)
refuted false h = refl

-- Two tests that say the same are the same.
pub same_test : (a b : Bool) → (a ≡ true → b ≡ true) → (b ≡ true → a ≡ true) → a ≡ b
same_test true b f g = sym (f refl)
same_test false true f g = g refl
same_test false false f g = refl

-- By cases on an order.
pub by_order : {C : Type 0} (a b : ℕ) → (a ≤ b → C) → (b < a → C) → C
by_order {C} a b f g = pick (leb a b) refl where
  pick : (t : Bool) → leb a b ≡ t → C
  pick true e = f (leb-true a b e)
  pick false e = g (leb-false a b e)

-- By cases on an equality.
pub by_equal : {C : Type 0} (a b : ℕ) → (a ≡ b → C) → ((a ≡ b → ⊥) → C) → C
by_equal {C} a b f g = pick (eqb a b) refl where
  pick : (t : Bool) → eqb a b ≡ t → C
  pick true e = f (eqb-true a b e)
  pick false e = g (eqb-false a b e)

-- A choice of two numbers is at most what both are.
pub cond_le : (b : Bool) (k l m : ℕ) → k ≤ m → l ≤ m → cond b k l ≤ m
cond_le true k l m h g = h
cond_le false k l m h g = g
