-- What is answered where an operation goes on with an answer: two cases, and no other. Assumes nothing.
use mathlib.Core.Path.{◌≡◌, refl}
use Prim.Native.Nat.{ℕ}
use Rattle.general.specs.Answer.{Answer, accepted, refused, and_then}

pub and_then_cases : {A B : Type 0} (P : Answer B → Type 0) (a : Answer A) (next : A → Answer B)
    → ((x : A) → a ≡ accepted x → P (next x)) → ((number line : ℕ) → a ≡ refused number line → P (refused number line)) → P (and_then a next)
and_then_cases {A} P a next given told = by_answer a refl
  where
    by_answer : (b : Answer A) → a ≡ b → P (and_then b next)
    by_answer (accepted x) e = given x e
    by_answer (refused number line) e = told number line e
