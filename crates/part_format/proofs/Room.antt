-- Speaking with room for both frames: no more room changes anything. Assumes nothing.
use mathlib.Core.List.{List}
use mathlib.Core.Logic.{◌⊎◌, inl, inr}
use mathlib.Core.Path.{◌≡◌, refl, sym}
use mathlib.Core.Bool.{Bool, true, false, cond, not}
use Prim.Native.Nat.{ℕ, ◌≤◌}
use native.Mathlib.Omega.{arith}
use lib.Dec.{eqb, ltb}
use lib.ListN.{length}
use borrow.Author.Tests.{eqb-true, le-ltb}
use Rattle.part_format.specs.PartState.{state_from, state_refusal}
use Rattle.part_format.specs.Speak.{spoken_by, speak_refusal, speak_yields}
use Rattle.part_format.proofs.Operations.{spoken_length}

eight_fit : {k room : ℕ} → 8 ≤ room → (k ≡ 0) ⊎ (k ≡ 8) → k ≤ room
eight_fit enough (inl e) = omega arith
eight_fit enough (inr e) = omega arith

itself : (none : Bool) (k : ℕ) → eqb k 0 ≡ none → cond (not none) k 0 ≡ k
itself true k e = sym (eqb-true k 0 e)
itself false k e = refl

-- Only the state is looked at.
pub room_enough : (state : List ℕ) (room : ℕ) → 8 ≤ room → speak_refusal state room ≡ state_refusal state
unfolding speak_refusal
room_enough state room enough =
    let fits : ltb room (length (spoken_by (state_from state))) ≡ false = le-ltb room _ (eight_fit enough (spoken_length (state_from state))) in
    rw fits (itself (eqb (state_refusal state) 0) (state_refusal state) refl)

pub same_yields : (state : List ℕ) (room : ℕ) → 8 ≤ room → speak_yields state room ≡ speak_yields state 8
unfolding speak_yields
same_yields state room enough = rw (room_enough state room enough, room_enough state 8 (omega arith))
