-- A valid open state stays valid through a round. Assumes nothing.
use mathlib.Core.Path.{◌≡◌, refl}
use mathlib.Core.Bool.{Bool, true, false, cond}
use Prim.Native.Nat.{ℕ, suc, ◌<◌}
use native.Mathlib.Omega.{arith}
use lib.Dec.{eqb}
use borrow.Author.Tests.{eqb-true, eqb-false}
use Rattle.coordinator.specs.Message.{Messages, nothing, estimate, estimate_and_commit}
use Rattle.coordinator.specs.Transition.{continues, decides, receives}
use Rattle.part_format.specs.PartState.{PartState, fields_valid, state_valid, is_own_round}
use Rattle.part_format.specs.Close.{state_after, closed_on}
use Rattle.part_format.proofs.Valid.{Identity, Within, round_within, Fields, fields_say, within_valid, over_valid}

continues_on : (over : Bool) (p n t round : ℕ) → Identity p n t → Within p t round → (p ≡ round → ⊥) → eqb round (suc t) ≡ over
    → fields_valid p n t (cond over round (suc round)) (cond over 2 0) ≡ true
continues_on true p n t round i w other e =
    let same : round ≡ suc t = eqb-true round (suc t) e in
    let above : suc t < p = omega arith in
    rw same (over_valid i above)
continues_on false p n t round i w other e =
    let more : round ≡ suc t → ⊥ = eqb-false round (suc t) e in
    within_valid i (omega arith) (record { first = omega arith; last = omega arith; own = omega arith })

-- The messages of a round leave a valid open state valid.
module _ (s : PartState) (valid : state_valid s ≡ true) (open-mark : s.mark ≡ 0) where
  facts : Fields s.process s.processes s.resilience s.round s.mark
  unfolding state_valid
  facts = fields_say _ _ _ _ _ valid

  within : Within s.process s.resilience s.round
  within = round_within s.process s.resilience s.round s.mark (λ h. omega arith) facts.round_valid_lem

  decides_valid : (v : ℕ) → state_valid (state_after s (decides v)) ≡ true
  unfolding state_valid state_after
  decides_valid v = within_valid facts.identity (omega arith) within

  continues_valid : (v : ℕ) → is_own_round s ≡ false → state_valid (state_after s (continues v)) ≡ true
  unfolding state_valid state_after is_own_round
  continues_valid v other =
      continues_on (eqb s.round (suc s.resilience)) _ _ _ _ facts.identity within (eqb-false s.process s.round other) refl

  receives_valid : (own : Bool) (m : Messages) → is_own_round s ≡ own → state_valid (state_after s (receives own s.value m)) ≡ true
  unfolding receives
  receives_valid true m e = decides_valid s.value
  receives_valid false nothing e = continues_valid s.value e
  receives_valid false (estimate w) e = continues_valid w e
  receives_valid false (estimate_and_commit w) e = decides_valid w

  pub closed_on_valid : (m : Messages) → state_valid (closed_on s m) ≡ true
  unfolding closed_on
  closed_on_valid m = receives_valid (is_own_round s) m refl
