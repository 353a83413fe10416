-- The tests of a state, and document 01's words for them. Assumes nothing.
use mathlib.Core.List.{List}
use mathlib.Core.Path.{◌≡◌, refl, sym, ◌∙◌}
use mathlib.Core.Bool.{Bool, true, false, cond, not, ◌&&◌}
use Prim.Native.Nat.{ℕ, suc, ◌≤◌, ◌<◌}
use native.Mathlib.Omega.{arith}
use borrow.Author.Tests.{eqb-true, ltb-true, eq-eqb, ne_eqb}
use lib.Dec.{eqb, ltb}
use lib.ListN.{length, get_or}
use Rattle.general.proofs.Tests.{true_false, both, by_order, by_equal}
use Rattle.part_format.specs.PartState.{identity_valid, round_valid, state_from, state_valid, state_refusal}
use Rattle.part_format.proofs.Valid.{Identity, identity_says, identity_holds, round_within, fields_say, within_valid, over_valid}
use Rattle.part_laws.specs.ValidState.{station_of, n_of, t_of, round_of, mark_of, Identified, ValidState, OpenState}

-- n, t and station.
pub identified : (p n t : ℕ) → identity_valid p n t ≡ true → Identified p n t
identified p n t e =
    let i = identity_says p n t e in
    let some : 1 ≤ n = omega (arith, i.process, i.within) in
    record {
      limits = record { some_process = some; at_most_64 = i.processes; fewer_crashes = i.resilience };
      first = i.process;
      last = i.within;
    }

pub identity_of : (p n t : ℕ) → Identified p n t → Identity p n t
identity_of p n t i = record { process = i.first; within = i.last; processes = i.limits.at_most_64; resilience = i.limits.fewer_crashes }

-- Rounds over.
round_over_lem : (p t round mark : ℕ) → mark ≡ 2 → round_valid p t round mark ≡ true → (round ≡ suc t) × (suc t < p)
unfolding round_valid
round_over_lem p t round mark m e =
    let two = both (eqb round (suc t)) (ltb (suc t) p) (rw (eq-eqb mark 2 m) at e) in
    (eqb-true _ _ two.0, ltb-true _ _ two.1)

module _ (b : List ℕ) where
  -- The one test for refusal 10.
  sound : Bool
  sound = eqb (length b) 9 && state_valid (state_from b)

  sound_valid : sound ≡ true → ValidState b
  unfolding sound state_valid state_from station_of n_of t_of round_of mark_of
  sound_valid e =
      let parts = both (eqb (length b) 9) (state_valid (state_from b)) e in
      let fields = fields_say (get_or b 0 0) (get_or b 1 0) (get_or b 2 0) (get_or b 3 0) (get_or b 4 0) parts.1 in
      record {
        nine = eqb-true _ _ parts.0;
        identified = identified _ _ _ (identity_holds fields.identity);
        mark = fields.known;
        in_rounds = λ m.
            let other : get_or b 4 0 ≡ 2 → ⊥ = λ two. omega (arith, m, two) in
            let w = round_within (get_or b 0 0) (get_or b 2 0) (get_or b 3 0) (get_or b 4 0) other fields.round_valid_lem in
            (w.first, w.last, w.own);
        after_rounds = λ m. round_over_lem (get_or b 0 0) (get_or b 2 0) (get_or b 3 0) (get_or b 4 0) m fields.round_valid_lem;
      }

  fields_valid_lem : ValidState b → state_valid (state_from b) ≡ true
  unfolding state_valid state_from station_of n_of t_of round_of mark_of
  fields_valid_lem v =
      let i = identity_of _ _ _ v.identified in
      by_order (get_or b 4 0) 1
      (λ small.
      let r = v.in_rounds small in
      within_valid i (omega (arith, small)) (record { first = r.0; last = r.1; own = r.2 }))
      (λ large.
      let two : get_or b 4 0 ≡ 2 = omega (arith, large, v.mark) in
      let r = v.after_rounds two in
      rw (two, r.0) (over_valid i r.1))

  valid_sound : ValidState b → sound ≡ true
  unfolding sound
  valid_sound v = rw (eq-eqb (length b) 9 v.nine, fields_valid_lem v)

  -- Which refusal a state gets.
  pub refusal_10 : (ValidState b → ⊥) → state_refusal b ≡ 10
  unfolding state_refusal sound
  refusal_10 never = by_test sound refl
    where
      by_test : (t : Bool) → sound ≡ t → ◌≡◌ {A = ℕ} (cond (not t) 10 (cond (not (eqb (state_from b).mark 0)) 11 0)) 10
      by_test true e = absurd (never (sound_valid e))
      by_test false e = refl

  pub refusal_11 : ValidState b → (mark_of b ≡ 0 → ⊥) → state_refusal b ≡ 11
  unfolding state_refusal state_from mark_of
  refusal_11 v other = rw (eq-eqb (length b) 9 v.nine, fields_valid_lem v, ne_eqb (get_or b 4 0) 0 other)

  pub refusal_none : OpenState b → state_refusal b ≡ 0
  unfolding state_refusal state_from mark_of
  refusal_none o = rw (eq-eqb (length b) 9 o.valid.nine, fields_valid_lem o.valid, eq-eqb (get_or b 4 0) 0 o.unmarked)

  -- A state is not valid, valid and not open, or open.
  pub by_state : {C : Type 0} → ((ValidState b → ⊥) → C) → (ValidState b → (mark_of b ≡ 0 → ⊥) → C) → (OpenState b → C) → C
  by_state {C} invalid ended opened = by_test sound refl
    where
      by_test : (t : Bool) → sound ≡ t → C
      by_test true e =
          by_equal (mark_of b) 0 (λ zero. opened (record { valid = sound_valid e; unmarked = zero })) (λ other. ended (sound_valid e) other)
      by_test false e = invalid (λ v. true_false (sym (valid_sound v) ∙ e))

  -- A state that does not get 10 is valid, and one that gets it is not.
  pub valid_state : (state_refusal b ≡ 10 → ⊥) → ValidState b
  valid_state other = by_state (λ invalid. absurd (other (refusal_10 invalid))) (λ valid marked. valid) (λ opened. opened.valid)

  pub no_state_lem : state_refusal b ≡ 10 → ValidState b → ⊥
  no_state_lem e valid =
      by_equal (mark_of b) 0
      (λ zero. omega (arith, e, refusal_none (record { valid = valid; unmarked = zero })))
      (λ marked. omega (arith, e, refusal_11 valid marked))

  -- One that is not refused is open.
  pub open_state_lem : state_refusal b ≡ 0 → OpenState b
  open_state_lem e =
      by_state (λ invalid. absurd (let z : ⊥ = omega (arith, e, refusal_10 invalid) in z))
      (λ valid marked. absurd (let z : ⊥ = omega (arith, e, refusal_11 valid marked) in z)) (λ opened. opened)
