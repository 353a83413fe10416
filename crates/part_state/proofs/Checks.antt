-- What the checks of a state come to, one law for each way that they end. Assumes nothing.
use mathlib.Core.Path.{◌≡◌}
use mathlib.Core.List.{List}
use mathlib.Core.Bool.{Bool, true, false}
use Prim.Native.Nat.{ℕ, suc, ◌+◌, ◌≤◌, ◌<◌}
use native.Mathlib.Omega.{arith}
use native.Mathlib.Numerals.{add-one}
use lib.Dec.{leb, ltb}
use lib.ListN.{length, get_or}
use borrow.Author.Tests.{leb-true, le-leb, lt-leb, eq-eqb, ne_eqb}
use Rattle.general.proofs.Tests.{refuted, same_test}
use Rattle.consensus.proofs.Limits.{limits_pass}
use Rattle.part_format.specs.PartState.{identity_valid, round_valid, fields_valid, state_valid, state_from, state_refusal}
use Rattle.part_format.proofs.Valid.{Identity, identity_says, Within, round_within, fields_say, within_valid}

-- The limits.
module _ (p n t : ℕ) where
  pub identity_fails : (Identity p n t → ⊥) → false ≡ identity_valid p n t
  identity_fails h = refuted (identity_valid p n t) (λ e. h (identity_says p n t e))

  pub identity_last : t < n → n ≤ 64 → 1 ≤ p → leb p n ≡ identity_valid p n t
  unfolding identity_valid
  identity_last a b d = rw (limits_pass n t (record { some_process = omega arith; at_most_64 = b; fewer_crashes = a }), le-leb 1 p d)

-- A round that goes with its mark; the code has t + 1 for `suc t`.
module _ (p t round mark : ℕ) where
  pub over_other : mark ≡ 2 → (round ≡ t + 1 → ⊥) → false ≡ round_valid p t round mark
  unfolding round_valid
  over_other a b = let e : round ≡ suc t → ⊥ = rw add-one at b in simp (eq-eqb, ne_eqb)

  pub over_last : mark ≡ 2 → round ≡ t + 1 → ltb (t + 1) p ≡ round_valid p t round mark
  unfolding round_valid
  over_last a b = let e : round ≡ suc t = rw add-one at b in rw add-one (simp eq-eqb)

  pub round_zero : (mark ≡ 2 → ⊥) → round < 1 → false ≡ round_valid p t round mark
  unfolding round_valid
  round_zero a b = simp (ne_eqb, lt-leb)

  pub round_late : (mark ≡ 2 → ⊥) → 1 ≤ round → t + 1 < round → false ≡ round_valid p t round mark
  unfolding round_valid
  round_late a b d = let e : suc t < round = rw add-one at d in simp (ne_eqb, le-leb, lt-leb)

  pub round_own : (mark ≡ 2 → ⊥) → 1 ≤ round → round ≤ t + 1 → leb round p ≡ round_valid p t round mark
  unfolding round_valid
  round_own a b d = let e : round ≤ suc t = rw add-one at d in simp (ne_eqb, le-leb)

-- The bytes of a state, its value apart.
module _ (p n t round mark : ℕ) where
  pub fields_identity : identity_valid p n t ≡ false → false ≡ fields_valid p n t round mark
  unfolding fields_valid
  fields_identity a = simp a

  pub fields_mark : identity_valid p n t ≡ true → 2 < mark → false ≡ fields_valid p n t round mark
  unfolding fields_valid
  fields_mark a b = simp (a, lt-leb)

  pub fields_round : identity_valid p n t ≡ true → mark ≤ 2 → round_valid p t round mark ≡ fields_valid p n t round mark
  unfolding fields_valid
  fields_round a b = simp (a, le-leb)

-- The bytes of a valid open state, its value apart.
module _ (p n t round : ℕ) where
  open_say : fields_valid p n t round 0 ≡ true → Identity p n t × Within p t round
  open_say e =
      let fields = fields_say p n t round 0 e in
      (fields.identity, round_within p t round 0 (λ z. omega arith) fields.round_valid_lem)

  pub open_fails : (Identity p n t → Within p t round → ⊥) → false ≡ fields_valid p n t round 0
  open_fails h = refuted (fields_valid p n t round 0) (λ e. h (open_say e).0 (open_say e).1)

  pub open_last : 1 ≤ round → round ≤ t + 1 → round ≤ p → p ≤ n → t < n → leb n 64 ≡ fields_valid p n t round 0
  open_last a b d e f =
      same_test (leb n 64) (fields_valid p n t round 0)
      (λ h.
      let small : n ≤ 64 = leb-true n 64 h in
      let identity : Identity p n t = record { process = omega arith; within = e; processes = small; resilience = f } in
      within_valid identity (omega arith) (record { first = a; last = omega arith; own = d }))
      (λ h. le-leb n 64 (open_say h).0.processes)

-- The refusal that speaking and closing share.
module _ (b : List ℕ) where
  pub state_length : (length b ≡ 9 → ⊥) → 10 ≡ state_refusal b
  unfolding state_refusal
  state_length a = simp ne_eqb

  -- Where the mark is open, what the test of an open state comes to.
  pub open_marked : get_or b 4 0 ≡ 0 → (x : Bool) → x ≡ fields_valid (get_or b 0 0) (get_or b 1 0) (get_or b 2 0) (get_or b 3 0) 0 → state_valid (state_from b) ≡ x
  unfolding state_valid state_from
  open_marked h x e = rw (h, e)

  module _ (nine : length b ≡ 9) where
    pub state_invalid : state_valid (state_from b) ≡ false → 10 ≡ state_refusal b
    unfolding state_refusal
    state_invalid a = simp (eq-eqb, a)

    module _ (valid : state_valid (state_from b) ≡ true) where
      pub state_ended : (get_or b 4 0 ≡ 0 → ⊥) → 11 ≡ state_refusal b
      unfolding state_refusal state_from
      state_ended a = simp (eq-eqb, valid, ne_eqb)

      pub state_open : get_or b 4 0 ≡ 0 → 0 ≡ state_refusal b
      unfolding state_refusal state_from
      state_open a = simp (eq-eqb, valid)
