-- The tests of a line, and document 01's words for them. Assumes nothing.
use mathlib.Core.List.{List}
use mathlib.Core.Path.{◌≡◌, refl, sym, ◌∙◌}
use mathlib.Core.Bool.{Bool, true, false, cond, ◌&&◌}
use Prim.Native.Nat.{ℕ, suc, ◌+◌, ◌-◌, ◌%◌, ◌^◌, ◌≤◌, ◌<◌}
use native.Mathlib.Omega.{arith}
use borrow.Author.Tests.{eqb-true, eqb-false, leb-true, ltb-true, eq-eqb, le-leb, lt-ltb}
use lib.Dec.{eqb, ltb, leb}
use lib.ListN.{length, get_or}
use Rattle.general.proofs.Tests.{true_false, both}
use Rattle.general.proofs.Between.{between_members, members_between}
use Rattle.ticket_format.specs.FailureLine.{places_crash, all_between, suits_step}
use Rattle.ticket_format.specs.Says.{is_kind, failure_line}
use Rattle.ticket_laws.specs.FirstWrong.{kind_in, station_in, round_in, step_in, set_in, count_in, n_in, t_in, last_of, InPlace, Suited}
use Rattle.ticket_format.proofs.CrashPlaced.{crash_placed}

-- Kind and length.
module _ (kind size : ℕ) (b : List ℕ) where
  pub is_kind_lem : is_kind kind size b ≡ true → (kind_in b ≡ kind) × (length b ≡ size)
  unfolding is_kind kind_in
  is_kind_lem e = let parts = both (eqb (get_or b 0 0) kind) (eqb (length b) size) e in (eqb-true _ _ parts.0, eqb-true _ _ parts.1)

  kind_passes : kind_in b ≡ kind → length b ≡ size → is_kind kind size b ≡ true
  unfolding is_kind kind_in
  kind_passes k l = rw (eq-eqb (get_or b 0 0) kind k, eq-eqb (length b) size l)

  pub no_kind : is_kind kind size b ≡ false → kind_in b ≡ kind → length b ≡ size → ⊥
  no_kind e k l = true_false (sym (kind_passes k l) ∙ e)

-- The last line before is a failure line of process `last`, or none, and `last` is 0.
pub data LastLine (before : List (List ℕ)) (last : ℕ) : Type 0 where
  no_failure : kind_in (last_of before) ≡ 2 → last ≡ 0 → LastLine before last
  failure : kind_in (last_of before) ≡ 3 → station_in (last_of before) ≡ last → LastLine before last

pub not_over : (before : List (List ℕ)) (last : ℕ) → LastLine before last → kind_in (last_of before) ≡ 4 → ⊥
not_over before last (no_failure k e) four = omega (arith, k, four)
not_over before last (failure k e) four = omega (arith, k, four)

rises : (before : List (List ℕ)) (last p : ℕ) → LastLine before last → last < p → kind_in (last_of before) ≡ 3 → station_in (last_of before) < p
rises before last p (no_failure k e) less three = absurd (let z : ⊥ = omega (arith, k, three) in z)
rises before last p (failure k e) less three = omega (arith, e, less)

rises_past : (before : List (List ℕ)) (last p : ℕ) → LastLine before last → 1 ≤ p → (kind_in (last_of before) ≡ 3 → station_in (last_of before) < p) → last < p
rises_past before last p (no_failure k e) first rising = omega (arith, e, first)
rises_past before last p (failure k e) first rising = omega (arith, e, rising k)

-- Refusal 7.
module _ (before : List (List ℕ)) (b : List ℕ) (n t last : ℕ) (n_said : n_in before ≡ n) (t_said : t_in before ≡ t) (behind : LastLine before last) where
  pub in_place : places_crash n t last (failure_line b) ≡ true → InPlace before b
  unfolding failure_line station_in round_in step_in
  in_place e =
      let placed = crash_placed n t last (failure_line b) e in
      record {
        from_station1 = placed.process_from_1;
        to_station_n = rw n_said placed.process_to_n;
        rising = rises before last _ behind placed.process_rises;
        from_round1 = placed.round_from_1;
        to_last_round = rw t_said placed.round_to_last;
        to_step2 = placed.step_to_2;
      }

  place_passes : InPlace before b → places_crash n t last (failure_line b) ≡ true
  unfolding places_crash failure_line station_in round_in step_in
  place_passes h =
      let inside : get_or b 1 0 ≤ n = rw n_said at h.to_station_n in
      let in_time : get_or b 2 0 ≤ suc t = rw t_said at h.to_last_round in
      rw (
        le-leb 1 (get_or b 1 0) h.from_station1,
        le-leb (get_or b 1 0) n inside,
        lt-ltb last (get_or b 1 0) (rises_past before last _ behind h.from_station1 h.rising),
        le-leb 1 (get_or b 2 0) h.from_round1,
        le-leb (get_or b 2 0) (suc t) in_time,
        le-leb (get_or b 3 0) 2 h.to_step2,
      )

  pub not_in_place_lem : places_crash n t last (failure_line b) ≡ false → InPlace before b → ⊥
  not_in_place_lem e h = true_false (sym (place_passes h) ∙ e)

-- Refusal 8, of a line that refusal 7 lets pass.
module _ (n : ℕ) (b : List ℕ) (small : step_in b ≤ 2) (inside : station_in b ≤ n) where
  -- As the two tests of the step turn out.
  suited_by : (at_zero at_one : Bool) → eqb (step_in b) 0 ≡ at_zero → eqb (step_in b) 1 ≡ at_one
      → cond at_zero (eqb (set_in b) 0 && eqb (count_in b) 0)
      (eqb (round_in b) (station_in b)
      && cond at_one (all_between (station_in b) n (set_in b) && eqb (count_in b) 0) (eqb (set_in b) 0 && leb (count_in b) (n - station_in b))) ≡ true → Suited n b
  unfolding all_between
  suited_by true at_one z o e =
      let zero_step : step_in b ≡ 0 = eqb-true _ _ z in
      let zeros = both (eqb (set_in b) 0) (eqb (count_in b) 0) e in
      record {
        own_round = λ h. absurd (let f : ⊥ = omega (arith, h, zero_step) in f);
        no_set = λ h. eqb-true _ _ zeros.0;
        set = λ h q first in-set. absurd (let f : ⊥ = omega (arith, h, zero_step) in f);
        no_count = λ h. eqb-true _ _ zeros.1;
        count = λ h. absurd (let f : ⊥ = omega (arith, h, zero_step) in f);
      }
  suited_by false true z o e =
      let one_step : step_in b ≡ 1 = eqb-true _ _ o in
      let outer = both (eqb (round_in b) (station_in b)) _ e in
      let inner = both (eqb (set_in b % 2 ^ station_in b) 0 && ltb (set_in b) (2 ^ n)) _ outer.1 in
      let bits = both (eqb (set_in b % 2 ^ station_in b) 0) _ inner.0 in
      record {
        own_round = λ h. eqb-true _ _ outer.0;
        no_set = λ h. absurd (h one_step);
        set = λ h q first in-set. between_members (station_in b) n (set_in b) (eqb-true _ _ bits.0) (ltb-true _ _ bits.1) q first in-set;
        no_count = λ h. eqb-true _ _ inner.1;
        count = λ h. absurd (let f : ⊥ = omega (arith, h, one_step) in f);
      }
  suited_by false false z o e =
      let not_zero_lem : step_in b ≡ 0 → ⊥ = eqb-false _ _ z in
      let not_one : step_in b ≡ 1 → ⊥ = eqb-false _ _ o in
      let outer = both (eqb (round_in b) (station_in b)) _ e in
      let inner = both (eqb (set_in b) 0) (leb (count_in b) (n - station_in b)) outer.1 in
      let few : count_in b ≤ n - station_in b = leb-true _ _ inner.1 in
      record {
        own_round = λ h. eqb-true _ _ outer.0;
        no_set = λ h. eqb-true _ _ inner.0;
        set = λ h q first in-set. absurd (not_one h);
        no_count = λ h. absurd (let f : ⊥ = omega (arith, small, not_zero_lem, not_one, h) in f);
        count = λ h. omega (arith, few, inside);
      }

  pub suited : suits_step n (failure_line b) ≡ true → Suited n b
  unfolding suits_step failure_line station_in round_in step_in set_in count_in
  suited e = suited_by (eqb (step_in b) 0) (eqb (step_in b) 1) refl refl e

  passes_by : Suited n b → (at_zero at_one : Bool) → eqb (step_in b) 0 ≡ at_zero → eqb (step_in b) 1 ≡ at_one
      → cond at_zero (eqb (set_in b) 0 && eqb (count_in b) 0)
      (eqb (round_in b) (station_in b)
      && cond at_one (all_between (station_in b) n (set_in b) && eqb (count_in b) 0) (eqb (set_in b) 0 && leb (count_in b) (n - station_in b))) ≡ true
  unfolding all_between
  passes_by h true at_one z o =
      let zero_step : step_in b ≡ 0 = eqb-true _ _ z in
      rw (eq-eqb _ _ (h.no_set (λ one. omega (arith, one, zero_step))), eq-eqb _ _ (h.no_count (λ two. omega (arith, two, zero_step))))
  passes_by h false true z o =
      let one_step : step_in b ≡ 1 = eqb-true _ _ o in
      let bits = members_between (station_in b) n (set_in b) (h.set one_step) in
      rw (
        eq-eqb (round_in b) (station_in b) (h.own_round (omega (arith, one_step))),
        eq-eqb (set_in b % 2 ^ station_in b) 0 bits.0,
        lt-ltb (set_in b) (2 ^ n) bits.1,
        eq-eqb (count_in b) 0 (h.no_count (λ two. omega (arith, two, one_step))),
      )
  passes_by h false false z o =
      let not_zero_lem : step_in b ≡ 0 → ⊥ = eqb-false _ _ z in
      let not_one : step_in b ≡ 1 → ⊥ = eqb-false _ _ o in
      let two_step : step_in b ≡ 2 = omega (arith, small, not_zero_lem, not_one) in
      let few : station_in b + count_in b ≤ n = h.count two_step in
      let fits : count_in b ≤ n - station_in b = omega (arith, few) in
      rw (
        eq-eqb (round_in b) (station_in b) (h.own_round (omega (arith, two_step))),
        eq-eqb (set_in b) 0 (h.no_set not_one),
        le-leb (count_in b) (n - station_in b) fits,
      )

  suit_passes : Suited n b → suits_step n (failure_line b) ≡ true
  unfolding suits_step failure_line station_in round_in step_in set_in count_in
  suit_passes h = passes_by h (eqb (step_in b) 0) (eqb (step_in b) 1) refl refl

  pub not_suited_lem : suits_step n (failure_line b) ≡ false → Suited n b → ⊥
  not_suited_lem e h = true_false (sym (suit_passes h) ∙ e)
