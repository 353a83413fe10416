-- A list changed at the places of a set's members: what stands at each place, and a loop that takes the lowest member first. Assumes nothing.
use mathlib.Core.List.{List}
use mathlib.Core.Path.{◌≡◌, refl, sym, ap, ◌∙◌}
use mathlib.Core.Bool.{cond}
use Prim.Native.Nat.{ℕ, zero, suc, ◌+◌, ◌-◌, ◌*◌, ◌/◌, ◌%◌, ◌^◌, ◌≤◌, ◌<◌}
use native.Mathlib.Nat.{div-eq_of_lt}
use native.Mathlib.Numerals.{add-one, one-add}
use native.Mathlib.Omega.{arith}
use lib.Bits.{bit_and, and_step, and_self}
use lib.Count.{count_trailing_zeros, under}
use lib.Dec.{eqb}
use lib.ListN.{length, get_or, set, length-set}
use lib.Pow.{pow_pos, shr_lt, shr-shr}
use lib.Seq.{get_or-set_same, get_or-set_other, ext_get_or}
use Rattle.general.specs.Bits.{member, filled}
use Rattle.general.proofs.Tests.{by_equal}
use Rattle.general.proofs.Indexed.{length-map_from, get_d_map_from, map_from_at}

pub length-filled : {A : Type 0} (members : ℕ) (x : A) (l : List A) → length (filled members x l) ≡ length l
unfolding filled
length-filled members x l = length-map_from _ 1 l

-- What stands at the place of process p.
pub filled_at : {A : Type 0} (members : ℕ) (x : A) (l : List A) (p : ℕ) (d : A) → 1 ≤ p → p ≤ length l
    → get_or (filled members x l) (p - 1) d ≡ cond (member p members) x (get_or l (p - 1) d)
unfolding filled
filled_at members x l p d h g = map_from_at _ l p d d h g

-- The same by the digit of a place.
filled_digit : {A : Type 0} (members : ℕ) (x : A) (l : List A) (k : ℕ) → k < length l
    → get_or (filled members x l) k x ≡ cond (eqb (members / 2 ^ k % 2) 1) x (get_or l k x)
unfolding filled member
filled_digit members x l k h =
    let place : 1 + k - 1 ≡ k = omega arith in
    get_d_map_from _ 1 l k x x h ∙ ap (λ (j : ℕ). cond (eqb (members / 2 ^ j % 2) 1) x (get_or l k x)) place

-- Digit t is the lowest 1 of n's d digits, and `rest` is n without it.
record Lowest (d n rest t : ℕ) : Type 0 where
  inside : t < d
  own : n / 2 ^ t % 2 ≡ 1
  gone : rest / 2 ^ t % 2 ≡ 0
  others : (k : ℕ) → (k ≡ t → ⊥) → rest / 2 ^ k % 2 ≡ n / 2 ^ k % 2

-- A digit above the lowest is one of the half.
digit_up : (k n : ℕ) → n / 2 ^ suc k % 2 ≡ n / 2 / 2 ^ k % 2
digit_up k n = ap (λ (m : ℕ). m % 2) (sym (shr-shr n 1 k ∙ ap (λ (j : ℕ). n / 2 ^ j) (one-add k)))

digit_doubled : (k m : ℕ) → m * 2 / 2 ^ suc k % 2 ≡ m / 2 ^ k % 2
digit_doubled k m = let half : m * 2 / 2 ≡ m = omega arith in digit_up k (m * 2) ∙ ap (λ (j : ℕ). j / 2 ^ k % 2) half

lowest_first : (d n : ℕ) → n % 2 ≡ 1 → Lowest (suc d) n (n / 2 * 2) 0
lowest_first d n e = record { inside = omega arith; own = omega arith; gone = omega arith; others = others }
  where
    others : (k : ℕ) → (k ≡ 0 → ⊥) → n / 2 * 2 / 2 ^ k % 2 ≡ n / 2 ^ k % 2
    others zero ne = absurd (ne (omega arith))
    others (suc k) ne = digit_doubled k (n / 2) ∙ sym (digit_up k n)

lowest_later : (d n rest t : ℕ) → n % 2 ≡ 0 → Lowest d (n / 2) rest t → Lowest (suc d) n (rest * 2) (suc t)
lowest_later d n rest t e half =
    record { inside = omega arith; own = digit_up t n ∙ half.own; gone = digit_doubled t rest ∙ half.gone; others = others }
  where
    others : (k : ℕ) → (k ≡ suc t → ⊥) → rest * 2 / 2 ^ k % 2 ≡ n / 2 ^ k % 2
    others zero ne = omega arith
    others (suc k) ne = digit_doubled k rest ∙ half.others k (λ same. ne (ap suc same)) ∙ sym (digit_up k n)

-- n and n - 1 have in common all of n but the lowest 1.
rest_odd : (n : ℕ) → n % 2 ≡ 1 → bit_and n (n - 1) ≡ n / 2 * 2
rest_odd n e =
    let half : (n - 1) / 2 ≡ n / 2 = omega arith in
    let digit : (n - 1) % 2 ≡ 0 = omega arith in
    and_step n (n - 1) ∙ rw (half, digit, e, and_self) (omega arith)

rest_even : (n : ℕ) → 0 < n → n % 2 ≡ 0 → bit_and n (n - 1) ≡ bit_and (n / 2) (n / 2 - 1) * 2
rest_even n h e =
    let half : (n - 1) / 2 ≡ n / 2 - 1 = omega arith in
    let digit : (n - 1) % 2 ≡ 1 = omega arith in
    and_step n (n - 1) ∙ rw (half, digit, e) (omega arith)

lowest : (d n : ℕ) → 0 < n → n < 2 ^ d → Lowest d n (bit_and n (n - 1)) (count_trailing_zeros d n)
unfolding count_trailing_zeros
lowest zero n h g = absurd (let z : ⊥ = omega arith in z)
lowest (suc d) n h g = by_lowest (n % 2) refl (omega arith) (λ even. lowest d (n / 2) (omega arith) (shr_lt d 1 (rw add-one g)))
  where
    by_lowest : (x : ℕ) → n % 2 ≡ x → x < 2 → (n % 2 ≡ 0 → Lowest d (n / 2) (bit_and (n / 2) (n / 2 - 1)) (count_trailing_zeros d (n / 2)))
        → Lowest (suc d) n (bit_and n (n - 1)) (under x (count_trailing_zeros d (n / 2)))
    by_lowest zero e less half = rw (rest_even n h e) (lowest_later d n _ _ e (half e))
    by_lowest (suc zero) e less half = rw (rest_odd n e) (lowest_first d n e)
    by_lowest (suc (suc x)) e less half = absurd (let z : ⊥ = omega arith in z)

-- x goes to the place of the lowest member, which leaves the set.
module _ {A : Type 0} (n rest t : ℕ) (x : A) (l : List A) where
  abbrev Same : ℕ → Type 0
  Same k = cond (eqb (rest / 2 ^ k % 2) 1) x (get_or (set l t x) k x) ≡ cond (eqb (n / 2 ^ k % 2) 1) x (get_or l k x)

  fill_lowest : (d : ℕ) → Lowest d n rest t → filled rest x (set l t x) ≡ filled n x l
  fill_lowest d found =
      ext_get_or x _ _ (length-filled rest x (set l t x) ∙ length-set l t x ∙ sym (length-filled n x l))
      λ k g.
      let more : k < length (set l t x) = omega (arith, length-filled rest x (set l t x)) in
      let within : k < length l = omega (arith, length-set l t x) in
      filled_digit rest x (set l t x) k more ∙ by_equal k t (at_lowest k within) (elsewhere k) ∙ sym (filled_digit n x l k within)
    where
      at_lowest : (k : ℕ) → k < length l → k ≡ t → Same k
      at_lowest k h e = let inside : t < length l = omega arith in rw (e, found.gone, found.own, get_or-set_same l t x x inside)

      elsewhere : (k : ℕ) → (k ≡ t → ⊥) → Same k
      elsewhere k ne = rw (found.others k ne, get_or-set_other l t k x x ne)

module _ {A : Type 0} (x : A) (now : List A) where
  -- One turn of the loop: the lowest member's place filled, the others are left.
  pub one_filled : (left : ℕ) → 0 < left → left < 2 ^ 64
      → filled (bit_and left (left - 1)) x (set now (count_trailing_zeros 64 left) x) ≡ filled left x now
  one_filled left some word = fill_lowest left (bit_and left (left - 1)) (count_trailing_zeros 64 left) x now 64 (lowest 64 left some word)

  -- When no member is left, the list is as it is.
  pub none_filled : filled 0 x now ≡ now
  none_filled = ext_get_or x _ _ (length-filled 0 x now) λ k h. filled_digit 0 x now k (omega (arith, length-filled 0 x now)) ∙ rw (div-eq_of_lt (pow_pos k))
