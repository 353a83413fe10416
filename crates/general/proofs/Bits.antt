-- Sets of processes as bits: `ones64` is the library's count of ones, the count of ones as the number of members, and the mask of the processes 1 to p.
-- Assumes nothing.
use mathlib.Core.List.{List, [], ◌∷◌}
use mathlib.Core.Path.{◌≡◌, refl, sym, ap, ap₂, ◌∙◌}
use mathlib.Core.Bool.{Bool, true, false, cond}
use Prim.Native.Nat.{ℕ, zero, suc, ◌+◌, ◌-◌, ◌*◌, ◌/◌, ◌%◌, ◌^◌, ◌≤◌, ◌<◌}
use native.Mathlib.Nat.{lt_of_lt_of_le, pow-suc, mod-eq_of_lt, mod-lt, div-eq_of_lt}
use native.Mathlib.Numerals.{add-one, one-add}
use native.Mathlib.Omega.{arith}
use borrow.Author.Tests.{ltb-true, ltb-false, eqb-true, eqb-false, eq-eqb, ne_eqb}
use lib.Bits.{bit_and, and_mask}
use lib.Dec.{eqb, ltb}
use lib.ListN.{length}
use lib.Count.{ones_in, ones, ones_step}
use lib.Pow.{shr_lt, shr-shr, field, mod-mod-pow, pow_pos, pow_mono}
use Rattle.general.specs.Bits.{member, ones64, members_to}
use Rattle.general.specs.Indexed.{count_from}

-- Of a number of d digits, d digits are enough to look at.
ones_in_lem : (d n : ℕ) → n < 2 ^ d → ones_in d n ≡ ones n
unfolding ones_in ones
ones_in_lem zero n h = let none : n ≡ 0 = omega arith in rw none
ones_in_lem (suc d) n h =
    let half : n / 2 < 2 ^ d = shr_lt d 1 (rw add-one h) in
    ap (λ (k : ℕ). n % 2 + k) (ones_in_lem d (n / 2) half) ∙ sym (ones_step n)

-- The count of 64 digits is the language's.
ones64_ones : (n : ℕ) → n < 2 ^ 64 → ones64 n ≡ ones n
unfolding ones64
ones64_ones n h = ones_in_lem 64 n h

-- One digit more to look at is the one above.
ones_in_suc : (k set : ℕ) → ones_in (suc k) set ≡ set / 2 ^ k % 2 + ones_in k set
unfolding ones_in
ones_in_suc zero set = omega arith
ones_in_suc (suc k) set =
    let deeper = ones_in_suc k (set / 2) in
    let digit : set / 2 / 2 ^ k ≡ set / 2 ^ suc k = shr-shr set 1 k ∙ ap (λ (j : ℕ). set / 2 ^ j) (one-add k) in
    let next : set / 2 ^ suc k % 2 ≡ set / 2 / 2 ^ k % 2 = ap (λ (d : ℕ). d % 2) (sym digit) in
    omega arith

-- Digit k, counted from 0, stands for process k + 1.
pub digit_member : (k set : ℕ) → set / 2 ^ k % 2 ≡ cond (member (suc k) set) 1 0
unfolding member
digit_member k set = rw same (by_test (eqb (set / 2 ^ k % 2) 1) refl)
  where
    same : suc k - 1 ≡ k
    same = omega arith

    by_test : (b : Bool) → eqb (set / 2 ^ k % 2) 1 ≡ b → set / 2 ^ k % 2 ≡ cond b 1 0
    by_test true e = eqb-true _ _ e
    by_test false e = let other : set / 2 ^ k % 2 ≡ 1 → ⊥ = eqb-false _ _ e in omega arith

length_one_more : (b : Bool) (p : ℕ) (l : List ℕ) → cond b 1 0 + length l ≡ length (cond b (p ∷ l) l)
length_one_more true p l = omega arith
length_one_more false p l = omega arith

-- The ones of k digits are the members among the processes 1 to k.
ones_members : (k set : ℕ) → ones_in k set ≡ length (members_to k set)
unfolding ones_in members_to
ones_members zero set = refl
ones_members (suc k) set =
    ones_in_suc k set ∙ ap₂ (λ (a b : ℕ). a + b) (digit_member k set) (ones_members k set)
    ∙ length_one_more (member (suc k) set) (suc k) (members_to k set)

-- So the count of 64 digits is the number of the set's members.
pub ones64_members : (set : ℕ) → ones64 set ≡ length (members_to 64 set)
unfolding ones64
ones64_members set = ones_members 64 set

-- The language's count of a word's ones is the number of the set's members.
pub word_members : (set : ℕ) → set < 2 ^ 64 → ones set ≡ length (members_to 64 set)
word_members set h = sym (ones_in_lem 64 set h) ∙ ones_members 64 set

-- The ones of a set's digits from i on are its members among the elements of a list numbered from i + 1.
ones_among : {A : Type 0} (i set : ℕ) (l : List A) → ones_in (length l) (set / 2 ^ i) ≡ count_from (λ p a. member p set) (suc i) l
unfolding ones_in count_from
ones_among i set [] = refl
ones_among i set (a ∷ l) =
    let next : set / 2 ^ i / 2 ≡ set / 2 ^ suc i = shr-shr set i 1 ∙ ap (λ (j : ℕ). set / 2 ^ j) (add-one i) in
    ap₂ (λ (j k : ℕ). j + k) (digit_member i set) (ap (ones_in (length l)) next ∙ ones_among (suc i) set l)

-- The size of a set of processes among n is the number of its members in a list of n.
pub size_among : {A : Type 0} (set : ℕ) (l : List A) → length l ≤ 64 → set < 2 ^ length l → ones64 set ≡ count_from (λ p a. member p set) 1 l
size_among set l h within =
    let whole : set / 2 ^ 0 ≡ set = omega arith in
    ones64_ones set (lt_of_lt_of_le within (pow_mono h)) ∙ sym (ones_in_lem (length l) set within)
    ∙ ap (ones_in (length l)) (sym whole) ∙ ones_among 0 set l

-- Processes 1 to p are not members of a set of processes above p.
pub member_above : (p set : ℕ) → set % 2 ^ p ≡ 0 → (q : ℕ) → 1 ≤ q → q ≤ p → member q set ≡ false
unfolding member
member_above p set above q h g =
    let upper : p - q + q ≡ p = omega arith in
    let lower : 1 + (q - 1) ≡ q = omega arith in
    let below : set % 2 ^ q ≡ 0 =
    sym (mod-mod-pow set (p - q) q) ∙ ap (λ (k : ℕ). set % 2 ^ k % 2 ^ q) upper ∙ ap (λ (k : ℕ). k % 2 ^ q) above ∙ mod-eq_of_lt (pow_pos q)
    in
    let own : set % 2 ^ (1 + (q - 1)) ≡ 0 = ap (λ (k : ℕ). set % 2 ^ k) lower ∙ below in
    let digit : set / 2 ^ (q - 1) % 2 ≡ 0 = sym (field set 1 (q - 1)) ∙ ap (λ (k : ℕ). k / 2 ^ (q - 1)) own ∙ div-eq_of_lt (pow_pos (q - 1)) in
    rw digit

-- The mask of the processes 1 to p.
module _ (p : ℕ) (positive : 1 ≤ p) (small : p ≤ 64) where
  highest_fits : 2 ^ (p - 1) ≤ 2 ^ 63
  highest_fits = let less : p - 1 ≤ 63 = omega arith in pow_mono less

  double : 2 ^ p ≡ 2 ^ (p - 1) * 2
  double = let e : p ≡ suc (p - 1) = omega arith in ap (λ (k : ℕ). 2 ^ k) e ∙ pow-suc 2 (p - 1)

  -- The mask, made by a shift by p - 1 and one by 1.
  pub first_mask : (1 * 2 ^ (p - 1) % 2 ^ 64 - 1) * 2 ^ 1 % 2 ^ 64 + 1 ≡ 2 ^ p - 1
  first_mask = omega (arith, highest_fits, double, pow_pos (p - 1))

-- A set is its own part below bit n just if it is below 2 ^ n.
pub below_power : (set n : ℕ) (below : Bool) → ltb set (2 ^ n) ≡ below → eqb (set % 2 ^ n) set ≡ below
below_power set n true e = eq-eqb (set % 2 ^ n) set (mod-eq_of_lt (ltb-true set (2 ^ n) e))
below_power set n false e =
    let least : 2 ^ n ≤ set = ltb-false _ _ e in
    let less : set % 2 ^ n < 2 ^ n = mod-lt set (pow_pos n) in
    ne_eqb (set % 2 ^ n) set (λ same. omega arith)

-- What a mask of the first p bits leaves of a set.
pub meets : (p set mask : ℕ) → mask ≡ 2 ^ p - 1 → bit_and set mask ≡ set % 2 ^ p
meets p set mask first-p = ap (bit_and set) first-p ∙ and_mask set p
