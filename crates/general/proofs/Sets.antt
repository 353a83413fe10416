-- Sets of processes by their members: of two sets taken together digit by digit, of the set of those that pass a test, which a set is just if it has the
-- same members, and of the sets that masks make; the size of a set of n as a count. Assumes nothing.
use mathlib.Core.List.{List}
use mathlib.Core.Path.{◌≡◌, refl, sym, ap, ap₂, ◌∙◌}
use mathlib.Core.Bool.{Bool, true, false, cond, not, ◌&&◌, ◌||◌}
use Prim.Native.Nat.{ℕ, zero, suc, ◌+◌, ◌-◌, ◌*◌, ◌/◌, ◌%◌, ◌^◌, ◌≤◌, ◌<◌, min, max}
use native.Mathlib.Nat.{pow-suc, mod-lt, div-eq_of_lt, lt_of_lt_of_le}
use native.Mathlib.Numerals.{one-add}
use native.Mathlib.Omega.{arith}
use lib.Bits.{bit_and, bit_or, bit_xor, differ, and_step, or_step, xor_step, and_shr, or_shr, xor_shr, xor_lt}
use lib.Dec.{eqb, ltb}
use lib.ListN.{length}
use lib.Pow.{split, high, low, field, mod-mod-pow, shr_lt, pow_pos, pow_mono, ones_lt}
use borrow.Author.Tests.{eqb-true, eqb-false, eq-eqb, ne_eqb, lt-ltb, le-ltb}
use Rattle.general.specs.Bits.{member, ones64, set_of}
use Rattle.general.specs.Indexed.{count_from}
use Rattle.general.proofs.Tests.{by_order}
use Rattle.general.proofs.Bits.{digit_member, size_among}
use Rattle.general.proofs.Indexed.{count_same}

-- What holds of the digits 0 and 1 holds of the lowest digit of a number.
by_digit : (P : ℕ → Type 0) → P 0 → P 1 → (a : ℕ) → P (a % 2)
by_digit P none one a = pick (a % 2) (mod-lt a (omega arith))
  where
    pick : (x : ℕ) → x < 2 → P x
    pick zero h = none
    pick (suc zero) h = one
    pick (suc (suc x)) h = absurd (let z : ⊥ = omega arith in z)

-- The members of two sets taken together by an operation that goes digit by digit, where `test` tells of two memberships what `on` makes of two digits.
module _ (op on : ℕ → ℕ → ℕ) (test : Bool → Bool → Bool) (step : (a b : ℕ) → op a b ≡ op (a / 2) (b / 2) * 2 + on (a % 2) (b % 2))
    (shift : (a b k : ℕ) → op a b / 2 ^ k ≡ op (a / 2 ^ k) (b / 2 ^ k)) (neither : on 0 0 ≡ cond (test false false) 1 0)
    (second : on 0 1 ≡ cond (test false true) 1 0) (first : on 1 0 ≡ cond (test true false) 1 0) (both : on 1 1 ≡ cond (test true true) 1 0) where
  on_digits : (a b : ℕ) → on (a % 2) (b % 2) ≡ cond (test (eqb (a % 2) 1) (eqb (b % 2) 1)) 1 0
  on_digits a b =
      by_digit (λ (x : ℕ). on x (b % 2) ≡ cond (test (eqb x 1) (eqb (b % 2) 1)) 1 0)
      (by_digit (λ (y : ℕ). on 0 y ≡ cond (test false (eqb y 1)) 1 0) neither second b)
      (by_digit (λ (y : ℕ). on 1 y ≡ cond (test true (eqb y 1)) 1 0) first both b) a

  lowest : (a b : ℕ) → eqb (op a b % 2) 1 ≡ test (eqb (a % 2) 1) (eqb (b % 2) 1)
  lowest a b = by_test (test (eqb (a % 2) 1) (eqb (b % 2) 1)) (op (a / 2) (b / 2)) (step a b ∙ ap (λ (d : ℕ). op (a / 2) (b / 2) * 2 + d) (on_digits a b))
    where
      by_test : (t : Bool) (rest : ℕ) → op a b ≡ rest * 2 + cond t 1 0 → eqb (op a b % 2) 1 ≡ t
      by_test true rest e = eq-eqb (op a b % 2) 1 (omega arith)
      by_test false rest e = ne_eqb (op a b % 2) 1 (λ one. omega arith)

  member_of : (p a b : ℕ) → member p (op a b) ≡ test (member p a) (member p b)
  unfolding member
  member_of p a b = rw (shift a b (p - 1)) (lowest (a / 2 ^ (p - 1)) (b / 2 ^ (p - 1)))

pub member_and : (p a b : ℕ) → member p (bit_and a b) ≡ (member p a && member p b)
member_and = member_of bit_and min (λ s t. s && t) and_step and_shr refl refl refl refl

pub member_or : (p a b : ℕ) → member p (bit_or a b) ≡ (member p a || member p b)
member_or = member_of bit_or max (λ s t. s || t) or_step or_shr refl refl refl refl

pub member_xor : (p a b : ℕ) → member p (bit_xor a b) ≡ cond (member p a) (not (member p b)) (member p b)
member_xor = member_of bit_xor differ (λ s t. cond s (not t) t) xor_step xor_shr refl refl refl refl

-- A set below 2 ^ (p - 1) does not have process p; the empty set has none.
pub member_beyond : (p set : ℕ) → set < 2 ^ (p - 1) → member p set ≡ false
unfolding member
member_beyond p set h = rw (div-eq_of_lt h)

pub member_none : (p : ℕ) → member p 0 ≡ false
member_none p = member_beyond p 0 (pow_pos (p - 1))

-- Of process p the n lowest digits tell, if p ≤ n.
pub member_low : (n p set : ℕ) → 1 ≤ p → p ≤ n → member p (set % 2 ^ n) ≡ member p set
unfolding member
member_low n p set h g =
    let rest : n - p + (1 + (p - 1)) ≡ n = omega arith in
    let same : set % 2 ^ n % 2 ^ (1 + (p - 1)) ≡ set % 2 ^ (1 + (p - 1)) =
    ap (λ (k : ℕ). set % 2 ^ k % 2 ^ (1 + (p - 1))) (sym rest) ∙ mod-mod-pow set (n - p) (1 + (p - 1))
    in
    let digit : set % 2 ^ n / 2 ^ (p - 1) % 2 ≡ set / 2 ^ (p - 1) % 2 =
    sym (field (set % 2 ^ n) 1 (p - 1)) ∙ ap (λ (k : ℕ). k / 2 ^ (p - 1)) same ∙ field set 1 (p - 1)
    in
    ap (λ (k : ℕ). eqb k 1) digit

-- Of process n + 1 the digit above them.
member_top : (n set : ℕ) → set < 2 ^ n → (b : Bool) → member (suc n) (cond b 1 0 * 2 ^ n + set) ≡ b
unfolding member
member_top n set h b =
    let place : suc n - 1 ≡ n = omega arith in
    rw (place, high (cond b 1 0) n h) (by_test b)
  where
    by_test : (t : Bool) → eqb (cond t 1 0 % 2) 1 ≡ t
    by_test true = refl
    by_test false = refl

-- The set of those that pass a test: it is one of n, and its members are they.
pub set_within : (n : ℕ) (test : ℕ → Bool) → set_of n test < 2 ^ n
unfolding set_of
set_within zero test = omega arith
set_within (suc n) test = omega (arith, set_within n test, pow-suc 2 n, top (test (suc n)))
  where
    top : (b : Bool) → cond b 1 0 * 2 ^ n ≤ 2 ^ n
    top true = omega arith
    top false = omega arith

pub member_set : (n : ℕ) (test : ℕ → Bool) (p : ℕ) → 1 ≤ p → p ≤ n → member p (set_of n test) ≡ test p
unfolding set_of
member_set zero test p h g = absurd (let z : ⊥ = omega arith in z)
member_set (suc n) test p h g =
    by_order p n
    (λ below. sym (member_low n p _ h below) ∙ ap (member p) (low (cond (test (suc n)) 1 0) n (set_within n test)) ∙ member_set n test p h below)
    (λ above. let last : p ≡ suc n = omega arith in rw last (member_top n (set_of n test) (set_within n test) (test (suc n))))

-- A set of n whose members are those that pass a test.
pub is_set : (n set : ℕ) (test : ℕ → Bool) → set < 2 ^ n → ((p : ℕ) → 1 ≤ p → p ≤ n → member p set ≡ test p) → set ≡ set_of n test
unfolding set_of
is_set zero set test h same = omega arith
is_set (suc n) set test h same =
    let top : set / 2 ^ n < 2 = shr_lt 1 n (rw one-add h) in
    let own : set / 2 ^ n ≡ set / 2 ^ n % 2 = omega arith in
    let digit : set / 2 ^ n ≡ cond (test (suc n)) 1 0 =
    own ∙ digit_member n set ∙ ap (λ (b : Bool). cond b 1 0) (same (suc n) (omega arith) (omega arith))
    in
    let rest : set % 2 ^ n ≡ set_of n test =
    is_set n (set % 2 ^ n) test (mod-lt set (pow_pos n)) (λ p f g. member_low n p set f g ∙ same p f (omega arith))
    in
    sym (split set n) ∙ ap₂ (λ (a b : ℕ). a * 2 ^ n + b) digit rest

pub set_same : (n : ℕ) (test other : ℕ → Bool) → ((p : ℕ) → 1 ≤ p → p ≤ n → test p ≡ other p) → set_of n test ≡ set_of n other
set_same n test other same = is_set n (set_of n test) other (set_within n test) (λ p h g. member_set n test p h g ∙ same p h g)

pub set_empty : (n : ℕ) (test : ℕ → Bool) → ((p : ℕ) → 1 ≤ p → p ≤ n → test p ≡ false) → 0 ≡ set_of n test
set_empty n test nobody = is_set n 0 test (pow_pos n) (λ p h g. member_none p ∙ sym (nobody p h g))

-- Its size is the number of those that pass.
pub set_size : {A : Type 0} (n : ℕ) (test : ℕ → Bool) (l : List A) → length l ≡ n → n ≤ 64 → ones64 (set_of n test) ≡ count_from (λ p a. test p) 1 l
set_size n test l as_many small =
    size_among (set_of n test) l (rw as_many small) (rw as_many (set_within n test))
    ∙ count_same _ _ 1 l (λ k a h _. member_set n test (1 + k) (omega arith) (omega arith))

-- The masks of the processes 1 to n, of those above p, and of p alone.
all_set : (n : ℕ) → set_of n (λ p. true) ≡ 2 ^ n - 1
unfolding set_of
all_set zero = refl
all_set (suc n) = omega (arith, all_set n, pow-suc 2 n, pow_pos n)

pub first_set : (n : ℕ) → 2 ^ n - 1 ≡ set_of n (λ p. true)
first_set n = sym (all_set n)

pub above_set_lem : (n p : ℕ) → p ≤ n → bit_xor (2 ^ n - 1) (2 ^ p - 1) ≡ set_of n (λ q. ltb p q)
above_set_lem n p h =
    is_set n _ _ (xor_lt n (2 ^ n - 1) (2 ^ p - 1) (ones_lt n) (lt_of_lt_of_le (ones_lt p) (pow_mono h)))
    (λ q f g. member_xor q (2 ^ n - 1) (2 ^ p - 1) ∙ rw (among n q f g) (by_order q p (λ low. rw (among p q f low) (sym (le-ltb p q low))) (beyond q)))
  where
    among : (m q : ℕ) → 1 ≤ q → q ≤ m → member q (2 ^ m - 1) ≡ true
    among m q f g = ap (member q) (first_set m) ∙ member_set m (λ k. true) q f g

    beyond : (q : ℕ) → p < q → not (member q (2 ^ p - 1)) ≡ ltb p q
    beyond q above =
        let below : p ≤ q - 1 = omega arith in
        rw (member_beyond q (2 ^ p - 1) (lt_of_lt_of_le (ones_lt p) (pow_mono below))) (sym (lt-ltb p q above))

pub only_set : (n p : ℕ) → 1 ≤ p → p ≤ n → 2 ^ (p - 1) ≡ set_of n (λ q. eqb q p)
unfolding set_of
only_set zero p h g = absurd (let z : ⊥ = omega arith in z)
only_set (suc n) p h g = by_test (eqb (suc n) p) refl (only_set n p h)
  where
    by_test : (b : Bool) → eqb (suc n) p ≡ b → (p ≤ n → 2 ^ (p - 1) ≡ set_of n (λ q. eqb q p)) → 2 ^ (p - 1) ≡ cond b 1 0 * 2 ^ n + set_of n (λ q. eqb q p)
    by_test true e lower =
        let last : suc n ≡ p = eqb-true _ _ e in
        let place : p - 1 ≡ n = omega arith in
        rw place (omega (arith, set_empty n (λ q. eqb q p) (λ q _ k. ne_eqb q p (λ same. omega arith))))
    by_test false e lower =
        let other : suc n ≡ p → ⊥ = eqb-false _ _ e in
        omega (arith, lower (omega arith))
