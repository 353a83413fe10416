-- The members of a set all stand above p and up to n just if no bit below bit p is 1 and none from bit n on. Assumes nothing.
use mathlib.Core.Path.{◌≡◌, refl, sym, ◌∙◌}
use mathlib.Core.Bool.{true, false}
use Prim.Native.Nat.{ℕ, zero, suc, ◌+◌, ◌-◌, ◌%◌, ◌^◌, ◌≤◌, ◌<◌}
use native.Mathlib.Nat.{lt_of_lt_of_le, pow-suc, mod-lt}
use native.Mathlib.Omega.{arith}
use lib.Pow.{pow_pos, pow_mono}
use Rattle.general.specs.Bits.{member, set_of}
use Rattle.general.proofs.Tests.{true_false, by_order, refuted}
use Rattle.general.proofs.Bits.{member_above}
use Rattle.general.proofs.Sets.{member_beyond, member_low, is_set, set_empty}

lt_pow : (k : ℕ) → k < 2 ^ k
lt_pow zero = omega arith
lt_pow (suc k) = omega (arith, lt_pow k, pow-suc 2 k, pow_pos k)

pub between_members : (p n set : ℕ) → set % 2 ^ p ≡ 0 → set < 2 ^ n → (q : ℕ) → 1 ≤ q → member q set ≡ true → (p < q) × (q ≤ n)
between_members p n set above below q first in-set = (
  by_order q p (λ low. absurd (true_false (sym in-set ∙ member_above p set above q first low))) (λ high. high),
  by_order q n (λ low. low)
      (λ high.
      let less : n ≤ q - 1 = omega arith in
      absurd (true_false (sym in-set ∙ member_beyond q set (lt_of_lt_of_le below (pow_mono less))))),
)

module _ (p n set : ℕ) (between : (q : ℕ) → 1 ≤ q → member q set ≡ true → (p < q) × (q ≤ n)) where
  -- Those up to p, and those past n, are no members.
  low_none : (q : ℕ) → 1 ≤ q → q ≤ p → member q set ≡ false
  low_none q first low = sym (refuted (member q set) (λ in-set. let above = between q first in-set in let z : ⊥ = omega (arith, above.0, low) in z))

  high_none : (q : ℕ) → 1 ≤ q → n < q → member q set ≡ false
  high_none q first high = sym (refuted (member q set) (λ in-set. let below = between q first in-set in let z : ⊥ = omega (arith, below.1, high) in z))

  none_below : set % 2 ^ p ≡ 0
  none_below =
      is_set p (set % 2 ^ p) (λ q. false) (mod-lt set (pow_pos p)) (λ q first low. member_low p q set first low ∙ low_none q first low)
      ∙ sym (set_empty p (λ q. false) (λ q first low. refl))

  whole : set < 2 ^ (n + set)
  whole = let less : set ≤ n + set = omega arith in lt_of_lt_of_le (lt_pow set) (pow_mono less)

  low_part : set % 2 ^ n < 2 ^ (n + set)
  low_part = let less : n ≤ n + set = omega arith in lt_of_lt_of_le (mod-lt set (pow_pos n)) (pow_mono less)

  same_members : (q : ℕ) → 1 ≤ q → member q (set % 2 ^ n) ≡ member q set
  same_members q first =
      by_order q n (λ low. member_low n q set first low)
      (λ high.
      let less : n ≤ q - 1 = omega arith in
      member_beyond q (set % 2 ^ n) (lt_of_lt_of_le (mod-lt set (pow_pos n)) (pow_mono less)) ∙ sym (high_none q first high))

  none_past : set < 2 ^ n
  none_past =
      let own : set ≡ set_of (n + set) (λ q. member q set) = is_set (n + set) set (λ q. member q set) whole (λ q first last. refl) in
      let part : set % 2 ^ n ≡ set_of (n + set) (λ q. member q set) =
      is_set (n + set) (set % 2 ^ n) (λ q. member q set) low_part (λ q first last. same_members q first)
      in
      let same : set ≡ set % 2 ^ n = own ∙ sym part in
      omega (arith, same, mod-lt set (pow_pos n))

pub members_between : (p n set : ℕ) → ((q : ℕ) → 1 ≤ q → member q set ≡ true → (p < q) × (q ≤ n)) → (set % 2 ^ p ≡ 0) × (set < 2 ^ n)
members_between p n set between = (none_below p n set between, none_past p n set between)
