-- Laws of `map_from`: its length, and what stands at each place and for each number, used wherever states are read process by process; lists that have the same
-- for each number; and of `count_from`:
-- tests that say the same, that are stricter or that exclude one another, and the elements above a number. Assumes nothing.
use mathlib.Core.List.{List, [], ◌∷◌, ◌++◌}
use mathlib.Core.Path.{◌≡◌, refl, sym, ap, ap₂, subst, ◌∙◌}
use mathlib.Core.Bool.{Bool, true, false, cond}
use Prim.Native.Nat.{ℕ, zero, suc, ◌+◌, ◌-◌, ◌≤◌, ◌<◌}
use native.Mathlib.Omega.{arith}
use borrow.Author.Tests.{ltb-true, ltb-false}
use lib.Dec.{ltb}
use lib.ListN.{length, get_or}
use lib.Seq.{ext_get_or}
use Rattle.general.specs.Indexed.{map_from, count_from}
use Rattle.general.proofs.Tests.{cond_le}

module _ {A B : Type 0} (f : ℕ → A → B) where
  pub length-map_from : (i : ℕ) (l : List A) → length (map_from f i l) ≡ length l
  unfolding map_from
  length-map_from i [] = refl
  length-map_from i (a ∷ l) = ap suc (length-map_from (suc i) l)

  pub get_d_map_from : (i : ℕ) (l : List A) (k : ℕ) (a : A) (b : B) → k < length l → get_or (map_from f i l) k b ≡ f (i + k) (get_or l k a)
  unfolding map_from
  get_d_map_from i [] k a b h = absurd (let z : ⊥ = omega arith in z)
  get_d_map_from i (c ∷ l) zero a b h = ap (λ (j : ℕ). f j c) (omega arith)
  get_d_map_from i (c ∷ l) (suc k) a b h =
      let e : suc i + k ≡ i + suc k = omega arith in
      get_d_map_from (suc i) l k a b (omega arith) ∙ ap (λ (j : ℕ). f j (get_or l k a)) e

  -- Numbered from 1, the element of number p stands at place p - 1.
  pub map_from_at : (l : List A) (p : ℕ) (a : A) (b : B) → 1 ≤ p → p ≤ length l → get_or (map_from f 1 l) (p - 1) b ≡ f p (get_or l (p - 1) a)
  map_from_at l p a b first last =
      let same : 1 + (p - 1) ≡ p = omega arith in
      get_d_map_from 1 l (p - 1) a b (omega arith) ∙ ap (λ (q : ℕ). f q (get_or l (p - 1) a)) same

  -- One element more at the end.
  pub map_from_snoc : (i : ℕ) (l : List A) (a : A) → map_from f i (l ++ (a ∷ [])) ≡ map_from f i l ++ (f (i + length l) a ∷ [])
  unfolding map_from
  map_from_snoc i [] a = ap (λ (j : ℕ). f j a ∷ []) (omega arith)
  map_from_snoc i (b ∷ l) a =
      let e : suc i + length l ≡ i + suc (length l) = omega arith in
      ap (λ (m : List B). f i b ∷ m) (map_from_snoc (suc i) l a ∙ ap (λ (j : ℕ). map_from f (suc i) l ++ (f j a ∷ [])) e)

module _ {A : Type 0} where
  -- Numbered from 1, lists of n elements that have the same for each number are the same.
  pub numbered_ext : (d : A) (n : ℕ) (l m : List A) → length l ≡ n → length m ≡ n
      → ((p : ℕ) → 1 ≤ p → p ≤ n → get_or l (p - 1) d ≡ get_or m (p - 1) d) → l ≡ m
  numbered_ext d n l m hl hm same =
      ext_get_or d l m (hl ∙ sym hm)
      λ i h.
      let place : suc i - 1 ≡ i = omega arith in
      ap (λ (k : ℕ). get_or l k d) (sym place) ∙ same (suc i) (omega arith) (omega arith) ∙ ap (λ (k : ℕ). get_or m k d) place

  -- Tests that say the same of every element, with its number, count the same.
  pub count_same : (f g : ℕ → A → Bool) (i : ℕ) (l : List A)
      → ((k : ℕ) (a : A) → k < length l → get_or l k a ≡ a → f (i + k) a ≡ g (i + k) a) → count_from f i l ≡ count_from g i l
  unfolding count_from
  count_same f g i [] same = refl
  count_same f g i (a ∷ l) same =
      let own : f i a ≡ g i a = subst (λ (j : ℕ). f j a ≡ g j a) (omega arith) (same 0 a (omega arith) refl) in
      let rest : (k : ℕ) (c : A) → k < length l → get_or l k c ≡ c → f (suc i + k) c ≡ g (suc i + k) c =
      λ k c h at. subst (λ (j : ℕ). f j c ≡ g j c) (omega arith) (same (suc k) c (omega arith) at)
      in
      ap₂ (λ (b : Bool) (k : ℕ). cond b 1 0 + k) own (count_same f g (suc i) l rest)

  -- The elements of a list that a function has made are counted as what it makes of those of the list.
  pub count_map_from : {B : Type 0} (test : ℕ → A → Bool) (f : ℕ → B → A) (i : ℕ) (l : List B)
      → count_from test i (map_from f i l) ≡ count_from (λ k b. test k (f k b)) i l
  unfolding count_from map_from
  count_map_from test f i [] = refl
  count_map_from test f i (b ∷ l) = ap (λ (k : ℕ). cond (test i (f i b)) 1 0 + k) (count_map_from test f (suc i) l)

  -- Three tests of which at most one holds of an element, and only if another test does, count together at most what that one counts.
  pub count_apart : (f g h test : ℕ → A → Bool) → ((k : ℕ) (a : A) → cond (f k a) 1 0 + cond (g k a) 1 0 + cond (h k a) 1 0 ≤ cond (test k a) 1 0)
      → (i : ℕ) (l : List A) → count_from f i l + count_from g i l + count_from h i l ≤ count_from test i l
  unfolding count_from
  count_apart f g h test apart i [] = omega arith
  count_apart f g h test apart i (a ∷ l) = omega (arith, apart i a, count_apart f g h test apart (suc i) l)

  -- A test that is the stricter one counts no more.
  pub count_stricter : (f g : ℕ → A → Bool) → ((k : ℕ) (a : A) → cond (f k a) 1 0 ≤ cond (g k a) 1 0) → (i : ℕ) (l : List A)
      → count_from f i l ≤ count_from g i l
  unfolding count_from
  count_stricter f g stricter i [] = omega arith
  count_stricter f g stricter i (a ∷ l) = omega (arith, stricter i a, count_stricter f g stricter (suc i) l)

  -- At most all are counted, and at least one if one passes.
  pub count_le : (test : ℕ → A → Bool) (i : ℕ) (l : List A) → count_from test i l ≤ length l
  unfolding count_from
  count_le test i [] = omega arith
  count_le test i (a ∷ l) = omega (arith, count_le test (suc i) l, cond_le (test i a) 1 0 1 (omega arith) (omega arith))

  pub count_some : (test : ℕ → A → Bool) (d : A) (i : ℕ) (l : List A) (k : ℕ) → k < length l → test (i + k) (get_or l k d) ≡ true → 1 ≤ count_from test i l
  unfolding count_from
  count_some test d i [] k h e = absurd (let z : ⊥ = omega arith in z)
  count_some test d i (a ∷ l) zero h e =
      let own : test i a ≡ true = subst (λ (j : ℕ). test j a ≡ true) (omega arith) e in
      rw own (omega arith)
  count_some test d i (a ∷ l) (suc k) h e =
      omega (arith, count_some test d (suc i) l k (omega arith) (subst (λ (j : ℕ). test j (get_or l k d) ≡ true) (omega arith) e))

  -- Of the numbers i + 1 to i + length l those above m are counted.
  count_beyond : (m i : ℕ) (l : List A) → count_from (λ p a. ltb m p) (suc i) l ≡ i + length l - m - (i - m)
  unfolding count_from
  count_beyond m i [] = omega arith
  count_beyond m i (a ∷ l) = by_test (ltb m (suc i)) refl (count_beyond m (suc i) l)
    where
      by_test : (b : Bool) → ltb m (suc i) ≡ b → count_from (λ p c. ltb m p) (suc (suc i)) l ≡ suc i + length l - m - (suc i - m)
          → cond b 1 0 + count_from (λ p c. ltb m p) (suc (suc i)) l ≡ i + suc (length l) - m - (i - m)
      by_test true e rest = omega (arith, ltb-true m (suc i) e)
      by_test false e rest = omega (arith, ltb-false m (suc i) e)

  -- Numbered from 1, all elements but the first m stand above m.
  pub count_above : (m : ℕ) (l : List A) → count_from (λ p a. ltb m p) 1 l ≡ length l - m
  count_above m l = omega (arith, count_beyond m 0 l)
