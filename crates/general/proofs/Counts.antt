-- Laws of counts by process: one of them raised, in the list and in the sum, and counts that each are raised in one round alone. Assumes nothing.
use mathlib.Core.List.{List, [], ◌∷◌}
use mathlib.Core.Path.{◌≡◌, refl, sym, ap, ap₂, ◌∙◌}
use mathlib.Core.Bool.{Bool, true, false, cond}
use Prim.Native.Nat.{ℕ, zero, suc, ◌+◌, ◌-◌, ◌≤◌, ◌<◌}
use native.Mathlib.Omega.{arith}
use lib.Dec.{eqb, leb}
use lib.ListN.{length, get_or, set, take, replicate, length-set, length-take, length-replicate}
use lib.Seq.{ext_get_or, get_or-set_same, get_or-set_other, get_or-take}
use borrow.Author.Tests.{eq-eqb, ne_eqb, le-leb, lt-leb}
use Rattle.general.specs.Indexed.{map_from}
use Rattle.general.specs.Counts.{count_of, add_at, sum_to}
use Rattle.general.proofs.Tests.{by_equal, by_order}
use Rattle.general.proofs.Lists.{get_d_repeated}
use Rattle.general.proofs.Indexed.{length-map_from, map_from_at}

pub length-added : (p d : ℕ) (l : List ℕ) → length (add_at p d l) ≡ length l
unfolding add_at
length-added p d l = length-map_from _ 1 l

-- The count of process q afterwards.
pub count_added : (p d : ℕ) (l : List ℕ) (q : ℕ) → 1 ≤ q → q ≤ length l → count_of (add_at p d l) q ≡ cond (eqb q p) (count_of l q + d) (count_of l q)
unfolding count_of add_at
count_added p d l q h g = map_from_at _ l q 0 0 h g

module _ (p d : ℕ) (l : List ℕ) where
  own_added : 1 ≤ p → p ≤ length l → count_of (add_at p d l) p ≡ count_of l p + d
  own_added h g = count_added p d l p h g ∙ rw (eq-eqb p p refl)

  other_added : (q : ℕ) → 1 ≤ q → q ≤ length l → (q ≡ p → ⊥) → count_of (add_at p d l) q ≡ count_of l q
  other_added q h g ne = count_added p d l q h g ∙ rw (ne_eqb q p ne)

-- None more leaves the counts as they were.
none_more : (p i : ℕ) (l : List ℕ) → map_from (λ q count. cond (eqb q p) (count + 0) count) i l ≡ l
unfolding map_from
none_more p i [] = refl
none_more p i (k ∷ l) = ap₂ {C = List ℕ} (λ a rest. a ∷ rest) (by_test (eqb i p)) (none_more p (suc i) l)
  where
    by_test : (b : Bool) → cond b (k + 0) k ≡ k
    by_test true = omega arith
    by_test false = refl

pub none_added : (p : ℕ) (l : List ℕ) → add_at p 0 l ≡ l
unfolding add_at
none_added p l = none_more p 1 l

-- Counts that are the same of each process are the same.
pub counts_ext : (l m : List ℕ) → length l ≡ length m → ((p : ℕ) → 1 ≤ p → p ≤ length l → count_of l p ≡ count_of m p) → l ≡ m
unfolding count_of
counts_ext l m e same = ext_get_or 0 l m e (λ k h. let place : suc k - 1 ≡ k = omega arith in rw place at (same (suc k) (omega arith) (omega arith)))

-- Where process p, of the first n, has none yet, a store at its place is what adds to its count.
pub stored_first : (n p : ℕ) (l : List ℕ) → 1 ≤ p → p ≤ n → n ≤ length l → get_or l (p - 1) 0 ≡ 0 → (d : ℕ)
    → take n (set l (p - 1) d) ≡ add_at p d (take n l)
unfolding count_of
stored_first n p l h g fits none d =
    counts_ext _ _ (sizes ∙ sym (length-added p d (take n l) ∙ length-first))
    λ q first last.
    by_equal q p (own q first (omega (arith, sizes))) (other q first (omega (arith, sizes)))
  where
    length-first : length (take n l) ≡ n
    length-first = length-take n l ∙ omega arith

    sizes : length (take n (set l (p - 1) d)) ≡ n
    sizes = length-take n (set l (p - 1) d) ∙ rw length-set (omega arith)

    own : (q : ℕ) → 1 ≤ q → q ≤ n → q ≡ p → count_of (take n (set l (p - 1) d)) q ≡ count_of (add_at p d (take n l)) q
    own q first last e =
        let stored : get_or (take n (set l (p - 1) d)) (p - 1) 0 ≡ d =
        get_or-take n (set l (p - 1) d) (p - 1) 0 (omega arith) ∙ get_or-set_same l (p - 1) d 0 (omega arith) in
        let added = own_added p d (take n l) h (omega (arith, length-first)) in
        let before : get_or (take n l) (p - 1) 0 ≡ 0 = get_or-take n l (p - 1) 0 (omega arith) ∙ none in
        rw e (omega (arith, stored, added, before))

    other : (q : ℕ) → 1 ≤ q → q ≤ n → (q ≡ p → ⊥) → count_of (take n (set l (p - 1) d)) q ≡ count_of (add_at p d (take n l)) q
    other q first last ne =
        get_or-take n (set l (p - 1) d) (q - 1) 0 (omega arith) ∙ get_or-set_other l (p - 1) (q - 1) d 0 (λ same. ne (omega arith))
        ∙ sym (other_added p d (take n l) q first (omega (arith, length-first)) ne ∙ get_or-take n l (q - 1) 0 (omega arith))

-- Sums of the same numbers are the same.
pub sum_same : (f g : ℕ → ℕ) (n : ℕ) → ((p : ℕ) → 1 ≤ p → p ≤ n → f p ≡ g p) → sum_to f n ≡ sum_to g n
unfolding sum_to
sum_same f g zero same = refl
sum_same f g (suc n) same =
    ap₂ (λ (a b : ℕ). a + b) (sum_same f g n (λ p h k. same p h (omega arith))) (same (suc n) (omega arith) (omega arith))

-- A sum of which one number is raised.
sum_raised : (f g : ℕ → ℕ) (p d n : ℕ) → 1 ≤ p → p ≤ n → g p ≡ f p + d → ((q : ℕ) → 1 ≤ q → q ≤ n → (q ≡ p → ⊥) → g q ≡ f q)
    → sum_to g n ≡ sum_to f n + d
unfolding sum_to
sum_raised f g p d zero h k own other = absurd (let z : ⊥ = omega arith in z)
sum_raised f g p d (suc n) h k own other =
    by_equal (suc n) p last (before (λ within. sum_raised f g p d n h within own (λ q first less. other q first (omega arith))))
  where
    last : suc n ≡ p → sum_to g n + g (suc n) ≡ sum_to f n + f (suc n) + d
    last e =
        let rest : sum_to g n ≡ sum_to f n = sum_same g f n (λ q first within. other q first (omega arith) (λ same. omega arith)) in
        let its : g (suc n) ≡ f (suc n) + d = rw e own in
        omega (arith, rest, its)

    before : (p ≤ n → sum_to g n ≡ sum_to f n + d) → (suc n ≡ p → ⊥) → sum_to g n + g (suc n) ≡ sum_to f n + f (suc n) + d
    before rest ne =
        omega (arith, rest (by_order p n (λ z. z) (λ z. absurd (ne (omega arith)))), other (suc n) (omega arith) (omega arith) ne)

pub sum_added : (p d : ℕ) (l : List ℕ) → 1 ≤ p → p ≤ length l → sum_to (count_of (add_at p d l)) (length l) ≡ sum_to (count_of l) (length l) + d
sum_added p d l h g = sum_raised (count_of l) (count_of (add_at p d l)) p d (length l) h g (own_added p d l h g) (other_added p d l)

-- Counts of n processes, 0 at first, of which round r raises that of process r alone.
module _ (n : ℕ) (by : ℕ → List ℕ) (count : ℕ → ℕ) (first : by 0 ≡ replicate n 0) (next : (r : ℕ) → by (suc r) ≡ add_at (suc r) (count (suc r)) (by r)) where
  pub length-by : (r : ℕ) → length (by r) ≡ n
  length-by zero = ap length first ∙ length-replicate n 0
  length-by (suc r) = ap length (next r) ∙ length-added (suc r) _ (by r) ∙ length-by r

  -- After rounds 1 to r process p has what round p counts, if that is one of them.
  pub count_by : (r p : ℕ) → 1 ≤ p → p ≤ n → count_of (by r) p ≡ cond (leb p r) (count p) 0
  unfolding count_of
  count_by zero p h g = rw (first, lt-leb p 0 h) (get_d_repeated n (p - 1) 0)
  count_by (suc r) p h g =
      ap (λ (l : List ℕ). count_of l p) (next r) ∙ by_equal p (suc r) (own (count_by r p h g)) (other (count_by r p h g))
    where
      inside : p ≤ length (by r)
      inside = omega (arith, length-by r)

      own : count_of (by r) p ≡ cond (leb p r) (count p) 0 → p ≡ suc r → count_of (add_at (suc r) (count (suc r)) (by r)) p ≡ cond (leb p (suc r)) (count p) 0
      own before e =
          let none : count_of (by r) p ≡ 0 = before ∙ rw (lt-leb p r (omega arith)) in
          let added : count_of (add_at (suc r) (count (suc r)) (by r)) p ≡ count_of (by r) p + count p =
          rw (← e) (own_added p (count p) (by r) h inside) in
          rw (le-leb p (suc r) (omega arith)) (omega (arith, added, none))

      other : count_of (by r) p ≡ cond (leb p r) (count p) 0 → (p ≡ suc r → ⊥)
          → count_of (add_at (suc r) (count (suc r)) (by r)) p ≡ cond (leb p (suc r)) (count p) 0
      other before ne = other_added (suc r) _ (by r) p h inside ne ∙ before ∙ by_order p r earlier later
        where
          earlier : p ≤ r → cond (leb p r) (count p) 0 ≡ cond (leb p (suc r)) (count p) 0
          earlier k = rw (le-leb p r k, le-leb p (suc r) (omega arith))

          later : r < p → cond (leb p r) (count p) 0 ≡ cond (leb p (suc r)) (count p) 0
          later k = rw (lt-leb p r k, lt-leb p (suc r) (by_order p (suc r) (λ z. absurd (ne (omega arith))) (λ z. z)))

  -- What rounds 1 to r count, one after the other, is the sum over the processes.
  pub sum_by : (total : ℕ → ℕ) → total 0 ≡ 0 → ((r : ℕ) → total (suc r) ≡ total r + count (suc r)) → (r : ℕ) → r ≤ n → sum_to (count_of (by r)) n ≡ total r
  unfolding sum_to count_of
  sum_by total none more zero h = all_none n ∙ sym none
    where
      all_none : (m : ℕ) → sum_to (count_of (by 0)) m ≡ 0
      all_none zero = refl
      all_none (suc m) = omega (arith, all_none m, ap (λ (l : List ℕ). get_or l (suc m - 1) 0) first ∙ get_d_repeated n (suc m - 1) 0)
  sum_by total none more (suc r) h =
      let raised = sum_added (suc r) (count (suc r)) (by r) (omega arith) (omega (arith, length-by r)) in
      ap (λ (l : List ℕ). sum_to (count_of l) n) (next r) ∙ (rw (length-by r) at raised)
      ∙ ap (λ (k : ℕ). k + count (suc r)) (sum_by total none more r (omega arith)) ∙ sym (more r)
