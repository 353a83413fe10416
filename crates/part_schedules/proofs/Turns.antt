-- How often a process stands in an order; and parts that are changed in turn, in whatever order: each is changed as often as its process stands in the order.
-- Assumes nothing.
use mathlib.Core.List.{List, [], ◌∷◌}
use mathlib.Core.Path.{◌≡◌, refl, ap, ◌∙◌}
use mathlib.Core.Bool.{Bool, true, false, cond}
use Prim.Native.Nat.{ℕ, zero, suc, ◌≤◌}
use native.Mathlib.Omega.{arith}
use lib.Dec.{eqb}
use lib.ListN.{length}
use borrow.Author.Tests.{eqb-true, eq-eqb, ne_eqb}
use Rattle.general.proofs.Indexed.{length-map_from, map_from_at, numbered_ext}
use Rattle.part_host.specs.Part.{Part, crashed_in, part_of}
use Rattle.part_schedules.specs.Steps.{changed_at}
use Rattle.part_schedules.specs.Schedule.{times_called}

-- How often a process stands in an order that has one process more in front.
pub times_more : (p q : ℕ) (order : List ℕ) → 1 ≤ times_called p order → 1 ≤ times_called p (q ∷ order)
unfolding times_called
times_more p q order h = by_test (eqb p q)
  where
    by_test : (b : Bool) → 1 ≤ cond b (suc (times_called p order)) (times_called p order)
    by_test true = omega arith
    by_test false = h

pub times_first : (p : ℕ) (order : List ℕ) → times_called p (p ∷ order) ≡ suc (times_called p order)
unfolding times_called
times_first p order = rw (eq-eqb p p) refl

pub times_other : (p q : ℕ) (order : List ℕ) → (p ≡ q → ⊥) → times_called p (q ∷ order) ≡ times_called p order
unfolding times_called
times_other p q order other = rw (ne_eqb p q other) refl

-- Lists of parts that are the same at each process are the same.
pub parts_ext : (n : ℕ) (l m : List Part) → length l ≡ n → length m ≡ n
    → ((p : ℕ) → 1 ≤ p → p ≤ n → part_of l p ≡ part_of m p) → l ≡ m
unfolding part_of
parts_ext n l m hl hm same = numbered_ext (crashed_in 0 []) n l m hl hm same

-- A change made so many times.
unfoldable pub repeated : ℕ → (Part → Part) → Part → Part
repeated zero change part = part
repeated (suc k) change part = repeated k change (change part)

-- A part that a change leaves stays however often it is made.
pub repeated_stays : (k : ℕ) (change : Part → Part) (part : Part) → change part ≡ part → repeated k change part ≡ part
unfolding repeated
repeated_stays zero change part e = refl
repeated_stays (suc k) change part e = rw e (repeated_stays k change part e)

pub length-changed : (p : ℕ) (change : Part → Part) (parts : List Part) → length (changed_at p change parts) ≡ length parts
unfolding changed_at
length-changed p change parts = length-map_from _ 1 parts

pub changed_at_lem : (p : ℕ) (change : Part → Part) (parts : List Part) (q : ℕ) → 1 ≤ q → q ≤ length parts
    → part_of (changed_at p change parts) q ≡ cond (eqb q p) (change (part_of parts q)) (part_of parts q)
unfolding changed_at part_of
changed_at_lem p change parts q first last = map_from_at _ parts q _ _ first last

-- A change that leaves the part of its process leaves all.
pub unchanged_at : (p : ℕ) (change : Part → Part) (parts : List Part) → change (part_of parts p) ≡ part_of parts p → changed_at p change parts ≡ parts
unchanged_at p change parts stays =
    parts_ext (length parts) _ _ (length-changed p change parts) refl
    (λ q first last. changed_at_lem p change parts q first last ∙ by_test q (eqb q p) refl)
  where
    by_test : (q : ℕ) (b : Bool) → eqb q p ≡ b → cond b (change (part_of parts q)) (part_of parts q) ≡ part_of parts q
    by_test q true e = rw (eqb-true q p e) stays
    by_test q false e = refl

module _ (change : ℕ → Part → Part) where
  -- The parts of the processes of an order are changed, one after the other.
  unfoldable pub changed_in_turn : List ℕ → List Part → List Part
  changed_in_turn [] parts = parts
  changed_in_turn (p ∷ order) parts = changed_in_turn order (changed_at p (change p) parts)

  pub length_in_turn : (order : List ℕ) (parts : List Part) → length (changed_in_turn order parts) ≡ length parts
  unfolding changed_in_turn
  length_in_turn [] parts = refl
  length_in_turn (p ∷ order) parts = length_in_turn order (changed_at p (change p) parts) ∙ length-changed p (change p) parts

  pub in_turn : (order : List ℕ) (parts : List Part) (q : ℕ) → 1 ≤ q → q ≤ length parts
      → part_of (changed_in_turn order parts) q ≡ repeated (times_called q order) (change q) (part_of parts q)
  unfolding changed_in_turn times_called repeated
  in_turn [] parts q first last = refl
  in_turn (p ∷ order) parts q first last =
      in_turn order (changed_at p (change p) parts) q first (omega (arith, length-changed p (change p) parts))
      ∙ ap (repeated (times_called q order) (change q)) (changed_at_lem p (change p) parts q first last)
      ∙ by_test (eqb q p) refl
    where
      by_test : (b : Bool) → eqb q p ≡ b
          → repeated (times_called q order) (change q) (cond b (change p (part_of parts q)) (part_of parts q))
          ≡ repeated (cond b (suc (times_called q order)) (times_called q order)) (change q) (part_of parts q)
      by_test true e = rw (eqb-true q p e) refl
      by_test false e = refl
