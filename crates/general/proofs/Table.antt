-- What is shown of a whole table by one computed test holds of each entry. Assumes nothing.
use mathlib.Core.List.{List, [], ◌∷◌, ◌++◌}
use mathlib.Core.Path.{◌≡◌, refl, sym, ap, ap₂, ◌∙◌}
use Prim.Native.Nat.{ℕ, zero, suc, ◌<◌}
use native.Mathlib.Omega.{arith}
use native.Mathlib.Nat.{zero-add}
use lib.ListN.{length, get_or, set, drop, replicate, length-replicate}
use Rattle.general.specs.Table.{tabulate}
use Rattle.general.specs.Indexed.{map_from}
use Rattle.general.proofs.Overwrite.{set_seam}
use Rattle.general.proofs.Indexed.{length-map_from, get_d_map_from, map_from_snoc}

-- A table has as many entries as were asked for.
pub length-tabulate : {A : Type 0} (f : ℕ → A) (count : ℕ) → length (tabulate f count) ≡ count
unfolding tabulate
length-tabulate f count = length-map_from _ 0 (replicate count 0) ∙ length-replicate {A = ℕ} count 0

-- One entry more.
repeated_more : (count a : ℕ) → replicate (suc count) a ≡ replicate count a ++ (a ∷ [])
repeated_more zero a = refl
repeated_more (suc count) a = ap (λ (l : List ℕ). a ∷ l) (repeated_more count a)

pub tabulate_more : {A : Type 0} (f : ℕ → A) (count : ℕ) → tabulate f (suc count) ≡ tabulate f count ++ (f count ∷ [])
unfolding tabulate
tabulate_more f count =
    ap (map_from (λ (k filler : ℕ). f k) 0) (repeated_more count 0)
    ∙ map_from_snoc (λ (k filler : ℕ). f k) 0 (replicate count 0) 0
    ∙ ap (λ (k : ℕ). map_from (λ (k filler : ℕ). f k) 0 (replicate count 0) ++ (f k ∷ [])) (zero-add _ ∙ length-replicate {A = ℕ} count 0)

-- Functions that are the same below `count` have one table.
pub tabulate_same : {A : Type 0} (f g : ℕ → A) (count : ℕ) → ((k : ℕ) → k < count → f k ≡ g k) → tabulate f count ≡ tabulate g count
unfolding tabulate map_from
tabulate_same f g zero same = refl
tabulate_same {A} f g (suc count) same =
    tabulate_more f count
    ∙ ap₂ (λ (l : List A) (a : A). l ++ (a ∷ [])) (tabulate_same f g count (λ k h. same k (omega arith))) (same count (omega arith))
    ∙ sym (tabulate_more g count)

-- A list whose first i elements are overwritten with a table.
module _ {A : Type 0} (f : ℕ → A) (before : List A) where
  unfoldable pub overwritten : ℕ → List A
  overwritten i = tabulate f i ++ drop i before

  pub overwritten_none : overwritten 0 ≡ before
  unfolding overwritten tabulate map_from
  overwritten_none = refl

  pub overwritten_more : (i : ℕ) (a : A) → i < length before → a ≡ f i → set (overwritten i) i a ≡ overwritten (suc i)
  unfolding overwritten
  overwritten_more i a h e =
      set_seam (tabulate f i) before i a (length-tabulate f i) h
      ∙ ap (λ (l : List A). l ++ drop (suc i) before) (ap (λ (b : A). tabulate f i ++ (b ∷ [])) e ∙ sym (tabulate_more f i))

module _ {A : Type 0} (count k : ℕ) (none : A) (h : k < count) where
  tabulate_at : (f : ℕ → A) → get_or (tabulate f count) k none ≡ f k
  unfolding tabulate
  tabulate_at f = get_d_map_from (λ (j filler : ℕ). f j) 0 (replicate count 0) k 0 none (rw (length-replicate {A = ℕ} count 0) h) ∙ ap f (zero-add k)

  -- The entry of a list that is a function's table.
  pub entry_at : (f : ℕ → A) (table : List A) → table ≡ tabulate f count → get_or table k none ≡ f k
  entry_at f table e = ap (λ (l : List A). get_or l k none) e ∙ tabulate_at f

  -- Two functions that have one table.
  pub entries_same : (f g : ℕ → A) → tabulate f count ≡ tabulate g count → f k ≡ g k
  entries_same f g e = sym (tabulate_at f) ∙ entry_at g (tabulate f count) e
