-- Lists whose elements are numbered; from 1, as processes are (document 01, 'The ticket': "stations 1 to n in order").
use Rattle.std.specs.Prelude.{List, [], ◌∷◌, ℕ, suc, ◌+◌, Bool, cond}

module _ {A B : Type 0} where
  -- The function applied to each element with its number, the first of which is `i`.
  unfoldable pub map_from : (ℕ → A → B) → (i : ℕ) → List A → List B
  map_from f i [] = []
  map_from f i (a ∷ rest) = f i a ∷ map_from f (suc i) rest

module _ {A : Type 0} where
  -- How many elements pass a test on number and element, the first number being `i`.
  unfoldable pub count_from : (ℕ → A → Bool) → (i : ℕ) → List A → ℕ
  count_from test i [] = 0
  count_from test i (a ∷ rest) = cond (test i a) 1 0 + count_from test (suc i) rest
