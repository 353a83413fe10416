-- The table of a function, whose entries are indexed from 0 (document 02, Paper 3: "a table of 256 entries indexed by the byte").
use Rattle.std.specs.Prelude.{List, ℕ, replicate}
use Rattle.general.specs.Indexed.{map_from}

module _ {A : Type 0} where
  -- What a function gives for 0 and each further number below `count`, each at the number's place.
  unfoldable pub tabulate : (ℕ → A) → (count : ℕ) → List A
  tabulate f count = map_from (λ (k filler : ℕ). f k) 0 (replicate count 0)
