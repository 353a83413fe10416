-- The case of letters: capitals, and texts that differ in the case of letters alone (document 02, Paper 1).
use Rattle.std.specs.Prelude.{List, map, ◌≡◌, cond, ◌&&◌, ℕ, ◌-◌, leb}

-- A letter as a capital: a to z become A to Z, whether they are digits or not, and every other byte stays. (97 is a, 122 is z.)
unfoldable pub capital : ℕ → ℕ
capital c = cond (leb 97 c && leb c 122) (c - 32) c

-- Two texts differ in the case of letters at most: they are equal when every letter is taken as a capital, and so they are of one length.
unfoldable pub EqualUpToCase : (a b : List ℕ) → Type 0
EqualUpToCase a b = map capital a ≡ map capital b

-- A text without a small letter: it stays as it is when every letter is taken as a capital.
unfoldable pub InCapitals : List ℕ → Type 0
InCapitals text = map capital text ≡ text
