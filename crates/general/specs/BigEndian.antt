-- Numbers as bytes (document 01, opening: "most significant byte first").
use Rattle.std.specs.Prelude.{List, [], ◌∷◌, ◌++◌, ℕ, zero, suc, ◌+◌, ◌*◌, ◌/◌, ◌%◌}

-- The number that bytes stand for, after those already read, which stand for `high`.
unfoldable pub number_from : (high : ℕ) → List ℕ → ℕ
number_from high [] = high
number_from high (b ∷ bs) = number_from (high * 256 + b) bs

-- The number that bytes stand for.
unfoldable pub number : List ℕ → ℕ
number bs = number_from 0 bs

-- The `width` lowest bytes of a number.
unfoldable pub bytes_of : (width v : ℕ) → List ℕ
bytes_of zero v = []
bytes_of (suc width) v = bytes_of width (v / 256) ++ (v % 256 ∷ [])
