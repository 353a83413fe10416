-- Bytes written as a line of text (document 01, 'The result': "the lines below in hexadecimal, each closed by 0A").
use Rattle.std.specs.Prelude.{List, [], ◌∷◌, ◌++◌, ℕ, ◌+◌, ◌*◌, ◌/◌, ◌%◌, cond, ltb}

-- The digit 0-9, A-F of a value below 16. (48 is 0, 65 is A.)
unfoldable pub digit_of : (v : ℕ) → ℕ
digit_of v = cond (ltb v 10) (48 + v) (55 + v)

-- Two digits for each byte.
unfoldable pub hex_digits : List ℕ → List ℕ
hex_digits [] = []
hex_digits (b ∷ bs) = digit_of (b / 16) ∷ digit_of (b % 16) ∷ hex_digits bs

-- The digits and 0A.
unfoldable pub hex_line : List ℕ → List ℕ
hex_line bs = hex_digits bs ++ (10 ∷ [])

-- Lines, one behind the other.
unfoldable pub hex_lines : List (List ℕ) → List ℕ
hex_lines [] = []
hex_lines (bs ∷ lines) = hex_line bs ++ hex_lines lines

-- The length of the line of `count` bytes.
abbrev pub line_size : (count : ℕ) → ℕ
line_size count = 2 * count + 1
