-- For the code alone: the bytes of a line as numbers. It hands a line on as its size and its last sixteen bytes, which are two words of 64 bits. No line
-- of document 01's base has more than thirteen.
use Rattle.std.specs.Prelude.{List, ℕ, ◌+◌, ◌*◌, ◌/◌, ◌%◌, ◌^◌}
use Rattle.general.specs.BigEndian.{number, bytes_of}

-- The eight bytes before the last eight, and the last eight.
unfoldable pub upper_word : List ℕ → ℕ
upper_word b = number b / 2 ^ 64 % 2 ^ 64

unfoldable pub lower_word : List ℕ → ℕ
lower_word b = number b % 2 ^ 64

-- The `size` bytes that two words stand for, if they are at most sixteen.
unfoldable pub line_bytes : (size head tail : ℕ) → List ℕ
line_bytes size head tail = bytes_of size (head * 2 ^ 64 + tail)
