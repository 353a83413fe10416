-- For the code alone: how far a line's digits have been read.
use Rattle.std.specs.Prelude.{List, ◌≡◌, false, ◌&&◌, ℕ, ◌+◌, ◌*◌, ◌≤◌, ◌<◌, length, get_or, drop}
use Rattle.text.specs.Digit.{is_digit}
use Rattle.text.specs.Line.{even, lines_from, lines_of}
use Rattle.lines.specs.code.Words.{upper_word, lower_word}

-- From place `at` to place `end` stand the digits of some bytes, of which these are the two words.
pub record Scanned (text : List ℕ) (at end head tail : ℕ) : Type 0 where
  pub bytes : List ℕ
  pub upper : head ≡ upper_word bytes
  pub lower : tail ≡ lower_word bytes
  pub place : end ≡ at + 2 * length bytes
  pub inside : end ≤ length text
  pub lines : lines_of (drop at text) ≡ lines_from (even bytes) (drop end text)

-- No two digits stand at a place.
unfoldable pub Stops : List ℕ → ℕ → Type 0
Stops text end = end + 1 < length text → (is_digit (get_or text end 0) && is_digit (get_or text (end + 1) 0)) ≡ false
