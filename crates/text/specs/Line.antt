-- The lines of a text (document 01, 'The ticket': "A line is an even, non-zero count of digits 0-9, A-F, closed by byte 0A. Two digits make a byte"; which
-- bytes are digits, since document 02, Paper 1 a-f too, is said in Digit).
-- A text is read one character at a time. What follows the last 0A is a line of its own, wrong for want of its 0A, unless nothing follows.
use Rattle.std.specs.Prelude.{List, [], ◌∷◌, ◌++◌, ℕ, ◌+◌, ◌*◌, cond, eqb}
use Rattle.text.specs.Digit.{digit_value, is_digit}

-- What a line gives: its bytes, at least one; or nothing, where it is no line as above.
pub data Line : Type 0 where
  bytes : List ℕ → Line
  no_line : Line

-- What has been read of the present line.
pub data Scan : Type 0 where
  -- an even count of digits, which make these bytes
  even : List ℕ → Scan
  -- one digit more
  odd : List ℕ → ℕ → Scan
  -- something that is no digit
  broken : Scan

-- One character more, which is not 0A.
unfoldable pub scan : Scan → ℕ → Scan
scan (even bs) c = cond (is_digit c) (odd bs (digit_value c)) broken
scan (odd bs high) c = cond (is_digit c) (even (bs ++ ((high * 16 + digit_value c) ∷ []))) broken
scan broken c = broken

-- The line that 0A closes.
unfoldable pub closed : Scan → Line
closed (even []) = no_line
closed (even (b ∷ bs)) = bytes (b ∷ bs)
closed (odd bs high) = no_line
closed broken = no_line

-- The lines of a text that ends here: none, or one without its 0A.
unfoldable pub unclosed : Scan → List Line
unclosed (even []) = []
unclosed (even (b ∷ bs)) = no_line ∷ []
unclosed (odd bs high) = no_line ∷ []
unclosed broken = no_line ∷ []

-- The lines of what is left of a text, of whose first line `s` has been read. (10 is 0A.)
unfoldable pub lines_from : Scan → List ℕ → List Line
lines_from s [] = unclosed s
lines_from s (c ∷ text) =
    let ended = closed s ∷ lines_from (even []) text in
    let longer = lines_from (scan s c) text in
    cond (eqb c 10) ended longer

-- The lines of a text.
unfoldable pub lines_of : List ℕ → List Line
lines_of text = lines_from (even []) text
