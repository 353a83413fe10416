-- What each of the 256 bytes is: its value as a digit (document 01, 'The ticket'), and its capital (document 02, Paper 1); and the digits that are written.
use Rattle.std.specs.Prelude.{List, [], ◌∷◌, ◌++◌, ◌≡◌, ℕ, zero, suc, ◌<◌, replicate}
use Rattle.general.specs.Table.{tabulate}
use Rattle.general.specs.Text.{ascii}
use Rattle.text.specs.Capitals.{capital, EqualUpToCase, InCapitals}
use Rattle.text.specs.Line.{bytes, no_line, lines_of}
use Rattle.text.specs.HexText.{hex_line}
use Rattle.text.specs.TextOf.{text_of}
use Rattle.text.specs.Digit.{no_digit, digit_table}

-- So many numbers, of which the first is `first`.
unfoldable pub numbers : (count first : ℕ) → List ℕ
numbers zero first = []
numbers (suc count) first = first ∷ numbers count (suc first)

pub record ByteCases : Type 0 where
  -- the table of digit values (document 02, Paper 3), written out: 0-9, A-F and a-f are digits, of these values, and the other 234 bytes have the mark
  pub digits : digit_table
      ≡ replicate 48 no_digit ++ numbers 10 0 ++ replicate 7 no_digit ++ numbers 6 10 ++ replicate 26 no_digit ++ numbers 6 10 ++ replicate 153 no_digit
  -- and the mark is above 15
  pub mark : 15 < no_digit
  -- a to z have capitals, and every other byte stays
  pub capitals : tabulate capital 256 ≡ numbers 97 0 ++ numbers 26 65 ++ numbers 133 123
  -- a text with a small letter is not in capitals
  pub small_letter : InCapitals (97 ∷ []) → ⊥
  -- what is written of eight bytes in which every digit stands: 0-9 and A-F
  pub written : hex_line (1 ∷ 35 ∷ 69 ∷ 103 ∷ 137 ∷ 171 ∷ 205 ∷ 239 ∷ []) ≡ ascii "0123456789ABCDEF" ++ (10 ∷ [])
  -- two texts that differ in the case of letters, of which one is no digit
  pub alike : EqualUpToCase (ascii "0aG") (ascii "0Ag")
  -- lines: digits of either case; an odd count of digits, no digit, a byte that is no digit, 0D before the 0A, and no 0A at the end are none
  pub lines : lines_of (text_of ("0AfF" ∷ "123" ∷ "" ∷ "0G" ∷ []) ++ (48 ∷ 49 ∷ 13 ∷ 10 ∷ []) ++ ascii "04")
      ≡ bytes (10 ∷ 255 ∷ []) ∷ no_line ∷ no_line ∷ no_line ∷ no_line ∷ no_line ∷ []
