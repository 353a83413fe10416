-- A line of hexadecimal text read back: its bytes, and the lines of what follows it. Assumes nothing.
use mathlib.Core.List.{List, [], ◌∷◌, ◌++◌, append-nil, append_assoc}
use mathlib.Core.Path.{◌≡◌, refl, ◌∙◌}
use mathlib.Core.Bool.{true}
use Prim.Native.Nat.{ℕ, suc, ◌+◌, ◌*◌, ◌/◌, ◌%◌, ◌<◌}
use native.Mathlib.Omega.{arith}
use lib.Seq.{append_snoc}
use Rattle.general.proofs.Bytes.{Bytes}
use Rattle.text.specs.Digit.{is_digit}
use Rattle.text.specs.Line.{bytes, even, odd, scan, closed, lines_from, lines_of}
use Rattle.text.proofs.Digit.{value_digit, digit_read_back}
use Rattle.text.proofs.LineSteps.{lines_digit, lines_closed}
use Rattle.text.specs.HexText.{digit_of, hex_digits, hex_line}

pub digit_is_one : (v : ℕ) → v < 16 → is_digit (digit_of v) ≡ true
digit_is_one v h = value_digit (digit_of v) (omega (arith, digit_read_back v h))

module _ (bs rest : List ℕ) where
  high_digit : (v : ℕ) → v < 16 → lines_from (even bs) (digit_of v ∷ rest) ≡ lines_from (odd bs v) rest
  unfolding scan
  high_digit v h = lines_digit (even bs) (digit_of v) rest (digit_is_one v h) ∙ rw (digit_is_one v h, digit_read_back v h)

  low_digit : (high v : ℕ) → v < 16 → lines_from (odd bs high) (digit_of v ∷ rest) ≡ lines_from (even (bs ++ ((high * 16 + v) ∷ []))) rest
  unfolding scan
  low_digit high v h = lines_digit (odd bs high) (digit_of v) rest (digit_is_one v h) ∙ rw (digit_is_one v h, digit_read_back v h)

byte_read_back : (bs rest : List ℕ) (b : ℕ) → b < 256
    → lines_from (even bs) (digit_of (b / 16) ∷ digit_of (b % 16) ∷ rest) ≡ lines_from (even (bs ++ (b ∷ []))) rest
byte_read_back bs rest b h =
    let whole : b / 16 * 16 + b % 16 ≡ b = omega arith in
    high_digit bs (digit_of (b % 16) ∷ rest) (b / 16) (omega arith)
    ∙ low_digit bs rest (b / 16) (b % 16) (omega arith)
    ∙ rw whole

digits_read_back : (bs more rest : List ℕ) → Bytes more → lines_from (even bs) (hex_digits more ++ rest) ≡ lines_from (even (bs ++ more)) rest
unfolding hex_digits
digits_read_back bs [] rest h = rw append-nil
digits_read_back bs (b ∷ more) rest h =
    byte_read_back bs (hex_digits more ++ rest) b (h 0)
    ∙ digits_read_back (bs ++ (b ∷ [])) more rest (λ i. h (suc i))
    ∙ rw append_snoc

-- A line of at least one byte.
pub line_read_back : (b : ℕ) (bs rest : List ℕ) → Bytes (b ∷ bs) → lines_of (hex_line (b ∷ bs) ++ rest) ≡ bytes (b ∷ bs) ∷ lines_of rest
unfolding lines_of hex_line closed
line_read_back b bs rest h =
    rw append_assoc
    (digits_read_back [] (b ∷ bs) (10 ∷ rest) h
    ∙ lines_closed (even (b ∷ bs)) 10 rest refl)
