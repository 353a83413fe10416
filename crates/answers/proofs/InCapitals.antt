-- Hexadecimal text has no small letter, a refusal's line among it: its digits are 0-9 and A-F. Assumes nothing.
use mathlib.Core.List.{List, [], ◌∷◌, ◌++◌, map-append}
use mathlib.Core.Path.{◌≡◌, refl, ap₂, ◌∙◌}
use Prim.Native.Nat.{ℕ, suc, ◌/◌, ◌%◌, ◌<◌}
use native.Mathlib.Omega.{arith}
use Rattle.general.specs.Indexed.{map_from}
use Rattle.general.specs.Table.{tabulate}
use Rattle.general.proofs.Table.{entries_same}
use Rattle.general.specs.BigEndian.{bytes_of}
use Rattle.general.proofs.Bytes.{Bytes, bytes_each, bytes_append}
use Rattle.general.proofs.BigEndian.{bytes_of_number}
use Rattle.text.specs.Capitals.{capital, InCapitals}
use Rattle.text.specs.HexText.{digit_of, hex_digits, hex_line}
use Rattle.answers.specs.ResultLine.{refusal_line}

-- By one test of the sixteen digits.
digit_in_capitals : (v : ℕ) → v < 16 → capital (digit_of v) ≡ digit_of v
unfolding tabulate map_from capital digit_of
digit_in_capitals v h = entries_same 16 v 0 h (λ (d : ℕ). capital (digit_of d)) digit_of refl

pub capitals_append : (a b : List ℕ) → InCapitals a → InCapitals b → InCapitals (a ++ b)
unfolding InCapitals
capitals_append a b h g = map-append capital a b ∙ ap₂ (λ (k l : List ℕ). k ++ l) h g

digits_in_capitals : (bs : List ℕ) → Bytes bs → InCapitals (hex_digits bs)
unfolding InCapitals hex_digits
digits_in_capitals [] h = refl
digits_in_capitals (b ∷ bs) h =
    let byte : b < 256 = h 0 in
    rw (digit_in_capitals (b / 16) (omega arith), digit_in_capitals (b % 16) (omega arith), digits_in_capitals bs (λ i. h (suc i))) refl

pub line_in_capitals : (bs : List ℕ) → Bytes bs → InCapitals (hex_line bs)
unfolding InCapitals hex_line capital
line_in_capitals bs h = capitals_append (hex_digits bs) (10 ∷ []) (digits_in_capitals bs h) refl

pub refusal_in_capitals : (number line : ℕ) → number < 256 → InCapitals (refusal_line number line)
unfolding refusal_line
refusal_in_capitals number line small =
    let front : Bytes (0x1F ∷ number ∷ []) = bytes_each (0x1F ∷ number ∷ []) (omega arith, (small, tt)) in
    line_in_capitals (0x1F ∷ number ∷ bytes_of 2 line) (bytes_append (0x1F ∷ number ∷ []) (bytes_of 2 line) front (bytes_of_number 2 line))
