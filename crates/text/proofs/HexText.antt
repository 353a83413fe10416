-- Laws of lines of hexadecimal text: the length of what is written of some bytes, and one byte more. Assumes nothing.
use mathlib.Core.List.{List, [], ◌∷◌, ◌++◌}
use mathlib.Core.Path.{◌≡◌, refl, ap, ◌∙◌}
use Prim.Native.Nat.{ℕ, ◌+◌, ◌*◌, ◌/◌, ◌%◌}
use native.Mathlib.Omega.{arith}
use lib.ListN.{length, length-append}
use Rattle.text.specs.HexText.{digit_of, hex_digits, hex_line, line_size}

pub length-hex_digits : (bs : List ℕ) → length (hex_digits bs) ≡ 2 * length bs
unfolding hex_digits
length-hex_digits [] = refl
length-hex_digits (b ∷ bs) = let e = length-hex_digits bs in omega arith

pub length-hex_line : (bs : List ℕ) → length (hex_line bs) ≡ line_size (length bs)
unfolding hex_line
length-hex_line bs = length-append (hex_digits bs) (10 ∷ []) ∙ ap (λ (m : ℕ). m + 1) (length-hex_digits bs)

-- One byte more.
pub hex_digits_snoc : (bs : List ℕ) (b : ℕ) → hex_digits (bs ++ (b ∷ [])) ≡ hex_digits bs ++ (digit_of (b / 16) ∷ []) ++ (digit_of (b % 16) ∷ [])
unfolding hex_digits
hex_digits_snoc [] b = refl
hex_digits_snoc (c ∷ bs) b = ap (λ (l : List ℕ). digit_of (c / 16) ∷ digit_of (c % 16) ∷ l) (hex_digits_snoc bs b)
