-- Every byte of a line is below 256, since a digit's value is at most 15. Assumes nothing.
use mathlib.Core.List.{List, [], ◌∷◌, ◌++◌}
use mathlib.Core.Path.{◌≡◌, refl}
use mathlib.Core.Bool.{Bool, true, false, cond}
use Prim.Native.Nat.{ℕ, ◌+◌, ◌*◌, ◌≤◌}
use native.Mathlib.Omega.{arith}
use lib.Dec.{eqb}
use borrow.Author.Tests.{leb-true}
use Rattle.general.proofs.Bytes.{Bytes, below_snoc}
use Rattle.text.specs.Digit.{digit_value, is_digit}
use Rattle.text.specs.Line.{Line, bytes, no_line, Scan, even, odd, broken, scan, closed, unclosed, lines_from, lines_of}

-- Every line of the list gives bytes, or nothing.
unfoldable pub Lines : List Line → Type 0
Lines [] = Unit {0}
Lines (bytes b ∷ lines) = Bytes b × Lines lines
Lines (no_line ∷ lines) = Lines lines

-- What has been read of a line are bytes, and a digit's value.
Scanned : Scan → Type 0
Scanned (even b) = Bytes b
Scanned (odd b high) = Bytes b × (high ≤ 15)
Scanned broken = Unit {0}

scanned_even : (b : List ℕ) (c : ℕ) (digit : Bool) → is_digit c ≡ digit → Bytes b → Scanned (cond digit (odd b (digit_value c)) broken)
unfolding Scanned is_digit
scanned_even b c true e h = (h, leb-true _ _ e)
scanned_even b c false e h = tt

scanned_odd : (b : List ℕ) (high c : ℕ) (digit : Bool) → is_digit c ≡ digit → Bytes b → high ≤ 15
    → Scanned (cond digit (even (b ++ ((high * 16 + digit_value c) ∷ []))) broken)
unfolding Scanned is_digit
scanned_odd b high c true e h g = let d : digit_value c ≤ 15 = leb-true _ _ e in below_snoc 256 b _ h (omega arith)
scanned_odd b high c false e h g = tt

scan_keeps : (s : Scan) (c : ℕ) → Scanned s → Scanned (scan s c)
unfolding Scanned scan
scan_keeps (even b) c h = scanned_even b c (is_digit c) refl h
scan_keeps (odd b high) c h = scanned_odd b high c (is_digit c) refl h.0 h.1
scan_keeps broken c h = tt

closed_bytes : (s : Scan) (lines : List Line) → Scanned s → Lines lines → Lines (closed s ∷ lines)
unfolding Scanned closed Lines
closed_bytes (even []) lines h g = g
closed_bytes (even (a ∷ b)) lines h g = (h, g)
closed_bytes (odd b high) lines h g = g
closed_bytes broken lines h g = g

unclosed_bytes : (s : Scan) → Lines (unclosed s)
unfolding unclosed Lines
unclosed_bytes (even []) = tt
unclosed_bytes (even (a ∷ b)) = tt
unclosed_bytes (odd b high) = tt
unclosed_bytes broken = tt

either_bytes : (ends : Bool) (l m : List Line) → Lines l → Lines m → Lines (cond ends l m)
either_bytes true l m h g = h
either_bytes false l m h g = g

from_bytes : (text : List ℕ) (s : Scan) → Scanned s → Lines (lines_from s text)
unfolding lines_from Scanned
from_bytes [] s h = unclosed_bytes s
from_bytes (c ∷ text) s h =
    either_bytes (eqb c 10) _ _ (closed_bytes s _ h (from_bytes text (even []) (λ i. omega arith))) (from_bytes text (scan s c) (scan_keeps s c h))

-- The lines of a text are lines of bytes.
pub lines_bytes : (text : List ℕ) → Lines (lines_of text)
unfolding lines_of Scanned
lines_bytes text = from_bytes text (even []) (λ i. omega arith)
