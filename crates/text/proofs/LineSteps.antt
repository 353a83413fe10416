-- The lines of a text, one character more: a digit, something that is neither digit nor 0A, or 0A. Assumes nothing.
use mathlib.Core.List.{List, ◌∷◌}
use mathlib.Core.Path.{◌≡◌, refl}
use mathlib.Core.Bool.{true, false}
use Prim.Native.Nat.{ℕ}
use borrow.Author.Tests.{ne_eqb}
use Rattle.text.specs.Digit.{is_digit}
use Rattle.text.specs.Line.{Scan, even, odd, broken, scan, closed, lines_from, lines_of}
use Rattle.text.proofs.Digit.{digit_not_0_a}

pub lines_digit : (s : Scan) (c : ℕ) (l : List ℕ) → is_digit c ≡ true → lines_from s (c ∷ l) ≡ lines_from (scan s c) l
unfolding lines_from
lines_digit s c l h = rw (ne_eqb c 10 (digit_not_0_a c h))

scan_other : (s : Scan) (c : ℕ) → is_digit c ≡ false → scan s c ≡ broken
unfolding scan
scan_other (even b) c h = rw h
scan_other (odd b high) c h = rw h
scan_other broken c h = refl

pub lines_other : (s : Scan) (c : ℕ) (l : List ℕ) → is_digit c ≡ false → (c ≡ 10 → ⊥) → lines_from s (c ∷ l) ≡ lines_from broken l
unfolding lines_from
lines_other s c l h n = rw (ne_eqb c 10 n, scan_other s c h)

pub lines_closed : (s : Scan) (c : ℕ) (l : List ℕ) → c ≡ 10 → lines_from s (c ∷ l) ≡ closed s ∷ lines_of l
unfolding lines_from lines_of
lines_closed s c l e = rw e
