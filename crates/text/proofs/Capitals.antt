-- A text has the lines of its capitals: a letter and its capital are the same digit or none, and neither is 0A. Assumes nothing.
use mathlib.Core.List.{List, [], ◌∷◌, map}
use mathlib.Core.Path.{◌≡◌, refl, ap}
use mathlib.Core.Bool.{false}
use Prim.Native.Nat.{ℕ, ◌≤◌, ◌<◌}
use native.Mathlib.Omega.{arith}
use borrow.Author.Tests.{le-leb, lt-leb}
use lib.Dec.{eqb}
use Rattle.general.specs.Indexed.{map_from}
use Rattle.general.specs.Table.{tabulate}
use Rattle.general.proofs.Tests.{by_order}
use Rattle.general.proofs.Table.{entries_same}
use Rattle.text.specs.Digit.{digit_value, is_digit}
use Rattle.text.specs.Capitals.{capital}
use Rattle.text.specs.Line.{Scan, even, odd, broken, scan, lines_from, lines_of}

-- What is no byte stays as it is.
capital_past : (c : ℕ) → 256 ≤ c → capital c ≡ c
unfolding capital
capital_past c h =
    let small : 97 ≤ c = omega arith in
    let past : 122 < c = omega arith in
    simp (le-leb 97 c small, lt-leb c 122 past)

-- Whatever is the same for a byte and its capital, shown by one test of the 256, is the same for every number.
capital_same : {A : Type 0} (f : ℕ → A) (none : A) → tabulate (λ (c : ℕ). f (capital c)) 256 ≡ tabulate f 256 → (c : ℕ) → f (capital c) ≡ f c
capital_same f none test c = by_order 256 c (λ past. ap f (capital_past c past)) (λ byte. entries_same 256 c none byte (λ (d : ℕ). f (capital d)) f test)

-- A letter has the value of its capital: a to f are digits as A to F are, and g to z are none as G to Z are none.
capital_value : (c : ℕ) → digit_value (capital c) ≡ digit_value c
unfolding tabulate map_from digit_value capital
capital_value = capital_same digit_value 0 refl

pub capital_digit : (c : ℕ) → is_digit (capital c) ≡ is_digit c
unfolding is_digit
capital_digit c = rw (capital_value c) refl

-- And it closes a line just if its capital does.
capital_closes : (c : ℕ) → eqb (capital c) 10 ≡ eqb c 10
unfolding tabulate map_from capital
capital_closes = capital_same (λ (c : ℕ). eqb c 10) false refl

capital_scan : (s : Scan) (c : ℕ) → scan s (capital c) ≡ scan s c
unfolding scan
capital_scan (even bs) c = rw (capital_digit c, capital_value c) refl
capital_scan (odd bs high) c = rw (capital_digit c, capital_value c) refl
capital_scan broken c = refl

capital_lines : (text : List ℕ) (s : Scan) → lines_from s (map capital text) ≡ lines_from s text
unfolding lines_from
capital_lines [] s = refl
capital_lines (c ∷ text) s = rw (capital_closes c, capital_scan s c, capital_lines text (even []), capital_lines text (scan s c)) refl

pub lines_capitals : (text : List ℕ) → lines_of (map capital text) ≡ lines_of text
unfolding lines_of
lines_capitals text = capital_lines text (even [])
