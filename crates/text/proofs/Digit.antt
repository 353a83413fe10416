-- Laws of a digit's value: at each entry of the table, of what a digit is, and of the digit of a value. Assumes nothing.
use mathlib.Core.List.{List}
use mathlib.Core.Path.{◌≡◌, refl}
use mathlib.Core.Bool.{true, false, cond}
use Prim.Native.Nat.{ℕ, ◌≤◌, ◌<◌}
use native.Mathlib.Omega.{arith}
use borrow.Author.Tests.{le-leb, lt-leb, eqb-true}
use lib.Dec.{eqb}
use lib.ListN.{get_or}
use Rattle.general.specs.Indexed.{map_from}
use Rattle.general.specs.Table.{tabulate}
use Rattle.general.proofs.Tests.{by_order}
use Rattle.general.proofs.Table.{entry_at, entries_same}
use Rattle.text.specs.Digit.{no_digit, digit_value, is_digit, digit_table}
use Rattle.text.specs.HexText.{digit_of}

-- What is shown of the whole table, at each entry.
pub digit_entry : (values : List ℕ) (c : ℕ) → values ≡ digit_table → c < 256 → get_or values c 0 ≡ digit_value c
unfolding digit_table
digit_entry values c e h = entry_at 256 c 0 h digit_value values e

pub value_digit : (c : ℕ) → digit_value c ≤ 15 → is_digit c ≡ true
unfolding is_digit
value_digit c h = le-leb (digit_value c) 15 h

pub value_no_digit : (c : ℕ) → 15 < digit_value c → is_digit c ≡ false
unfolding is_digit
value_no_digit c h = lt-leb (digit_value c) 15 h

-- A byte's value is a digit's or the mark, by one test of all entries of the table.
digit_or_mark : (c : ℕ) → c < 256 → cond (is_digit c) true (eqb (digit_value c) no_digit) ≡ true
unfolding tabulate map_from is_digit digit_value
digit_or_mark c h = entries_same 256 c true h (λ (d : ℕ). cond (is_digit d) true (eqb (digit_value d) no_digit)) (λ (d : ℕ). true) refl

by_digit_or_mark : {C : Type 0} (c : ℕ) → c < 256 → (digit_value c ≤ 15 → C) → (digit_value c ≡ no_digit → C) → C
by_digit_or_mark c h digit mark =
    by_order (digit_value c) 15 digit (λ above. mark (eqb-true (digit_value c) no_digit (rw (value_no_digit c above) at (digit_or_mark c h))))

-- So no entry is above the mark, and what is below it is a digit's.
pub value_most : (c : ℕ) → c < 256 → digit_value c ≤ no_digit
value_most c h = by_digit_or_mark c h (λ digit. omega arith) (λ mark. omega arith)

pub value_below_mark : (c : ℕ) → c < 256 → digit_value c < no_digit → digit_value c ≤ 15
value_below_mark c h less = by_digit_or_mark c h (λ digit. digit) (λ mark. absurd (omega arith))

-- 0A is no digit.
pub digit_not_0_a : (c : ℕ) → is_digit c ≡ true → c ≡ 10 → ⊥
unfolding is_digit digit_value
digit_not_0_a c h e =
    let t : is_digit 10 ≡ true = rw e at h in
    let z : ◌≡◌ {A = ℕ} 0 1 = cc in
    omega arith

-- The value of the digit of a value, by one test of the sixteen.
pub digit_read_back : (v : ℕ) → v < 16 → digit_value (digit_of v) ≡ v
unfolding tabulate map_from digit_value digit_of
digit_read_back v h = entries_same 16 v 0 h (λ (d : ℕ). digit_value (digit_of d)) (λ (d : ℕ). d) refl
