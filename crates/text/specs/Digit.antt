-- The value of a digit (document 01, 'The ticket': digits 0-9, A-F; document 02, Paper 1: "Digits of either case are accepted, mixed too").
use Rattle.std.specs.Prelude.{List, ℕ, ◌-◌, Bool, cond, ◌&&◌, leb}
use Rattle.general.specs.Table.{tabulate}

-- What stands for a byte that is no digit (document 02, Paper 3: "one mark above 15").
abbrev pub no_digit : ℕ
no_digit = 64

-- The value of a byte as a digit, 0 to 15, or `no_digit`. (48 is 0, 57 is 9, 65 is A, 70 is F, 97 is a, 102 is f.)
unfoldable pub digit_value : ℕ → ℕ
digit_value c =
    cond (leb 48 c && leb c 57) (c - 48)
    (cond (leb 65 c && leb c 70) (c - 55)
    (cond (leb 97 c && leb c 102) (c - 87)
    no_digit))

unfoldable pub is_digit : ℕ → Bool
is_digit c = leb (digit_value c) 15

-- The table of digit values (document 02, Paper 3: "a table of 256 entries indexed by the byte"). ByteCases has it written out.
unfoldable pub digit_table : List ℕ
digit_table = tabulate digit_value 256
