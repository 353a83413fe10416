-- What each of the 256 bytes is, computed. Assumes nothing.
use mathlib.Core.List.{List}
use mathlib.Core.Path.{◌≡◌, refl, ap}
use Prim.Native.Nat.{ℕ}
use native.Mathlib.Omega.{arith}
use lib.ListN.{get_or}
use Rattle.general.specs.Indexed.{map_from}
use Rattle.general.specs.Table.{tabulate}
use Rattle.general.specs.Text.{ascii}
use Rattle.text.specs.Capitals.{capital, EqualUpToCase, InCapitals}
use Rattle.text.specs.HexText.{digit_of, hex_digits, hex_line}
use Rattle.text.specs.Digit.{digit_value, is_digit, digit_table}
use Rattle.text.specs.Line.{scan, closed, unclosed, lines_from, lines_of}
use Rattle.text.specs.TextOf.{text_of}
use Rattle.text.specs.ByteCases.{numbers, ByteCases}

pub byte_cases : ByteCases
unfolding numbers tabulate map_from digit_table capital digit_value is_digit EqualUpToCase InCapitals scan closed unclosed lines_from lines_of text_of ascii digit_of hex_digits hex_line
byte_cases =
    record {
      digits = refl;
      mark = omega arith;
      capitals = refl;
      small_letter = λ h. let first : ◌≡◌ {A = ℕ} 65 97 = ap (λ (text : List ℕ). get_or text 0 0) h in omega (arith, first);
      written = refl;
      alike = refl;
      lines = refl;
    }
