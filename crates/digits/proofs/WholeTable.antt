-- The code's table is the definition's: one test of all 256 entries, computed. Assumes nothing.
use mathlib.Core.Path.{◌≡◌, refl}
use Rattle.general.specs.Indexed.{map_from}
use Rattle.general.specs.Table.{tabulate}
use Rattle.text.specs.Digit.{digit_value, digit_table}
use Rattle.digits.specs.declared.TheConstants.{DIGIT_VALUES}

pub whole_table : DIGIT_VALUES ≡ digit_table
unfolding digit_table tabulate map_from digit_value
whole_table = refl
