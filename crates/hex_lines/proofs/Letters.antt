-- The rule of the table of digits, at each entry: one test of the whole table, computed. Assumes nothing.
use mathlib.Core.Path.{◌≡◌, refl}
use Prim.Native.Nat.{ℕ, ◌<◌}
use lib.ListN.{get_or}
use Rattle.general.specs.Indexed.{map_from}
use Rattle.general.specs.Table.{tabulate}
use Rattle.general.proofs.Table.{entry_at}
use Rattle.text.specs.HexText.{digit_of}
use Rattle.hex_lines.specs.declared.TheConstants.{LETTERS}

pub letter_at : (v : ℕ) → v < 16 → get_or LETTERS v 0 ≡ digit_of v
unfolding tabulate map_from digit_of
letter_at v h = entry_at 16 v 0 h digit_of LETTERS refl
