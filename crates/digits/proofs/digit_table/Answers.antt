-- `digits::digit_table` meets its contract. Assumes nothing.
use Rattle.digits.proofs.WholeTable.{whole_table}
use Rattle.digits.proofs.digit_table.Goals as goal

pub returns : goal.returns
returns c = whole_table
