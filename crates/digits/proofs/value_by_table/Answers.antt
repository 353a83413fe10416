-- `digits::value_by_table` meets its contract. Assumes nothing.
use Rattle.std.proofs.Common.{ap, get_or}
use Rattle.digits.proofs.WholeTable.{whole_table}
use Rattle.digits.proofs.value_by_table.Goals as goal

pub returns : goal.returns
returns c = rw c.digit_value.ensures (ap (λ t. get_or t c.args.c 0) whole_table)
