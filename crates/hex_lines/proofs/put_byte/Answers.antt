-- `hex_lines::put_byte` meets its contract: both digits are entries of the table. Assumes nothing.
use Rattle.std.proofs.Common.{◌/◌, ◌%◌, arith}
use Rattle.hex_lines.proofs.Letters.{letter_at}
use Rattle.hex_lines.proofs.put_byte.Goals as goal

pub returns : goal.returns
returns c =
    let high = letter_at (c.args.b / 16) (omega arith) in
    let low = letter_at (c.args.b % 16) (omega arith) in
    cc
