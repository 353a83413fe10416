-- `hex_lines::put_line` meets its contract. Invariant: the digits of the bytes passed, followed by what stood there before. Assumes nothing.
use Rattle.std.proofs.Common.{◌≡◌, ◌<◌, length, sym, arith}
use Rattle.std.proofs.lemmas.Grind.{common_steps}
use Rattle.hex_lines.proofs.HexText.{part_none, part_more, part_closed}
use Rattle.hex_lines.proofs.put_line.Goals as goal

pub loop-i-init : goal.loop-i-init
loop-i-init c = sym (part_none _ _)

pub loop-i-preserved : goal.loop-i-preserved
loop-i-preserved c =
    let inside : c.loop-i.i < length c.args.bytes.now = grind (arith, common_steps) in
    let more = part_more c.args.bytes.now c.args.out.now c.loop-i.i inside (omega (arith, inside)) in
    grind (arith, common_steps, more)

pub returns : goal.returns
returns c =
    let last : c.loop-i.i ≡ length c.args.bytes.now = grind (arith, common_steps) in
    let closed = part_closed c.args.bytes.now c.args.out.now (omega arith) in
    grind (arith, common_steps, last, closed)
