-- `hex_lines::put_line`: the digits of the bytes passed, followed by what stood there before.
use Rattle.std.proofs.Common.{◌≡◌}
use Rattle.hex_lines.proofs.HexText.{part_line}
use Rattle.hex_lines.proofs.put_line.Given as goal

abbrev pub invariant-loop-i : goal.invariant-loop-i
invariant-loop-i l = l.out ≡ part_line l.bytes l.initial.out l.i
