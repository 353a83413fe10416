-- `lines::read_digits` meets its contract. Invariant: from `at` to `end` stand the digits of bytes of which head and tail are the words. Assumes nothing.
use Rattle.std.proofs.Common.{◌-◌, length}
use Rattle.lines.specs.code.Scanned.{Scanned}
use Rattle.lines.proofs.read_digits.Given as goal

abbrev pub invariant-loop-end : goal.invariant-loop-end
invariant-loop-end l = Scanned l.text l.at l.end l.head l.tail

abbrev pub decreases-loop-end : goal.decreases-loop-end
decreases-loop-end l = length l.text - l.end
