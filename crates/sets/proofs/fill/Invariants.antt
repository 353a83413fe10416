-- The loop's invariant: the array filled for the members that are left is the array at entry filled for all.
use Rattle.std.proofs.Common.{◌≡◌}
use Rattle.general.specs.Bits.{filled}
use Rattle.sets.proofs.fill.Given as goal

abbrev pub invariant-loop-left : goal.invariant-loop-left
invariant-loop-left g l = filled l.left l.x l.a ≡ filled l.set l.x l.initial.a

abbrev pub decreases-loop-left : goal.decreases-loop-left
decreases-loop-left g l = l.left
