-- Of `replay`: each line read leads on.
use Rattle.std.proofs.Common.{length, ◌-◌}
use Rattle.replay.proofs.replay.Given as goal

abbrev pub invariant-loop-line : goal.invariant-loop-line
invariant-loop-line l = Unit {0}

abbrev pub decreases-loop-line : goal.decreases-loop-line
decreases-loop-line l = length l.text - l.here.at
