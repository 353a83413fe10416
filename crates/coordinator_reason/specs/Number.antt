-- The reasons' numbers (document 02, Paper 7). `Reason` is the code's enum.
use Rattle.std.specs.Prelude.{ℕ}
use Rattle.coordinator_reason.specs.declared.Reason.{Reason}
use Rattle.coordinator_reason.specs.declared.Reason.TheVariants.{Coordinated, HeardCommit, HeardValue, CoordinatorCrashedBefore, CoordinatorCrashedNow, CrashedNow, EndedBefore}

unfoldable pub number_of_reason : Reason → ℕ
number_of_reason Coordinated = 1
number_of_reason HeardCommit = 2
number_of_reason HeardValue = 3
number_of_reason CoordinatorCrashedBefore = 4
number_of_reason CoordinatorCrashedNow = 5
number_of_reason CrashedNow = 6
number_of_reason EndedBefore = 7
