-- The numbers of the enum are document 02's. Assumes nothing.
use Rattle.std.proofs.Common.{◌≡◌, ◌+◌, refl}
use Rattle.coordinator_reason.specs.declared.Reason.{Reason}
use Rattle.coordinator_reason.specs.declared.Reason.TheVariants.{Coordinated, HeardCommit, HeardValue, CoordinatorCrashedBefore, CoordinatorCrashedNow, CrashedNow, EndedBefore}
use Rattle.coordinator_reason.specs.Number.{number_of_reason}
use Rattle.coordinator_reason.proofs.U8FromReason.from.Goals as goal

numbered : (r : Reason) → denote.Enum.Declared.tag_of Rattle.coordinator_reason.specs.contracts.Reason.the_type r + 1 ≡ number_of_reason r
unfolding number_of_reason
numbered Coordinated = refl
numbered HeardCommit = refl
numbered HeardValue = refl
numbered CoordinatorCrashedBefore = refl
numbered CoordinatorCrashedNow = refl
numbered CrashedNow = refl
numbered EndedBefore = refl

pub returns : goal.returns
returns c = numbered c.args.reason
