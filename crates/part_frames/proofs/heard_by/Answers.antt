-- `part_frames::heard_by` meets its contract: a law for each return. Assumes nothing.
use Rattle.std.proofs.Common.{◌∙◌, arith}
use Rattle.part_frames.specs.code.Heard.{messages_as, heard_as}
use Rattle.part_frames.proofs.Frames.{heard_by_other, heard_by_own_bytes, heard_by_own}
use Rattle.part_frames.proofs.heard_by.Goals as goal

pub returns-then-process-round : goal.returns-then-process-round
returns-then-process-round c = c.read_heard.ensures ∙ heard_by_other _ _ (λ e. omega arith)

pub returns-then-heard-ne0 : goal.returns-then-heard-ne0
unfolding messages_as heard_as
returns-then-heard-ne0 c = heard_by_own_bytes _ _ (omega arith) (λ e. omega arith)

pub returns : goal.returns
unfolding messages_as heard_as
returns c = heard_by_own _ _ (omega arith) (omega arith)
