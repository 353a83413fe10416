-- `part::closing::close_on` meets its contract: a law for each way. Assumes nothing.
use Rattle.std.proofs.Common.{ap, ◌∙◌, arith}
use Rattle.part_frames.specs.code.Heard.{messages_as}
use Rattle.part.proofs.Closed.{closed_own, closed_nothing, closed_data, closed_commit}
use Rattle.part.proofs.closing.close_on.Goals as goal

pub returns-then-process-round : goal.returns-then-process-round
returns-then-process-round c = c.decide.ensures ∙ closed_own _ _ _ (omega arith) (omega arith) c.number_at-value.ensures

pub returns-in-Nothing : goal.returns-in-Nothing
unfolding messages_as
returns-in-Nothing c =
    c.go_on.ensures
    ∙ closed_nothing _ _ _ (λ e. omega arith) (omega arith) c.number_at-value-in-Nothing.ensures (ap messages_as c.in-Nothing.is)

pub returns-in-Estimate : goal.returns-in-Estimate
unfolding messages_as
returns-in-Estimate c = c.go_on-in-Estimate.ensures ∙ closed_data _ _ _ (λ e. omega arith) (ap messages_as c.in-Estimate.is)

pub returns-in-EstimateAndCommit : goal.returns-in-EstimateAndCommit
unfolding messages_as
returns-in-EstimateAndCommit c =
    c.decide-in-EstimateAndCommit.ensures ∙ closed_commit _ _ _ (λ e. omega arith) (ap messages_as c.in-EstimateAndCommit.is)
