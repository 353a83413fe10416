-- `running::settle` meets its contract: the ticket is refused, or its instance settles in a round. Assumes nothing.
use Rattle.std.proofs.Common.{Err, refl, ap, ◌∙◌}
use Rattle.general.specs.Answer.{accepted}
use Rattle.coordinator.specs.Settling.{first_settling}
use Rattle.ticket.proofs.ReadAs.{then_accepted, then_refused}
use Rattle.answers.specs.Settle.{settling}
use Rattle.answers.specs.Reply.{answer_by, reply_of}
use Rattle.answers.proofs.Replies.{replied}
use Rattle.running.proofs.settle.Goals as goal

pub returns-in-Ok : goal.returns-in-Ok
unfolding settling answer_by reply_of
returns-in-Ok c =
    ap accepted c.settling_round.ensures
    ∙ then_accepted _ (λ x. accepted (first_settling x)) c.in-Ok.instance (rw c.in-Ok.is at c.read.ensures)

pub returns-in-Err : goal.returns-in-Err
unfolding settling
returns-in-Err c =
    replied _ ∙ then_refused _ (λ x. accepted (first_settling x)) (λ k. k) _ (rw c.in-Err.is at c.read.ensures) (Err _) refl
