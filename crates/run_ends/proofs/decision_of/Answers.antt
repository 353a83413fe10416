-- `decision_of` meets its contract: the ticket is refused, or its instance is run. Assumes nothing.
use Rattle.std.proofs.Common.{Err, refl, ◌∙◌, ap}
use Rattle.general.specs.Answer.{accepted}
use Rattle.refusals.specs.Answered.{answer_of}
use Rattle.ticket.proofs.ReadAs.{then_accepted, then_refused}
use Rattle.run_ends.specs.code.Decision.{decided_in, deciding}
use Rattle.run_ends.proofs.decision_of.Goals as goal

pub returns-in-Ok : goal.returns-in-Ok
unfolding deciding answer_of
returns-in-Ok c =
    ap accepted c.decision_in.ensures
    ∙ then_accepted _ (λ x. accepted (decided_in _ x)) c.in-Ok.instance (rw c.in-Ok.is at c.read.ensures)

pub returns-in-Err : goal.returns-in-Err
unfolding deciding
returns-in-Err c = then_refused _ (λ x. accepted (decided_in _ x)) (λ d. d) _ (rw c.in-Err.is at c.read.ensures) (Err _) refl
