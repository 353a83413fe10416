-- `running::run_ticket` meets its contract: the ticket is refused, or its instance is run. Assumes nothing.
use Rattle.std.proofs.Common.{Err, refl}
use Rattle.refusals.specs.Answered.{answer_of}
use Rattle.ticket.proofs.ReadAs.{then_accepted, then_refused}
use Rattle.answers.specs.Running.{result_in, running}
use Rattle.answers.proofs.Replies.{writing_err, writing_same}
use Rattle.running.proofs.run_ticket.Goals as goal

pub returns-in-Ok : goal.returns-in-Ok
unfolding running answer_of
returns-in-Ok c =
    writing_same _ _ _ _ _ (then_accepted _ (result_in _) c.in-Ok.instance (rw c.in-Ok.is at c.read.ensures)) c.run_instance.ensures

pub returns-in-Err : goal.returns-in-Err
unfolding running answer_of
returns-in-Err c =
    let refused = then_refused _ (result_in _) (λ k. k) _ (rw c.in-Err.is at c.read.ensures) (Err _) refl in
    writing_err _ _ _ refused (Err _) refl
