-- `reasons::all_reasons` meets its contract: the ticket is refused, or each reply is a law of Answers, at what the whole run ensures. Assumes nothing.
use Rattle.std.proofs.Common.{Err, ℕ, ◌*◌, arith, refl, sym, ap₂, ◌∙◌}
use Rattle.refusals.specs.Answered.{answer_of}
use Rattle.ticket.proofs.ReadAs.{then_accepted, then_refused}
use Rattle.answers.specs.Reason.{reasons_within, reasons}
use Rattle.refusals.specs.Number.{number_of}
use Rattle.answers.specs.Reply.{reply_of}
use Rattle.answers.proofs.Replies.{writing_err, writing_refused, writing_same}
use Rattle.reasons.proofs.OfRun.{few, rounds_few}
use Rattle.reasons.proofs.Answers.{all_short, all_given}
use Rattle.reasons.proofs.all_reasons.Goals as goal

pub returns-in-Err : goal.returns-in-Err
unfolding reasons answer_of
returns-in-Err c =
    let refused = then_refused _ (reasons_within _) (λ k. k) _ (rw c.in-Err.is at c.read.ensures) (Err _) refl in
    writing_err _ _ _ refused (Err _) refl

pub returns-then-out-size : goal.returns-then-out-size
unfolding reasons reply_of number_of
returns-then-out-size c =
    let read = then_accepted _ (reasons_within _) c.in-Ok.instance (rw c.in-Ok.is at c.read.ensures) in
    rw c.at_line.ensures
    (writing_refused _ _ _ _ (sym (all_short _ _ c.whole_run-run.ensures _ _ (ap₂ (λ (a b : ℕ). a * b) c.from.ensures c.from-2.ensures) c.if-out-size.true ∙ read)))

pub put_reasons-requires : goal.put_reasons-requires
put_reasons-requires c =
    let done = c.whole_run-run.ensures in
    let low = few _ _ done in
    (low, omega (arith, low, rounds_few _ _ done), rw (sym c.from.ensures, sym c.from-2.ensures) c.if-out-size.false)

pub returns : goal.returns
unfolding reasons reply_of
returns c =
    let read = then_accepted _ (reasons_within _) c.in-Ok.instance (rw c.in-Ok.is at c.read.ensures) in
    writing_same _ _ _ _ _ read
    (all_given _ _ c.whole_run-run.ensures _ _ (ap₂ (λ (a b : ℕ). a * b) c.from.ensures c.from-2.ensures) c.if-out-size.false _ c.put_reasons.ensures)
