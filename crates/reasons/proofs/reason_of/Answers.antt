-- `reasons::reason_of` meets its contract: the ticket is refused, or each reply is a law of Answers, at what the whole run ensures. Assumes nothing.
use Rattle.std.proofs.Common.{◌≡◌, Err, refl, arith, sym, ◌∙◌}
use Rattle.refusals.specs.Answered.{answer_of}
use Rattle.refusals.specs.Number.{number_of}
use Rattle.ticket.proofs.ReadAs.{then_accepted, then_refused}
use Rattle.answers.specs.Reason.{reason_in, reason}
use Rattle.answers.proofs.Replies.{replied_by}
use Rattle.coordinator_reason.specs.Number.{number_of_reason}
use Rattle.reasons.proofs.OfRun.{few, rounds_few, reason_by_table}
use Rattle.reasons.proofs.Answers.{tests_passed, reason_unknown, reason_given}
use Rattle.reasons.proofs.reason_of.Goals as goal

pub returns-in-Err : goal.returns-in-Err
unfolding reason
returns-in-Err c =
    let told = then_refused _ (reason_in _ _) number_of_reason _ (rw c.in-Err.is at c.read.ensures) (Err _) refl in
    record { value = told; reply = replied_by number_of_reason _ ∙ told }

pub returns-then-not-is_within : goal.returns-then-not-is_within
unfolding reason answer_of number_of
returns-then-not-is_within c =
    let told : answer_of number_of_reason (Err c.at_line.result) ≡ reason c.args.text.now c.args.process c.args.round =
    rw c.at_line.ensures
    (reason_unknown _ _ c.whole_run-run.ensures _ _ (sym c.is_within.ensures ∙ c.if-not-is_within.true)
    ∙ then_accepted _ (reason_in _ _) c.in-Ok.instance (rw c.in-Ok.is at c.read.ensures)) in
    record { value = told; reply = replied_by number_of_reason _ ∙ told }

pub reason_at-requires : goal.reason_at-requires
reason_at-requires c =
    let run = c.whole_run-run.result in
    let done = c.whole_run-run.ensures in
    let (one, within, first, last) =
    tests_passed c.args.process c.in-Ok.instance.table.now.n c.args.round run.rounds (sym c.is_within.ensures ∙ c.if-not-is_within.false) in
    let low = few _ _ done in
    let rounds = rounds_few _ _ done in
    (one, omega (arith, low, done.processes), first, omega (arith, rounds, low))

pub returns : goal.returns
unfolding reason answer_of
returns c =
    let run = c.whole_run-run.result in
    let done = c.whole_run-run.ensures in
    let tested = sym c.is_within.ensures ∙ c.if-not-is_within.false in
    let (one, within, first, last) = tests_passed c.args.process c.in-Ok.instance.table.now.n c.args.round run.rounds tested in
    let told =
    reason_given _ _ done _ _ tested _
    (c.reason_at.ensures ∙ reason_by_table _ run done _ _ one (omega (arith, within, done.processes)) first last)
    ∙ then_accepted _ (reason_in _ _) c.in-Ok.instance (rw c.in-Ok.is at c.read.ensures) in
    record { value = told; reply = replied_by number_of_reason _ ∙ told }
