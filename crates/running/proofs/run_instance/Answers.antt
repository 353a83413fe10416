-- `running::run_instance` meets its contract: the output is too short, or the run that is made, and f of it, give the instance's result. Assumes nothing.
use Rattle.std.proofs.Common.{◌∙◌, arith}
use Rattle.tables.specs.code.InstanceOfTable.{instance_of}
use Rattle.tables.proofs.Places.{processes_of}
use Rattle.refusals.specs.Number.{number_of}
use Rattle.answers.specs.Reply.{reply_of}
use Rattle.running.proofs.Answers.{run_short, run_given}
use Rattle.running.proofs.run_instance.Goals as goal

pub returns-then-out-size : goal.returns-then-out-size
unfolding reply_of number_of
returns-then-out-size c = rw c.at_line.ensures (run_short _ _ _ c.result_size-size.ensures c.if-out-size.true)

pub crash_count-f-requires : goal.crash_count-f-requires
unfolding instance_of
crash_count-f-requires c = (c.args.instance.well_formed.at_most_64, c.run_all-run.ensures.processes ∙ processes_of c.args.instance.table.now)

pub write_result-requires : goal.write_result-requires
unfolding instance_of
write_result-requires c =
    rw (c.run_all-run.ensures.processes)
    (c.args.instance.well_formed.at_most_64, omega (arith, c.result_size-size.ensures, c.if-out-size.false))

pub returns : goal.returns
unfolding reply_of
returns c =
    run_given _ _ _ c.result_size-size.ensures c.args.instance.well_formed c.if-out-size.false _ c.run_all-run.result _ _ c.run_all-run.ensures
    c.crash_count-f.ensures c.write_result.ensures
