-- `simulate::answer_text` meets its contract: each answer of running is a law of Answered. Assumes nothing.
use Rattle.std.proofs.Common.{rules}
use Rattle.answers.specs.ResultLine.{result_size}
use Rattle.simulate.proofs.Answered.{ok_written, ok_fits, err_written}
use Rattle.simulate.proofs.answer_text.Goals as goal

pub put_refusal-requires : goal.put_refusal-requires
unfolding result_size
put_refusal-requires c = search rules

pub returns-in-Ok-clause-upper_bound : goal.returns-in-Ok-clause-upper_bound
returns-in-Ok-clause-upper_bound c = ok_fits _ _ _ _ c.requires c.run_ticket.ensures _ c.in-Ok.is

pub returns-in-Ok-clause-out_after : goal.returns-in-Ok-clause-out_after
returns-in-Ok-clause-out_after c = ok_written _ _ _ _ c.requires c.run_ticket.ensures _ c.in-Ok.is

pub returns-in-Err-clause-upper_bound : goal.returns-in-Err-clause-upper_bound
unfolding result_size
returns-in-Err-clause-upper_bound c = search rules

pub returns-in-Err-clause-out_after : goal.returns-in-Err-clause-out_after
returns-in-Err-clause-out_after c =
    err_written _ _ _ _ c.requires c.run_ticket.ensures _ c.in-Err.is _ _ (rw (c.from.ensures) at c.put_refusal.ensures)
