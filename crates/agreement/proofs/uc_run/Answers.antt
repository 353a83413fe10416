-- `agreement::uc_run` meets its contract. Assumes nothing.
use Rattle.agreement.proofs.Codes.{ok_code, err_code, writing_call}
use Rattle.agreement.proofs.uc_run.Goals as goal

pub returns-in-Ok : goal.returns-in-Ok
returns-in-Ok c = writing_call _ _ _ _ _ c.run_ticket.ensures (ok_code _ _ c.in-Ok.is)

pub returns-in-Err : goal.returns-in-Err
returns-in-Err c = writing_call _ _ _ _ _ c.run_ticket.ensures (err_code _ _ _ c.in-Err.is c.own_code.ensures)
