-- `agreement::uc_settle` meets its contract. Assumes nothing.
use Rattle.std.proofs.Common.{ap, ◌∙◌}
use Rattle.answers.specs.Code.{number_code}
use Rattle.agreement.proofs.Codes.{ok_code, err_code}
use Rattle.agreement.proofs.uc_settle.Goals as goal

pub returns-in-Ok : goal.returns-in-Ok
returns-in-Ok c = c.from.ensures ∙ ok_code _ _ c.in-Ok.is ∙ ap number_code c.settle.ensures

pub returns-in-Err : goal.returns-in-Err
returns-in-Err c = err_code _ _ _ c.in-Err.is c.own_code.ensures ∙ ap number_code c.settle.ensures
