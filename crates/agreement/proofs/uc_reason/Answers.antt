-- `agreement::uc_reason` meets its contract. Assumes nothing.
use Rattle.std.proofs.Common.{ap, ◌∙◌}
use Rattle.answers.specs.Code.{number_code}
use Rattle.agreement.proofs.Codes.{ok_reason, err_reason}
use Rattle.agreement.proofs.uc_reason.Goals as goal

pub returns-in-Ok : goal.returns-in-Ok
returns-in-Ok c = c.from-in-Ok.ensures ∙ c.from.ensures ∙ ok_reason _ _ c.in-Ok.is ∙ ap number_code c.reason_of.ensures.value

pub returns-in-Err : goal.returns-in-Err
returns-in-Err c = err_reason _ _ _ c.in-Err.is c.own_code.ensures ∙ ap number_code c.reason_of.ensures.value
