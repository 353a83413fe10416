-- `agreement::uc_quote` meets its contract. Assumes nothing.
use Rattle.std.proofs.Common.{refl}
use Rattle.answers.specs.Code.{code_of}
use Rattle.answers.specs.Reply.{answer_by, reply_of}
use Rattle.agreement.proofs.Codes.{quote_call, refused_call}
use Rattle.agreement.proofs.uc_quote.Goals as goal

pub returns-in-Ok : goal.returns-in-Ok
unfolding answer_by reply_of code_of
returns-in-Ok c = quote_call _ _ c.quote_of.ensures _ _ _ (rw c.in-Ok.is refl) refl

pub returns-in-Err : goal.returns-in-Err
unfolding answer_by reply_of code_of
returns-in-Err c = refused_call _ _ c.quote_of.ensures _ _ _ _ _ (rw c.in-Err.is refl) c.own_code.ensures
