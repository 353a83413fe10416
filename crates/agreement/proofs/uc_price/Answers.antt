-- `agreement::uc_price` meets its contract. Assumes nothing.
use Rattle.std.proofs.Common.{refl}
use Rattle.pricing_format.specs.QuoteCall.{refusal_number}
use Rattle.answers.specs.Reply.{answer_by, reply_of}
use Rattle.agreement.proofs.Codes.{quote_call, refused_call}
use Rattle.agreement.proofs.uc_price.Goals as goal

pub returns-in-Ok : goal.returns-in-Ok
unfolding answer_by reply_of refusal_number
returns-in-Ok c = quote_call _ _ c.quote_own.ensures _ _ _ (rw c.in-Ok.is refl) refl

pub returns-in-Err : goal.returns-in-Err
unfolding answer_by reply_of refusal_number
returns-in-Err c = refused_call _ _ c.quote_own.ensures _ _ _ c.in-Err.refused.line _ (rw c.in-Err.is refl) c.number.ensures.value
