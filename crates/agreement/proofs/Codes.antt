-- The number of each reply. Assumes nothing.
use mathlib.Core.List.{List}
use mathlib.Core.Path.{◌≡◌, refl, ap, ◌∙◌}
use Prim.Native.Nat.{ℕ}
use Rattle.std.specs.Prelude.{Result, Ok, Err}
use Rattle.general.specs.Answer.{Answer, accepted, refused}
use Rattle.answers.specs.Code.{code_of, refusal_code, size_code, number_code, WritingCall}
use Rattle.answers.specs.Reply.{Reply, answer_by, reply_of, size_of, Writing}
use Rattle.refusals.specs.Number.{number_of}
use Rattle.refusals.specs.Answered.{answer_of}
use Rattle.refusals.specs.declared.Refused.{Refused}
use Rattle.coordinator_reason.specs.Number.{number_of_reason}
use Rattle.coordinator_reason.specs.declared.Reason.{Reason}
use Rattle.pricing_format.specs.QuoteCall.{place_after, QuotingCall}

module _ (result : Result ℕ Refused) where
  pub ok_code : (k : ℕ) → result ≡ Ok k → k ≡ number_code (answer_by (reply_of result))
  unfolding answer_by reply_of code_of
  ok_code k e = rw e refl

  pub err_code : (e : Refused) (code : ℕ) → result ≡ Err e → code ≡ refusal_code (number_of e.refusal) e.line
      → code ≡ number_code (answer_by (reply_of result))
  unfolding answer_by reply_of code_of
  err_code e code is c = rw is c

-- The same of a reason.
module _ (result : Result Reason Refused) where
  pub ok_reason : (r : Reason) → result ≡ Ok r → number_of_reason r ≡ number_code (answer_of number_of_reason result)
  unfolding answer_of code_of
  ok_reason r e = rw e refl

  pub err_reason : (e : Refused) (code : ℕ) → result ≡ Err e → code ≡ refusal_code (number_of e.refusal) e.line
      → code ≡ number_code (answer_of number_of_reason result)
  unfolding answer_of code_of
  err_reason e code is c = rw is c

-- Of a call that writes.
size_code_lem : (a : Answer (List ℕ)) → number_code (size_of a) ≡ size_code a
unfolding code_of
size_code_lem (accepted written) = refl
size_code_lem (refused number line) = refl

pub writing_call : (answer : ℕ → Answer (List ℕ)) (before after : List ℕ) (reply : Reply) (code : ℕ) → Writing answer before after reply
    → code ≡ number_code (answer_by reply) → WritingCall answer before after code
writing_call answer before after reply code w c = record { answered = c ∙ ap number_code w.answered ∙ size_code_lem _; buffer = w.buffer }

-- Of a call that quotes; `known` is what its answer is read as.
module _ (known a : Answer ℕ) (same : known ≡ a) (before : ℕ) where
  pub quote_call : (tells : Answer ℕ → ℕ) (pence : ℕ) → known ≡ accepted pence → 0 ≡ tells (accepted pence) → QuotingCall tells a before pence 0
  unfolding place_after
  quote_call tells pence e zero = rw (← same, e) (record { answered = zero; place = refl })

  pub refused_call : (tells : Answer ℕ → ℕ) (number line code : ℕ) → known ≡ refused number line → code ≡ tells (refused number line)
      → QuotingCall tells a before before code
  unfolding place_after
  refused_call tells number line code e told = rw (← same, e) (record { answered = told; place = refl })
