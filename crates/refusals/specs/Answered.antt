-- What the code's results stand for, in the papers' numbers (document 01, 'The forms we use', last paragraph).
use Rattle.std.specs.Prelude.{ℕ, Result, Ok, Err}
use Rattle.general.specs.Answer.{Answer, accepted, refused}
use Rattle.refusals.specs.Number.{number_of}
use Rattle.refusals.specs.declared.Refusal.{Refusal}
use Rattle.refusals.specs.declared.Refused.{Refused}

-- Accepted with what is given, as `value` has it; or the number of the refusal and its line.
unfoldable pub answer_of : {A B : Type 0} → (value : A → B) → Result A Refused → Answer B
answer_of value (Ok a) = accepted (value a)
answer_of value (Err e) = refused (number_of e.refusal) e.line

-- The number of the refusal, 0 for none.
unfoldable pub refusal_in : {A : Type 0} → Result A Refusal → ℕ
refusal_in (Ok a) = 0
refusal_in (Err refusal) = number_of refusal
