-- What an operation's reply stands for, in the papers' numbers (document 01, 'The forms we use', last paragraph), and what the operations that write promise.
use Rattle.std.specs.Prelude.{List, ◌≡◌, ℕ, length, Result, Ok, Err}
use Rattle.general.specs.Answer.{Answer, accepted, refused, and_then}
use Rattle.answers.specs.Running.{running, buffer_after}
use Rattle.answers.specs.Reason.{reasons}
use Rattle.refusals.specs.Number.{number_of}
use Rattle.refusals.specs.declared.Refused.{Refused as RefusedLine}

-- What is given, a number; or the number of a refusal and its line.
pub data Reply : Type 0 where
  Given : ℕ → Reply
  Refused : (number line : ℕ) → Reply

-- The reply that a result of the code is.
unfoldable pub reply_of : Result ℕ RefusedLine → Reply
reply_of (Ok k) = Given k
reply_of (Err e) = Refused (number_of e.refusal) e.line

-- The reply that a result of the code is whose value stands for a number.
unfoldable pub reply_by : {A : Type 0} → (number : A → ℕ) → Result A RefusedLine → Reply
reply_by number (Ok a) = Given (number a)
reply_by number (Err e) = Refused (number_of e.refusal) e.line

-- A number, or a refusal with its line.
unfoldable pub answer_by : Reply → Answer ℕ
answer_by (Given k) = accepted k
answer_by (Refused number line) = refused number line

-- What an operation that writes replies: how many bytes it has written.
abbrev pub size_of : Answer (List ℕ) → Answer ℕ
size_of answer = and_then answer (λ written. accepted (length written))

-- An operation that writes, on a buffer that held `before`, gives this reply and leaves `after`, where `answer` is by the room that there is.
pub record Writing (answer : (room : ℕ) → Answer (List ℕ)) (before after : List ℕ) (reply : Reply) : Type 0 where
  pub answered : answer_by reply ≡ size_of (answer (length before))
  pub buffer : after ≡ buffer_after (answer (length before)) before

-- Running a text into a buffer, and asking for all its reasons.
abbrev pub Ran : (text before after : List ℕ) → Reply → Type 0
Ran text before after reply = Writing (running text) before after reply

abbrev pub Explained : (text before after : List ℕ) → Reply → Type 0
Explained text before after reply = Writing (reasons text) before after reply
