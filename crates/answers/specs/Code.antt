-- The numbers by which a C caller reads an answer. Document 01 leaves them open (include/agreement.h; docs/DECISIONS.md, S5), and the claims over C calls
-- (`Demand1`, `Written`, `ReasonClaim` and others of demands/specs) are stated in them.
use Rattle.std.specs.Prelude.{List, ◌≡◌, ℕ, ◌+◌, ◌*◌, length}
use Rattle.general.specs.Answer.{Answer, accepted, refused}
use Rattle.answers.specs.Running.{running, buffer_after}
use Rattle.answers.specs.Reason.{reasons}

-- From here on a code is a refusal's.
abbrev pub refusals_from : ℕ
refusals_from = 65536

-- From here on a code names a place.
abbrev pub places_from : ℕ
places_from = 4294967296

-- A refusal as one number: the place of the refused ticket among those of the call, counted from 1, the number and the line. A refusal that concerns no
-- ticket of several has place 0.
abbrev pub placed_code : (place number line : ℕ) → ℕ
placed_code place number line = places_from * place + refusals_from * number + line

-- A call that takes one ticket names no place.
abbrev pub refusal_code : (number line : ℕ) → ℕ
refusal_code number line = placed_code 0 number line

-- An answer as one number: that which `value` gives of what is accepted, or the refusal.
unfoldable pub code_of : {A : Type 0} → (value : A → ℕ) → Answer A → ℕ
code_of value (accepted a) = value a
code_of value (refused number line) = refusal_code number line

-- Of a call that writes (running; all reasons of a run): how many bytes it has written.
abbrev pub size_code : Answer (List ℕ) → ℕ
size_code answer = code_of length answer

-- Of a call that answers a number (settling; the reason of a process in a round): the number itself.
abbrev pub number_code : Answer ℕ → ℕ
number_code answer = code_of (λ k. k) answer

-- A call that writes, on a buffer that held `before`, answers this code and leaves `after`, where `answer` is by the room that there is.
pub record WritingCall (answer : (room : ℕ) → Answer (List ℕ)) (before after : List ℕ) (code : ℕ) : Type 0 where
  pub answered : code ≡ size_code (answer (length before))
  pub buffer : after ≡ buffer_after (answer (length before)) before

-- The contract of `uc_run`, and that of `uc_reasons`.
abbrev pub RunCall : (text before after : List ℕ) → (code : ℕ) → Type 0
RunCall text before after code = WritingCall (running text) before after code

abbrev pub ReasonsCall : (text before after : List ℕ) → (code : ℕ) → Type 0
ReasonsCall text before after code = WritingCall (reasons text) before after code
