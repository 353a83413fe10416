-- What a C caller reads off the number that a call with a ticket answers, so that answers can be told apart. Document 01 leaves the numbers open
-- (include/agreement.h; docs/DECISIONS.md, S5), and the claims over C calls are stated in them (`Demand1`, demands/specs).
use Rattle.std.specs.Prelude.{List, ◌≡◌, ◌⊎◌, ℕ, ◌/◌, ◌%◌, ◌≤◌, ◌<◌, length}
use Rattle.general.specs.Answer.{Answer, accepted, refused}
use Rattle.answers.specs.ResultLine.{result_size}
use Rattle.answers.specs.Running.{running}
use Rattle.answers.specs.Settle.{settling}
use Rattle.answers.specs.Reason.{reason, reasons}
use Rattle.answers.specs.Code.{refusals_from, places_from, placed_code, code_of}

-- The code of a refusal: its place, its number and its line are read off by division.
pub record TellsRefusal (place number line code : ℕ) : Type 0 where
  pub is_refusal : refusals_from ≤ code
  pub reads_place : code / places_from ≡ place
  pub reads_number : code / refusals_from % refusals_from ≡ number
  pub reads_line : code % refusals_from ≡ line

-- A number from `least` to `most`.
abbrev pub Within : (least most code : ℕ) → Type 0
Within least most code = (least ≤ code) × (code ≤ most)

-- What is read off the code of a call's answer. Where the call accepts, `value` is the number of what it answers, from `least` to `most`; `numbers` are
-- those that it refuses with.
pub record ReadOff {A : Type 0} (value : A → ℕ) (least most : ℕ) (numbers : ℕ → Type 0) (answer : Answer A) : Type 0 where
  -- below `refusals_from` it is the number of what was accepted
  pub is_accepted : code_of value answer < refusals_from
      → (a : A) × (answer ≡ accepted a) × (code_of value answer ≡ value a) × Within least most (code_of value answer)
  -- from there on it is a refusal, with its number and its line
  pub is_refused : refusals_from ≤ code_of value answer
      → (number : ℕ) × (line : ℕ) × (answer ≡ refused number line) × numbers number × TellsRefusal 0 number line (code_of value answer)

-- The numbers of refusals: up to 8, those of reading a ticket; up to 9 where the call writes; and 13 beside the first, where it is asked for a process and
-- a round.
abbrev pub of_ticket : ℕ → Type 0
of_ticket number = Within 1 8 number

abbrev pub of_writing : ℕ → Type 0
of_writing number = Within 1 9 number

abbrev pub of_reason : ℕ → Type 0
of_reason number = of_ticket number ⊎ (number ≡ 13)

-- Every refusal with a place is read off its code, and so is every answer of the four calls (of the fifth that takes a ticket, which quotes: `QuotesApart`,
-- pricing_format/specs).
pub record CodesApart : Type 0 where
  pub placed : (place number line : ℕ) → 1 ≤ number → number < refusals_from → line < refusals_from
      → TellsRefusal place number line (placed_code place number line)
  pub run : (text : List ℕ) (room : ℕ) → ReadOff length (result_size 1) (result_size 64) of_writing (running text room)
  pub settled : (text : List ℕ) → ReadOff (λ r. r) 1 64 of_ticket (settling text)
  pub reason_given : (text : List ℕ) (p r : ℕ) → ReadOff (λ k. k) 1 7 of_reason (reason text p r)
  pub reasons_written : (text : List ℕ) (room : ℕ) → ReadOff length 1 4096 of_writing (reasons text room)
