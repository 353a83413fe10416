-- For which processes and rounds a reason is given, each limit from both sides, and the room that all reasons need (document 02, Paper 7: "Refusal 13, after 1
-- to 8: station outside 1 to n, or round outside 1 to the run's rounds"); and the numbers that a C caller is answered (docs/DECISIONS.md, S5).
use Rattle.std.specs.Prelude.{List, [], ◌∷◌, map, ◌≡◌, ℕ, length}
use Rattle.general.specs.Answer.{Answer, accepted, refused}
use Rattle.answers.specs.Reason.{reason, reasons}
use Rattle.answers.specs.Code.{size_code, number_code}
use Rattle.text.specs.TextOf.{text_of}
use Rattle.answers.specs.Table.{case1, case3, case12}
use Rattle.answers.specs.AnswerCases.{RefusalRow, refusal_rows}

-- A process and a round that are asked for, and what is answered.
pub record Asked : Type 0 where
  pub process : ℕ
  pub round : ℕ
  pub answer : Answer ℕ

abbrev pub ask : (process round : ℕ) → Answer ℕ → Asked
ask process round answer = record { process = process; round = round; answer = answer }

-- Of case 1, which has four processes and two of t + 1 = 3 rounds. The numbers are never cut: 257 is 1 in eight bits, 65537 in sixteen, and 4294967297 in 32.
unfoldable pub asked_of_case1 : List Asked
asked_of_case1 =
    ask 1 1 (accepted 6) ∷ ask 4 1 (accepted 2) ∷ ask 1 2 (accepted 7) ∷ ask 4 2 (accepted 7)
    ∷ ask 0 1 (refused 13 0) ∷ ask 5 1 (refused 13 0) ∷ ask 1 0 (refused 13 0) ∷ ask 1 3 (refused 13 0)
    ∷ ask 0 0 (refused 13 0) ∷ ask 5 3 (refused 13 0) ∷ ask 64 1 (refused 13 0) ∷ ask 1 64 (refused 13 0)
    ∷ ask 257 1 (refused 13 0) ∷ ask 1 257 (refused 13 0) ∷ ask 65537 1 (refused 13 0) ∷ ask 1 65537 (refused 13 0)
    ∷ ask 4294967297 1 (refused 13 0) ∷ ask 1 4294967297 (refused 13 0) ∷ ask 18446744073709551615 1 (refused 13 0)
    ∷ ask 1 18446744073709551615 (refused 13 0) ∷ []

-- What is answered on a text to a list of such questions, and what the list says.
unfoldable pub answers_on : List ℕ → List Asked → List (Answer ℕ)
answers_on text asked = map (λ (q : Asked). reason text q.process q.round) asked

unfoldable pub answers_in : List Asked → List (Answer ℕ)
answers_in asked = map (λ (q : Asked). q.answer) asked

pub record ReasonCases : Type 0 where
  pub questions : length asked_of_case1 ≡ 20
  pub of_case1 : answers_on (text_of case1.ticket) asked_of_case1 ≡ answers_in asked_of_case1
  -- the run of case 3 has one round, and a second is refused
  pub of_case3 : reason (text_of case3.ticket) 2 1 ∷ reason (text_of case3.ticket) 2 2 ∷ [] ≡ accepted 2 ∷ refused 13 0 ∷ []
  -- a refused text has its own refusal, whatever is asked for: 13 comes after 1 to 8, and so does 9
  pub before13 : map (λ (row : RefusalRow). reason row.text 0 0) refusal_rows
      ≡ refused 1 0 ∷ refused 2 1 ∷ refused 3 2 ∷ refused 4 1 ∷ refused 5 3 ∷ refused 6 8 ∷ refused 7 6 ∷ refused 8 6 ∷ refused 2 67 ∷ []
  pub before9 : map (λ (row : RefusalRow). reasons row.text 0) refusal_rows
      ≡ refused 1 0 ∷ refused 2 1 ∷ refused 3 2 ∷ refused 4 1 ∷ refused 5 3 ∷ refused 6 8 ∷ refused 7 6 ∷ refused 8 6 ∷ refused 2 67 ∷ []
  -- case 1 has eight reasons
  pub room : reasons (text_of case1.ticket) 7 ∷ reasons (text_of case1.ticket) 8 ∷ []
      ≡ refused 9 0 ∷ accepted (6 ∷ 3 ∷ 3 ∷ 2 ∷ 7 ∷ 1 ∷ 2 ∷ 7 ∷ []) ∷ []
  -- to a C caller: reason 7, refusal 13, refusal 8 at line 6; eight bytes, refusal 9
  pub codes : number_code (reason (text_of case1.ticket) 4 2) ∷ number_code (reason (text_of case1.ticket) 5 2)
      ∷ number_code (reason (text_of case12.ticket) 0 0) ∷ size_code (reasons (text_of case1.ticket) 8) ∷ size_code (reasons (text_of case1.ticket) 7) ∷ []
      ≡ 7 ∷ 851968 ∷ 524294 ∷ 8 ∷ 589824 ∷ []
