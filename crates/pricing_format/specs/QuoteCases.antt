-- Quotes for tickets, from text to pence (document 02, Paper 9): the figures of the request, which processes have a quote, which refusal comes first, and the
-- numbers that a C caller is answered.
use Rattle.std.specs.Prelude.{List, [], ◌∷◌, map, ◌≡◌, ℕ, length, replicate}
use Prim.Native.String.{String}
use Rattle.general.specs.Answer.{Answer, accepted, refused}
use Rattle.text.specs.TextOf.{text_of}
use Rattle.answers.specs.Table.{case1, case5, case6, case7, case8, case9, case12}
use Rattle.answers.specs.AnswerCases.{RefusalRow, refusal_rows}
use Rattle.pricing_format.specs.Quoting.{quoting}
use Rattle.pricing_format.specs.QuoteCall.{place_after, quote_code, refusal_number}

-- Case 1 with another proposal of process 1, on which all that decide then decide.
unfoldable pub proposing : (line : String) → List ℕ
proposing line =
    text_of ("010402" ∷ line ∷ "020200000014" ∷ "02030000001E" ∷ "020400000028" ∷ "03010102000000000000000001" ∷ "04" ∷ [])

-- A process that is asked for with these costs, and what is answered.
pub record Asked : Type 0 where
  pub process : ℕ
  pub costs : List ℕ
  pub answer : Answer ℕ

abbrev pub ask : (process : ℕ) → (costs : List ℕ) → Answer ℕ → Asked
ask process costs answer = record { process = process; costs = costs; answer = answer }

-- What is answered on a text to a list of such questions, and what the list says.
unfoldable pub answers_on : (text : List ℕ) → List Asked → List (Answer ℕ)
answers_on text asked = map (λ (q : Asked). quoting text q.costs q.process) asked

unfoldable pub answers_in : List Asked → List (Answer ℕ)
answers_in asked = map (λ (q : Asked). q.answer) asked

-- 10 % of overhead and 5 % of markup, 03E801F4: of processes 2, 3 and 4, of which the last decides a round before the others.
unfoldable pub asked_of_ten_and_five : List Asked
asked_of_ten_and_five =
    ask 2 (12345 ∷ []) (accepted 14259) ∷ ask 3 (12345 ∷ []) (accepted 14259) ∷ ask 4 (12345 ∷ []) (accepted 14259)
    ∷ ask 2 (5 ∷ []) (accepted 6) ∷ ask 4 (12345 ∷ 5 ∷ []) (accepted 14265) ∷ ask 2 (4 ∷ 4 ∷ 4 ∷ []) (accepted 12) ∷ ask 2 (0 ∷ []) (accepted 0) ∷ []

-- Case 1, whose processes decide 0000000A; process 1 crashes. The numbers are never cut: 258 is 2 in eight bits, 65538 in sixteen, and 4294967298 in 32.
unfoldable pub asked_of_case1 : List Asked
asked_of_case1 =
    ask 2 (100000 ∷ []) (accepted 100100) ∷ ask 4 (100000 ∷ []) (accepted 100100) ∷ ask 2 (replicate 200 0) (accepted 0)
    ∷ ask 2 (1000000000 ∷ []) (accepted 1001000000)
    -- 16: crashed, process 0, process 5 and beyond
    ∷ ask 1 (100000 ∷ []) (refused 16 0) ∷ ask 0 (100000 ∷ []) (refused 16 0) ∷ ask 5 (100000 ∷ []) (refused 16 0) ∷ ask 64 (100000 ∷ []) (refused 16 0)
    ∷ ask 65 (5 ∷ []) (refused 16 0) ∷ ask 258 (5 ∷ []) (refused 16 0) ∷ ask 65538 (5 ∷ []) (refused 16 0) ∷ ask 4294967298 (5 ∷ []) (refused 16 0)
    ∷ ask 18446744073709551615 (5 ∷ []) (refused 16 0)
    -- 14 and 15
    ∷ ask 2 [] (refused 14 0) ∷ ask 2 (replicate 201 0) (refused 14 0) ∷ ask 2 (1000000001 ∷ []) (refused 15 0) ∷ ask 2 (0 ∷ 1000000001 ∷ []) (refused 15 0)
    ∷ ask 2 (4294967296 ∷ []) (refused 15 0) ∷ ask 2 (18446744073709551615 ∷ []) (refused 15 0)
    -- 14 before 15 and 16, and 15 before 16
    ∷ ask 1 [] (refused 14 0) ∷ ask 0 [] (refused 14 0) ∷ ask 2 (replicate 201 1000000001) (refused 14 0) ∷ ask 1 (1000000001 ∷ []) (refused 15 0)
    ∷ ask 5 (1000000001 ∷ []) (refused 15 0) ∷ []

pub record QuoteCases : Type 0 where
  pub figures : answers_on (proposing "020103E801F4") asked_of_ten_and_five ≡ answers_in asked_of_ten_and_five
  pub questions : length asked_of_ten_and_five ∷ length asked_of_case1 ∷ [] ≡ 7 ∷ 24 ∷ []
  pub of_case1 : answers_on (text_of case1.ticket) asked_of_case1 ≡ answers_in asked_of_case1
  -- case 5 decides 20, not what process 4 was sent first; case 6 decides 30; process 4 of case 7 has an idle line and quotes; of case 9 process 10 alone does
  pub other_runs : quoting (text_of case5.ticket) (100000 ∷ []) 4 ∷ quoting (text_of case6.ticket) (100000 ∷ []) 4
      ∷ quoting (text_of case7.ticket) (100000 ∷ []) 4 ∷ quoting (text_of case9.ticket) (100000 ∷ []) 9
      ∷ quoting (text_of case9.ticket) (100000 ∷ []) 10 ∷ []
      ≡ accepted 100200 ∷ accepted 100300 ∷ accepted 100100 ∷ refused 16 0 ∷ accepted 100100 ∷ []
  -- all four of case 8 quote, and there is no process 0 before them and no process 5 behind them
  pub all_quote : map (quoting (text_of case8.ticket) (100000 ∷ [])) (0 ∷ 1 ∷ 2 ∷ 3 ∷ 4 ∷ 5 ∷ [])
      ≡ refused 16 0 ∷ accepted 100100 ∷ accepted 100100 ∷ accepted 100100 ∷ accepted 100100 ∷ refused 16 0 ∷ []
  -- the largest quote
  pub largest : quoting (proposing "0201FFFFFFFF") (replicate 200 1000000000) 2 ≡ accepted 11411072450000
  -- a refused text has its own refusal, whatever is asked for: 14 to 16 come after 1 to 8
  pub before14 : map (λ (row : RefusalRow). quoting row.text [] 0) refusal_rows
      ≡ refused 1 0 ∷ refused 2 1 ∷ refused 3 2 ∷ refused 4 1 ∷ refused 5 3 ∷ refused 6 8 ∷ refused 7 6 ∷ refused 8 6 ∷ refused 2 67 ∷ []
  pub before15 : map (λ (row : RefusalRow). quoting row.text (1000000001 ∷ []) 1) refusal_rows
      ≡ refused 1 0 ∷ refused 2 1 ∷ refused 3 2 ∷ refused 4 1 ∷ refused 5 3 ∷ refused 6 8 ∷ refused 7 6 ∷ refused 8 6 ∷ refused 2 67 ∷ []
  -- to a C caller: 0 where there is a quote, refusals 14, 15 and 16 of no line, refusal 8 at line 6; of a state the number alone
  pub codes : quote_code (quoting (text_of case1.ticket) (5 ∷ []) 2) ∷ quote_code (quoting (text_of case1.ticket) [] 2)
      ∷ quote_code (quoting (text_of case1.ticket) (1000000001 ∷ []) 2) ∷ quote_code (quoting (text_of case1.ticket) (5 ∷ []) 1)
      ∷ quote_code (quoting (text_of case12.ticket) (5 ∷ []) 2) ∷ []
      ≡ 0 ∷ 917504 ∷ 983040 ∷ 1048576 ∷ 524294 ∷ []
  pub numbers : map refusal_number (accepted 14265 ∷ accepted 0 ∷ refused 10 0 ∷ refused 14 0 ∷ refused 15 0 ∷ refused 16 0 ∷ []) ≡ 0 ∷ 0 ∷ 10 ∷ 14 ∷ 15 ∷ 16 ∷ []
  -- in the place, which held 7
  pub place : place_after (quoting (proposing "020103E801F4") (12345 ∷ []) 2) 7 ∷ place_after (quoting (proposing "020103E801F4") (12345 ∷ []) 1) 7 ∷ []
      ≡ 14259 ∷ 7 ∷ []
