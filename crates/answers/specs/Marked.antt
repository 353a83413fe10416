-- What the program writes for a marked case, and what document 01 says that it writes ('Worked runs'); what settling answers on it, and the
-- reasons (document 02, Papers 6 and 7).
use Rattle.std.specs.Prelude.{List, [], ◌∷◌, ◌++◌, map, ◌≡◌, ℕ, ◌-◌}
use Prim.Native.String.{String}
use Rattle.general.specs.Text.{ascii}
use Rattle.general.specs.Answer.{Answer, accepted, refused}
use Rattle.answers.specs.Running.{program_writes}
use Rattle.answers.specs.Settle.{settling}
use Rattle.answers.specs.Reason.{reasons}
use Rattle.text.specs.TextOf.{text_of}
use Rattle.answers.specs.Table.{Case, cases}
use Rattle.answers.specs.FurtherRuns.{further_runs}
use Rattle.answers.specs.LetterRuns.{letter_runs}

-- What the program writes for the case's ticket.
unfoldable pub writes : Case → List ℕ
writes c = program_writes (text_of c.ticket)

-- What the case says that it writes.
unfoldable pub expected : Case → List ℕ
expected c = text_of c.output

-- What settling answers on the case's ticket.
unfoldable pub settles : Case → Answer ℕ
settles c = settling (text_of c.ticket)

-- All reasons of the case's ticket, in a buffer that has room for them.
unfoldable pub reasoned : Case → Answer (List ℕ)
reasoned c = reasons (text_of c.ticket) 4096

-- What the case says that they are: the digits of its lines, or the refusal that settling has too.
unfoldable pub digits_of : List String → List ℕ
digits_of [] = []
digits_of (line ∷ lines) = map (λ c. c - 48) (ascii line) ++ digits_of lines

unfoldable pub as_settled : Answer ℕ → List ℕ → Answer (List ℕ)
as_settled (accepted r) digits = accepted digits
as_settled (refused number line) digits = refused number line

unfoldable pub expected_reasons : Case → Answer (List ℕ)
expected_reasons c = as_settled c.settled (digits_of c.reasons)

-- The claim: cases 1 to 12, each of them, are what the definitions give, from the ticket's text to the text written (document 01, 'Worked runs': "Cases 1
-- to 12 are the marked ones"); and so are the further runs and those in small letters.
pub record MarkedCases : Type 0 where
  pub numbers : map (λ (c : Case). c.number) (cases ++ further_runs ++ letter_runs)
      ≡ 1 ∷ 2 ∷ 3 ∷ 4 ∷ 5 ∷ 6 ∷ 7 ∷ 8 ∷ 9 ∷ 10 ∷ 10 ∷ 11 ∷ 12 ∷ 13 ∷ 14 ∷ 15 ∷ 16 ∷ 17 ∷ 18 ∷ 19 ∷ 20 ∷ 21 ∷ 22 ∷ 23 ∷ 24 ∷ 25 ∷ 26 ∷ []
  pub written : map writes (cases ++ further_runs ++ letter_runs) ≡ map expected (cases ++ further_runs ++ letter_runs)
  -- and so is what settling answers (document 02, Paper 6: "Case 1 gives 1")
  pub settled : map settles (cases ++ further_runs ++ letter_runs) ≡ map (λ (c : Case). c.settled) (cases ++ further_runs ++ letter_runs)
  -- and so are the reasons (document 02, Paper 7)
  pub explained : map reasoned (cases ++ further_runs ++ letter_runs) ≡ map expected_reasons (cases ++ further_runs ++ letter_runs)
