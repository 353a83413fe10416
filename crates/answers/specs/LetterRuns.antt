-- Runs of tickets with small letters (document 02, Paper 1: "Digits of either case are accepted, mixed too; output keeps capitals"), with what the program
-- writes for them by the second implementation.
use Rattle.std.specs.Prelude.{List, [], ◌∷◌}
use Rattle.general.specs.Answer.{accepted}
use Rattle.answers.specs.Table.{Case, case_of, case1}

-- Case 1 in mixed letters.
abbrev pub case1_mixed : Case
case1_mixed =
    case_of 23 ("010402" ∷ "02010000000a" ∷ "020200000014" ∷ "02030000001E" ∷ "020400000028" ∷ "03010102000000000000000001" ∷ "04" ∷ [])
    case1.output (accepted 1) ("6332" ∷ "7127" ∷ [])

-- One process whose value has every letter, two of different cases in each byte that has letters; and the same with the cases changed.
abbrev pub small_first : Case
small_first =
    case_of 24 ("010100" ∷ "0201aBcDeF09" ∷ "04" ∷ [])
    ("11010101ABCDEF090000" ∷ "1201000100000000" ∷ []) (accepted 1) ("1" ∷ [])

abbrev pub small_last : Case
small_last =
    case_of 25 ("010100" ∷ "0201AbCdEf09" ∷ "04" ∷ [])
    ("11010101ABCDEF090000" ∷ "1201000100000000" ∷ []) (accepted 1) ("1" ∷ [])

-- A ticket as the planner's export writes it (examples/export.ticket): the data of process 1 reaches processes 2 and 4, two commits of process 2 leave.
abbrev pub export : Case
export =
    case_of 26 ("010502" ∷ "020103e801f4" ∷ "020204b0028a" ∷ "0203038401c2" ∷ "020405dc02ee" ∷ "0205044c0226"
    ∷ "03010101000000000000000a00" ∷ "03020202000000000000000002" ∷ "04" ∷ [])
    ("11010201000000000200" ∷ "11020202000000000302" ∷ "1103010303E801F40000" ∷ "1104010203E801F40000" ∷ "1105010203E801F40000" ∷ "1203020300050002" ∷ [])
    (accepted 2) ("63535" ∷ "76322" ∷ "77177" ∷ [])

unfoldable pub letter_runs : List Case
letter_runs = case1_mixed ∷ small_first ∷ small_last ∷ export ∷ []
