-- The marked cases of document 01, 'Worked runs': each ticket's lines, the lines that the program writes for it, with the two bytes that document 02, Paper 2,
-- adds to each line 11, and with the messages counted as Paper 4 says; what settling answers on it (Paper 6), and the reasons
-- (Paper 7).
use Rattle.std.specs.Prelude.{List, [], ◌∷◌, ◌++◌, ℕ}
use Prim.Native.String.{String}
use Rattle.general.specs.Answer.{Answer, accepted, refused}
use Rattle.ticket_format.specs.Openings.{opening, opening64}

-- A ticket and the result or the refusal that it gets, under document 01's number, or from 13 on that of a further run, from 23 on in small letters.
pub record Case : Type 0 where
  pub number : ℕ
  pub ticket : List String
  pub output : List String
  -- the settling round, or the refusal
  pub settled : Answer ℕ
  -- the reasons, a line of digits for each round, in which process p stands at place p - 1; none of a refused ticket
  pub reasons : List String

abbrev pub case_of : ℕ → (ticket output : List String) → (settled : Answer ℕ) → (reasons : List String) → Case
case_of number ticket output settled reasons = record { number = number; ticket = ticket; output = output; settled = settled; reasons = reasons }

-- Case 1's header and proposals with one failure line.
abbrev pub with_failure : ℕ → (line : String) → (output : List String) → (settled : Answer ℕ) → (reasons : List String) → Case
with_failure number line output settled reasons = case_of number (opening ++ (line ∷ "04" ∷ [])) output settled reasons

-- Case 1: process 1 crashes after one commit.
abbrev pub case1 : Case
case1 =
    case_of 1 ("010402" ∷ "02010000000A" ∷ "020200000014" ∷ "02030000001E" ∷ "020400000028" ∷ "03010102000000000000000001" ∷ "04" ∷ [])
    ("11010201000000000301" ∷ "110201020000000A0101" ∷ "110301020000000A0000" ∷ "110401010000000A0000" ∷ "1202010200040002" ∷ []) (accepted 1)
    ("6332" ∷ "7127" ∷ [])

-- Case 2: one process.
abbrev pub case2 : Case
case2 =
    case_of 2 ("010100" ∷ "02010000000A" ∷ "04" ∷ [])
    ("110101010000000A0000" ∷ "1201000100000000" ∷ []) (accepted 1) ("1" ∷ [])

-- Case 3: case 1 with count 3.
abbrev pub case3 : Case
case3 =
    with_failure 3 "03010102000000000000000003"
    ("11010201000000000303" ∷ "110201010000000A0000" ∷ "110301010000000A0000" ∷ "110401010000000A0000" ∷ "1201010100030003" ∷ []) (accepted 1) ("6222" ∷ [])

-- Case 4: process 1 crashes while sending data, which reaches process 2 alone.
abbrev pub case4 : Case
case4 =
    with_failure 4 "03010101000000000000000200"
    ("11010201000000000100" ∷ "110201020000000A0202" ∷ "110301020000000A0000" ∷ "110401020000000A0000" ∷ "1202010200030002" ∷ []) (accepted 2)
    ("6355" ∷ "7122" ∷ [])

-- Case 5: the same, and it reaches process 4 alone.
abbrev pub case5 : Case
case5 =
    with_failure 5 "03010101000000000000000800"
    ("11010201000000000100" ∷ "11020102000000140202" ∷ "11030102000000140000" ∷ "11040102000000140000" ∷ "1202010200030002" ∷ []) (accepted 2)
    ("6553" ∷ "7122" ∷ [])

-- Case 6: processes 1 and 2 crash before sending in round 1.
abbrev pub case6 : Case
case6 =
    case_of 6 (opening ++ ("03010100000000000000000000" ∷ "03020100000000000000000000" ∷ "04" ∷ []))
    ("11010201000000000000" ∷ "11020201000000000000" ∷ "110301030000001E0101" ∷ "110401030000001E0000" ∷ "1203020200010001" ∷ []) (accepted 3)
    ("6655" ∷ "7744" ∷ "7712" ∷ [])

-- Case 7: case 1 with an idle failure line of process 4.
abbrev pub case7 : Case
case7 =
    case_of 7 (opening ++ ("03010102000000000000000001" ∷ "03040200000000000000000000" ∷ "04" ∷ []))
    case1.output (accepted 1) ("6332" ∷ "7127" ∷ [])

-- Case 8: only an idle failure line, of process 3.
abbrev pub case8 : Case
case8 =
    with_failure 8 "03030200000000000000000000"
    ("110101010000000A0303" ∷ "110201010000000A0000" ∷ "110301010000000A0000" ∷ "110401010000000A0000" ∷ "1201000100030003" ∷ []) (accepted 1) ("1222" ∷ [])

-- Case 9: of 10 processes 7 speak; of their 42 data messages 24 count, and of their 21 commits 3, which meets the bound on commits exactly.
abbrev pub case9 : Case
case9 =
    case_of 9 ("010A09" ∷ "02010000000A" ∷ "020200000014" ∷ "02030000001E" ∷ "020400000028" ∷ "020500000032" ∷ "02060000003C" ∷ "020700000046"
    ∷ "020800000050" ∷ "02090000005A" ∷ "020A00000064" ∷ "03010102000000000000000003" ∷ "03020202000000000000000003"
    ∷ "03030302000000000000000003" ∷ "03040402000000000000000003" ∷ "03050502000000000000000003" ∷ "03060602000000000000000003"
    ∷ "03070702000000000000000003" ∷ "03080100000000000000000000" ∷ "03090100000000000000000000" ∷ "04" ∷ [])
    ("11010201000000000903" ∷ "11020202000000000500" ∷ "11030203000000000400" ∷ "11040204000000000300" ∷ "11050205000000000200" ∷ "11060206000000000100"
    ∷ "11070207000000000000" ∷ "11080201000000000000" ∷ "11090201000000000000" ∷ "110A01010000000A0000" ∷ "1207090700180003" ∷ []) (accepted 1)
    ("6333333662" ∷ "7633333777" ∷ "7763333777" ∷ "7776333777" ∷ "7777633777" ∷ "7777763777" ∷ "7777776777" ∷ [])

-- Case 10: n = 65: refusal 4, at line 1.
abbrev pub case10 : Case
case10 =
    case_of 10 ("014102" ∷ "02010000000A" ∷ "020200000014" ∷ "02030000001E" ∷ "020400000028" ∷ "04" ∷ [])
    ("1F040001" ∷ []) (refused 4 1) []

-- Case 10's other half: n = 64 passes.
abbrev pub case10_passes : Case
case10_passes =
    case_of 10 (opening64 ++ ("04" ∷ []))
    ("11010101000000013F3F" ∷ "11020101000000010000" ∷ "11030101000000010000" ∷ "11040101000000010000" ∷ "11050101000000010000" ∷ "11060101000000010000"
    ∷ "11070101000000010000" ∷ "11080101000000010000" ∷ "11090101000000010000" ∷ "110A0101000000010000" ∷ "110B0101000000010000" ∷ "110C0101000000010000"
    ∷ "110D0101000000010000" ∷ "110E0101000000010000" ∷ "110F0101000000010000" ∷ "11100101000000010000" ∷ "11110101000000010000" ∷ "11120101000000010000"
    ∷ "11130101000000010000" ∷ "11140101000000010000" ∷ "11150101000000010000" ∷ "11160101000000010000" ∷ "11170101000000010000" ∷ "11180101000000010000"
    ∷ "11190101000000010000" ∷ "111A0101000000010000" ∷ "111B0101000000010000" ∷ "111C0101000000010000" ∷ "111D0101000000010000" ∷ "111E0101000000010000"
    ∷ "111F0101000000010000" ∷ "11200101000000010000" ∷ "11210101000000010000" ∷ "11220101000000010000" ∷ "11230101000000010000" ∷ "11240101000000010000"
    ∷ "11250101000000010000" ∷ "11260101000000010000" ∷ "11270101000000010000" ∷ "11280101000000010000" ∷ "11290101000000010000" ∷ "112A0101000000010000"
    ∷ "112B0101000000010000" ∷ "112C0101000000010000" ∷ "112D0101000000010000" ∷ "112E0101000000010000" ∷ "112F0101000000010000" ∷ "11300101000000010000"
    ∷ "11310101000000010000" ∷ "11320101000000010000" ∷ "11330101000000010000" ∷ "11340101000000010000" ∷ "11350101000000010000" ∷ "11360101000000010000"
    ∷ "11370101000000010000" ∷ "11380101000000010000" ∷ "11390101000000010000" ∷ "113A0101000000010000" ∷ "113B0101000000010000" ∷ "113C0101000000010000"
    ∷ "113D0101000000010000" ∷ "113E0101000000010000" ∷ "113F0101000000010000" ∷ "11400101000000010000" ∷ "12010001003F003F" ∷ []) (accepted 1)
    ("1222222222222222222222222222222222222222222222222222222222222222" ∷ [])

-- Case 11: t = n: refusal 4, at line 1.
abbrev pub case11 : Case
case11 =
    case_of 11 ("010404" ∷ "02010000000A" ∷ "020200000014" ∷ "02030000001E" ∷ "020400000028" ∷ "04" ∷ [])
    ("1F040001" ∷ []) (refused 4 1) []

-- Case 12: process 3, round 2, step 02: refusal 8, at line 6.
abbrev pub case12 : Case
case12 =
    with_failure 12 "03030202000000000000000000" ("1F080006" ∷ []) (refused 8 6) []

-- All of them, in document 01's order; case 10 has two halves.
unfoldable pub cases : List Case
cases = case1 ∷ case2 ∷ case3 ∷ case4 ∷ case5 ∷ case6 ∷ case7 ∷ case8 ∷ case9 ∷ case10 ∷ case10_passes ∷ case11 ∷ case12 ∷ []
