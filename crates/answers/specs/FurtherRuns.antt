-- Runs that no marked case has (document 01, 'Worked runs', has cases 1 to 12), with what the program writes for them by the second implementation: of a
-- coordinator that crashes while sending commits, those that send none and two; a set of several processes; a run that ends in a silent round; an idle
-- line of a round above its process; messages that are sent and do not count (document 02, Paper 4); and runs that settle before anyone decides (Paper 6), by
-- a crash or since the proposals are equal, and not where one of two values is 0.
use Rattle.std.specs.Prelude.{List, [], ◌∷◌}
use Rattle.general.specs.Answer.{accepted}
use Rattle.answers.specs.Table.{Case, case_of, with_failure, case8}

-- Case 1 with count 0: all data leaves and no commit.
abbrev pub no_commit : Case
no_commit =
    with_failure 13 "03010102000000000000000000"
    ("11010201000000000300" ∷ "110201020000000A0202" ∷ "110301020000000A0000" ∷ "110401020000000A0000" ∷ "1202010200050002" ∷ []) (accepted 1)
    ("6333" ∷ "7122" ∷ [])

-- Case 1 with count 2: the commits reach processes 4 and 3.
abbrev pub two_commits : Case
two_commits =
    with_failure 14 "03010102000000000000000002"
    ("11010201000000000302" ∷ "110201020000000A0000" ∷ "110301010000000A0000" ∷ "110401010000000A0000" ∷ "1202010200030002" ∷ []) (accepted 1)
    ("6322" ∷ "7177" ∷ [])

-- Case 4 with the set of processes 2 and 4: two data messages leave in round 1.
abbrev pub set_of_two : Case
set_of_two =
    with_failure 15 "03010101000000000000000A00"
    ("11010201000000000200" ∷ "110201020000000A0202" ∷ "110301020000000A0000" ∷ "110401020000000A0000" ∷ "1202010200040002" ∷ []) (accepted 2)
    ("6353" ∷ "7122" ∷ [])

-- Round 2 is silent and the last: its coordinator crashed in round 1, and process 3, the only one up and undecided, crashes in it.
abbrev pub silent_at_last : Case
silent_at_last =
    case_of 16 ("010403" ∷ "02010000000A" ∷ "020200000014" ∷ "02030000001E" ∷ "020400000028"
    ∷ "03010102000000000000000001" ∷ "03020100000000000000000000" ∷ "03030200000000000000000000" ∷ "04" ∷ [])
    ("11010201000000000301" ∷ "11020201000000000000" ∷ "11030202000000000000" ∷ "110401010000000A0000" ∷ "1202030100030001" ∷ []) (accepted 1)
    ("6632" ∷ "7767" ∷ [])

-- A line of process 1 whose round is above its number: it has decided by then, as in case 8, and the line is idle.
abbrev pub after_its_round : Case
after_its_round =
    with_failure 17 "03010200000000000000000000" case8.output (accepted 1) ("1222" ∷ [])

-- In round 2 data are sent to the set of processes 3 to 6, and those to processes 3 and 4 count: process 4 crashes in this very round, process 5 crashed in
-- round 1, and process 6 has decided. Nothing that process 3 sends in round 3 counts.
abbrev pub set_partly_counted : Case
set_partly_counted =
    case_of 18 ("010604" ∷ "02010000000A" ∷ "020200000014" ∷ "02030000001E" ∷ "020400000028" ∷ "020500000032" ∷ "02060000003C"
    ∷ "03010102000000000000000001" ∷ "03020201000000000000003C00" ∷ "03040200000000000000000000" ∷ "03050100000000000000000000" ∷ "04" ∷ [])
    ("11010201000000000501" ∷ "11020202000000000200" ∷ "110301030000000A0000" ∷ "11040202000000000000" ∷ "11050201000000000000" ∷ "110601010000000A0000"
    ∷ "1203040300070001" ∷ []) (accepted 1) ("633362" ∷ "763677" ∷ "771777" ∷ [])

-- In round 2 commits are sent to processes 6 and 5, and that to process 5 counts: process 6 has decided. In round 3 what is sent to process 4, which crashes
-- in that round, counts.
abbrev pub commits_partly_counted : Case
commits_partly_counted =
    case_of 19 ("010603" ∷ "02010000000A" ∷ "020200000014" ∷ "02030000001E" ∷ "020400000028" ∷ "020500000032" ∷ "02060000003C"
    ∷ "03010102000000000000000001" ∷ "03020202000000000000000002" ∷ "03040300000000000000000000" ∷ "04" ∷ [])
    ("11010201000000000501" ∷ "11020202000000000301" ∷ "110301030000000A0101" ∷ "11040203000000000000" ∷ "110501020000000A0000" ∷ "110601010000000A0000"
    ∷ "1203030300090003" ∷ []) (accepted 1) ("633332" ∷ "763327" ∷ "771677" ∷ [])

-- Process 2 is up after round 1 and holds another value than process 3; it crashes in round 2, which is the settling round. Nobody decides before round 3.
abbrev pub crashes_later : Case
crashes_later =
    case_of 20 ("010302" ∷ "02010000000A" ∷ "020200000014" ∷ "02030000001E" ∷ "03010100000000000000000000" ∷ "03020200000000000000000000" ∷ "04" ∷ [])
    ("11010201000000000000" ∷ "11020202000000000000" ∷ "110301030000001E0000" ∷ "1203020300000000" ∷ []) (accepted 2) ("655" ∷ "765" ∷ "771" ∷ [])

-- Process 1 crashes before sending, and all others propose one value: round 1 is the settling round, although nothing was sent in it.
abbrev pub equal_proposals : Case
equal_proposals =
    case_of 21 ("010301" ∷ "020100000007" ∷ "020200000007" ∷ "020300000007" ∷ "03010100000000000000000000" ∷ "04" ∷ [])
    ("11010201000000000000" ∷ "11020102000000070101" ∷ "11030102000000070000" ∷ "1202010200010001" ∷ []) (accepted 1) ("655" ∷ "712" ∷ [])

-- The same with other proposals, of which one is 0 (document 01, 'The ticket': "Every value is allowed, 0 too"): round 1 does not settle the run.
abbrev pub value_zero : Case
value_zero =
    case_of 22 ("010301" ∷ "02010000000A" ∷ "020200000000" ∷ "020300000014" ∷ "03010100000000000000000000" ∷ "04" ∷ [])
    ("11010201000000000000" ∷ "11020102000000000101" ∷ "11030102000000000000" ∷ "1202010200010001" ∷ []) (accepted 2) ("655" ∷ "712" ∷ [])

unfoldable pub further_runs : List Case
further_runs =
    no_commit ∷ two_commits ∷ set_of_two ∷ silent_at_last ∷ after_its_round ∷ set_partly_counted ∷ commits_partly_counted ∷ crashes_later ∷ equal_proposals ∷ value_zero
    ∷ []
