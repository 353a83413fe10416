-- Worked calls of the process part, which pin every number, limit and order of its definitions (document 01, 'The desk part' and 'Refused calls').
-- A state is written as station, n, t, round, mark, value; a frame as kind, round, value.
use Rattle.std.specs.Prelude.{List, [], ◌∷◌, ◌++◌, map, ◌≡◌, length}
use Rattle.part_format.specs.Case.{Case, starting, speaking, closing, refusing, gives, expected}

-- Starting ("writes round 1, mark 00"; refusal 10: "n, t or station outside the limits, or not exactly nine bytes lent. Nothing is written").
unfoldable pub start_cases : List Case
start_cases =
    -- nine bytes, whatever they held
    starting 2 4 3 0x01020304 "D1 D2 D3 D4 D5 D6D7D8D9" 0 "02 04 03 01 00 01020304"
    -- the least and the largest of everything
    ∷ starting 1 1 0 0 "D1 D2 D3 D4 D5 D6D7D8D9" 0 "01 01 00 01 00 00000000"
    ∷ starting 64 64 63 0xFFFFFFFF "D1 D2 D3 D4 D5 D6D7D8D9" 0 "40 40 3F 01 00 FFFFFFFF"
    -- the first and the last station
    ∷ starting 1 4 0 10 "D1 D2 D3 D4 D5 D6D7D8D9" 0 "01 04 00 01 00 0000000A"
    ∷ starting 4 4 0 10 "D1 D2 D3 D4 D5 D6D7D8D9" 0 "04 04 00 01 00 0000000A"
    -- n of 0 and of 65
    ∷ starting 1 0 0 10 "D1 D2 D3 D4 D5 D6D7D8D9" 10 "D1 D2 D3 D4 D5 D6D7D8D9"
    ∷ starting 1 65 3 10 "D1 D2 D3 D4 D5 D6D7D8D9" 10 "D1 D2 D3 D4 D5 D6D7D8D9"
    -- t of n
    ∷ starting 1 4 4 10 "D1 D2 D3 D4 D5 D6D7D8D9" 10 "D1 D2 D3 D4 D5 D6D7D8D9"
    -- station 0 and n + 1
    ∷ starting 0 4 3 10 "D1 D2 D3 D4 D5 D6D7D8D9" 10 "D1 D2 D3 D4 D5 D6D7D8D9"
    ∷ starting 5 4 3 10 "D1 D2 D3 D4 D5 D6D7D8D9" 10 "D1 D2 D3 D4 D5 D6D7D8D9"
    -- numbers that no byte holds
    ∷ starting 257 4 3 10 "D1 D2 D3 D4 D5 D6D7D8D9" 10 "D1 D2 D3 D4 D5 D6D7D8D9"
    ∷ starting 1 260 3 10 "D1 D2 D3 D4 D5 D6D7D8D9" 10 "D1 D2 D3 D4 D5 D6D7D8D9"
    ∷ starting 1 4 259 10 "D1 D2 D3 D4 D5 D6D7D8D9" 10 "D1 D2 D3 D4 D5 D6D7D8D9"
    -- no bytes lent, eight and ten
    ∷ starting 2 4 3 10 "" 10 ""
    ∷ starting 2 4 3 10 "D1 D2 D3 D4 D5 D6D7D8" 10 "D1 D2 D3 D4 D5 D6D7D8"
    ∷ starting 2 4 3 10 "D1 D2 D3 D4 D5 D6D7D8D9 DA" 10 "D1 D2 D3 D4 D5 D6D7D8D9 DA"
    ∷ []

-- Speaking of open states ("data then commit (8 bytes) in the desk's own round, else no bytes"; refusal 9: "own round and output shorter than 8 bytes").
unfoldable pub speak_cases : List Case
speak_cases =
    -- in its own round, into a longer output, whose other bytes stay
    speaking "02 04 03 02 00 01020304" "E1 E2 E3 E4 E5 E6 E7 E8 E9 EA EB EC" 8 "21 02 01020304 22 02 E9 EA EB EC"
    -- into eight bytes, in the first round and in the last
    ∷ speaking "01 01 00 01 00 00000000" "E1 E2 E3 E4 E5 E6 E7 E8" 8 "21 01 00000000 22 01"
    ∷ speaking "40 40 3F 40 00 FFFFFFFF" "E1 E2 E3 E4 E5 E6 E7 E8" 8 "21 40 FFFFFFFF 22 40"
    -- in another's round, the first and the last of it, with room and without
    ∷ speaking "03 04 02 01 00 01020304" "E1 E2 E3 E4 E5 E6 E7 E8 E9 EA EB EC" 0 "E1 E2 E3 E4 E5 E6 E7 E8 E9 EA EB EC"
    ∷ speaking "03 04 02 02 00 01020304" "E1 E2 E3 E4 E5 E6 E7" 0 "E1 E2 E3 E4 E5 E6 E7"
    ∷ speaking "03 04 01 02 00 01020304" "" 0 ""
    -- in its own round into seven bytes, and into none
    ∷ speaking "02 04 03 02 00 01020304" "E1 E2 E3 E4 E5 E6 E7" 9 "E1 E2 E3 E4 E5 E6 E7"
    ∷ speaking "02 04 03 02 00 01020304" "" 9 ""
    ∷ []

-- States that speaking and closing both refuse (refusals 10 and 11, in this order, and before 9 and 12).
unfoldable pub refused_cases : List Case
refused_cases =
    -- no byte, eight bytes and ten, open and decided
    refusing "" 10
    ∷ refusing "02 04 03 02 00 010203" 10
    ∷ refusing "02 04 03 02 00 01020304 05" 10
    ∷ refusing "02 04 03 02 01 010203" 10
    ∷ refusing "02 04 03 02 01 01020304 05" 10
    -- n of 0 and of 65
    ∷ refusing "01 00 00 01 00 01020304" 10
    ∷ refusing "01 41 03 01 00 01020304" 10
    -- t of n
    ∷ refusing "01 04 04 01 00 01020304" 10
    -- station 0 and n + 1
    ∷ refusing "00 04 03 01 00 01020304" 10
    ∷ refusing "05 04 03 01 00 01020304" 10
    -- the same of states that are not open
    ∷ refusing "01 41 03 01 01 01020304" 10
    ∷ refusing "01 04 04 01 01 01020304" 10
    ∷ refusing "05 04 03 01 01 01020304" 10
    ∷ refusing "05 04 01 02 02 01020304" 10
    -- marks above 02
    ∷ refusing "03 04 01 02 03 01020304" 10
    ∷ refusing "03 04 02 01 03 01020304" 10
    ∷ refusing "03 04 01 02 FF 01020304" 10
    -- mark 00 with round 0, above t + 1, above the station
    ∷ refusing "03 04 02 00 00 01020304" 10
    ∷ refusing "04 04 01 03 00 01020304" 10
    ∷ refusing "02 04 03 03 00 01020304" 10
    -- mark 01 with these, and what it may have: round 1, t + 1, the station
    ∷ refusing "03 04 02 00 01 01020304" 10
    ∷ refusing "04 04 01 03 01 01020304" 10
    ∷ refusing "02 04 03 03 01 01020304" 10
    ∷ refusing "03 04 02 01 01 01020304" 11
    ∷ refusing "04 04 01 02 01 01020304" 11
    ∷ refusing "02 04 03 02 01 01020304" 11
    -- mark 02 in round t + 1 below the station; in the rounds beside it; in round t + 1 that is the station's own or above it
    ∷ refusing "04 04 02 03 02 01020304" 11
    ∷ refusing "40 40 3E 3F 02 01020304" 11
    ∷ refusing "04 04 02 02 02 01020304" 10
    ∷ refusing "04 04 01 03 02 01020304" 10
    ∷ refusing "03 04 02 03 02 01020304" 10
    ∷ refusing "02 04 02 03 02 01020304" 10
    ∷ []

-- Closing of open states on one of the three forms ("it keeps its value, adopts, or adopts and decides").
unfoldable pub close_cases : List Case
close_cases =
    -- on nothing, on data, on data then commit
    closing "03 04 02 01 00 01020304" "" 0 "03 04 02 02 00 01020304"
    ∷ closing "03 04 02 01 00 01020304" "21 01 0A0B0C0D" 0 "03 04 02 02 00 0A0B0C0D"
    ∷ closing "03 04 02 01 00 01020304" "21 01 0A0B0C0D 22 01" 0 "03 04 02 01 01 0A0B0C0D"
    -- in its own round, the first and the last of it too
    ∷ closing "02 04 03 02 00 01020304" "" 0 "02 04 03 02 01 01020304"
    ∷ closing "01 01 00 01 00 FFFFFFFF" "" 0 "01 01 00 01 01 FFFFFFFF"
    ∷ closing "03 04 02 03 00 01020304" "" 0 "03 04 02 03 01 01020304"
    -- after round t + 1
    ∷ closing "04 04 02 03 00 01020304" "" 0 "04 04 02 03 02 01020304"
    ∷ closing "04 04 02 03 00 01020304" "21 03 0A0B0C0D" 0 "04 04 02 03 02 0A0B0C0D"
    ∷ closing "04 04 02 03 00 01020304" "21 03 0A0B0C0D 22 03" 0 "04 04 02 03 01 0A0B0C0D"
    -- the largest numbers
    ∷ closing "40 40 3F 3F 00 01020304" "21 3F FFFFFFFF" 0 "40 40 3F 40 00 FFFFFFFF"
    ∷ closing "40 40 3E 3F 00 01020304" "" 0 "40 40 3E 3F 02 01020304"
    ∷ []

-- Bytes that are not taken (refusal 12: "heard bytes other than the three forms, another round's number, or any byte in its own round. State unchanged").
unfoldable pub heard_cases : List Case
heard_cases =
    -- one byte, five, seven and nine
    closing "03 04 02 01 00 01020304" "21" 12 "03 04 02 01 00 01020304"
    ∷ closing "03 04 02 01 00 01020304" "21 01 0A0B0C" 12 "03 04 02 01 00 01020304"
    ∷ closing "03 04 02 01 00 01020304" "21 01 0A0B0C0D 22" 12 "03 04 02 01 00 01020304"
    ∷ closing "03 04 02 01 00 01020304" "21 01 0A0B0C0D 22 01 00" 12 "03 04 02 01 00 01020304"
    -- another round's number: in the data, in the commit, in both, and that of the station's own round
    ∷ closing "03 04 02 02 00 01020304" "21 01 0A0B0C0D" 12 "03 04 02 02 00 01020304"
    ∷ closing "03 04 02 01 00 01020304" "21 02 0A0B0C0D" 12 "03 04 02 01 00 01020304"
    ∷ closing "03 04 02 01 00 01020304" "21 02 0A0B0C0D 22 01" 12 "03 04 02 01 00 01020304"
    ∷ closing "03 04 02 01 00 01020304" "21 01 0A0B0C0D 22 02" 12 "03 04 02 01 00 01020304"
    ∷ closing "03 04 02 02 00 01020304" "21 02 0A0B0C0D 22 01" 12 "03 04 02 02 00 01020304"
    ∷ closing "03 04 02 01 00 01020304" "21 02 0A0B0C0D 22 02" 12 "03 04 02 01 00 01020304"
    ∷ closing "03 04 02 01 00 01020304" "21 03 0A0B0C0D 22 03" 12 "03 04 02 01 00 01020304"
    -- kinds beside 21, and beside 22
    ∷ closing "03 04 02 01 00 01020304" "20 01 0A0B0C0D" 12 "03 04 02 01 00 01020304"
    ∷ closing "03 04 02 01 00 01020304" "22 01 0A0B0C0D" 12 "03 04 02 01 00 01020304"
    ∷ closing "03 04 02 01 00 01020304" "23 01 0A0B0C0D" 12 "03 04 02 01 00 01020304"
    ∷ closing "03 04 02 01 00 01020304" "20 01 0A0B0C0D 22 01" 12 "03 04 02 01 00 01020304"
    ∷ closing "03 04 02 01 00 01020304" "21 01 0A0B0C0D 20 01" 12 "03 04 02 01 00 01020304"
    ∷ closing "03 04 02 01 00 01020304" "21 01 0A0B0C0D 21 01" 12 "03 04 02 01 00 01020304"
    ∷ closing "03 04 02 01 00 01020304" "21 01 0A0B0C0D 23 01" 12 "03 04 02 01 00 01020304"
    -- commit then data, commit alone, data twice
    ∷ closing "03 04 02 01 00 01020304" "22 01 21 01 0A0B0C0D" 12 "03 04 02 01 00 01020304"
    ∷ closing "03 04 02 01 00 01020304" "22 01" 12 "03 04 02 01 00 01020304"
    ∷ closing "03 04 02 01 00 01020304" "21 01 0A0B0C0D 21 01 0A0B0C0D" 12 "03 04 02 01 00 01020304"
    -- any byte in its own round
    ∷ closing "02 04 03 02 00 01020304" "00" 12 "02 04 03 02 00 01020304"
    ∷ closing "02 04 03 02 00 01020304" "21 02 0A0B0C0D" 12 "02 04 03 02 00 01020304"
    ∷ closing "02 04 03 02 00 01020304" "21 02 01020304 22 02" 12 "02 04 03 02 00 01020304"
    ∷ []

unfoldable pub part_cases : List Case
part_cases = start_cases ++ speak_cases ++ refused_cases ++ close_cases ++ heard_cases

-- The claim: every case is what the definitions give, and none is missing (document 01, 'The desk part' and 'Refused calls').
pub record PartCases : Type 0 where
  pub given : map gives part_cases ≡ map expected part_cases
  pub counted : length part_cases ≡ 91
