-- What is told of a refused text: the line that the program writes for it (document 01, 'The result': "A refusal is the one line 1F, number, line"), and
-- the number that a C caller is answered (docs/DECISIONS.md, S5); and the room without which running is refused.
use Rattle.std.specs.Prelude.{List, [], ◌∷◌, ◌++◌, map, ◌≡◌, ℕ, ◌+◌, ◌*◌, length, replicate}
use Prim.Native.String.{String}
use Rattle.general.specs.Text.{ascii}
use Rattle.answers.specs.ResultLine.{result_size}
use Rattle.general.specs.Answer.{refused}
use Rattle.answers.specs.Running.{running, program_writes}
use Rattle.answers.specs.Settle.{settling}
use Rattle.answers.specs.Code.{placed_code, size_code, number_code}
use Rattle.text.specs.TextOf.{text_of}
use Rattle.ticket_format.specs.Openings.{after_opening}
use Rattle.ticket_format.specs.ReadingCases.{Verdict, passes, refused_with, verdict_of}
use Rattle.answers.specs.Table.{case1, case2, case6, case10_passes, case12}

-- A refused text, and the line that the program writes for it: 1F, number, line (2 bytes); 0 goes with refusal 1.
pub record RefusalRow : Type 0 where
  pub text : List ℕ
  pub line : String

unfoldable pub refusal_rows : List RefusalRow
refusal_rows =
    record { text = replicate 4097 120; line = "1F010000" }
    ∷ record { text = replicate 4096 120; line = "1F020001" }
    ∷ record { text = text_of ("010402" ∷ []); line = "1F030002" }
    ∷ record { text = text_of ("014100" ∷ []); line = "1F040001" }
    ∷ record { text = text_of ("010402" ∷ "02010000000A" ∷ "02010000000A" ∷ []); line = "1F050003" }
    ∷ record { text = after_opening ("03010100000000000000000000" ∷ "03020100000000000000000000" ∷ "03030100000000000000000000" ∷ []); line = "1F060008" }
    ∷ record { text = after_opening ("03000100000000000000000000" ∷ []); line = "1F070006" }
    ∷ record { text = after_opening ("03010100000000000000000001" ∷ []); line = "1F080006" }
    ∷ record { text = text_of case10_passes.ticket ++ ascii "04"; line = "1F020043" }
    ∷ []

pub record RefusalCases : Type 0 where
  pub rows : length refusal_rows ≡ 9
  pub written : map (λ (row : RefusalRow). program_writes row.text) refusal_rows ≡ map (λ (row : RefusalRow). text_of (row.line ∷ [])) refusal_rows
  -- settling has the same refusals, with their lines (document 01, 'Refused calls', "Settling")
  pub settled : map (λ (row : RefusalRow). settling row.text) refusal_rows
      ≡ refused 1 0 ∷ refused 2 1 ∷ refused 3 2 ∷ refused 4 1 ∷ refused 5 3 ∷ refused 6 8 ∷ refused 7 6 ∷ refused 8 6 ∷ refused 2 67 ∷ []

-- What a C caller is answered: case 12's refusal 8 at line 6, refusal 9 of no line, the size of case 1's result; of settling case 12's refusal, and round 3 of
-- case 6; and refusal 8 at line 6 of the second ticket of several.
unfoldable pub CodeCases : Type 0
CodeCases =
    size_code (running (text_of case12.ticket) 0) ∷ size_code (running (text_of case1.ticket) 100) ∷ size_code (running (text_of case1.ticket) 101)
    ∷ number_code (settling (text_of case12.ticket)) ∷ number_code (settling (text_of case6.ticket)) ∷ placed_code 2 8 6 ∷ []
    ≡ 524294 ∷ 589824 ∷ 101 ∷ 524294 ∷ 3 ∷ 8590458886 ∷ []

-- The room that a result needs (document 02, Paper 2: "Refusal 9 now means output shorter than 21n + 17 bytes"), and the most that one has.
pub record ResultSizes : Type 0 where
  pub needed : (n : ℕ) → result_size n ≡ 21 * n + 17
  pub most : result_size 64 ≡ 1361

-- A text, the room for its result, and what running answers. Refusal 9, of no line, is looked at after all lines: 21n + 17 bytes are enough (document 02,
-- Paper 2) and one less is not.
pub record RoomRow : Type 0 where
  pub text : List ℕ
  pub room : ℕ
  pub verdict : Verdict

unfoldable pub room_rows : List RoomRow
room_rows =
    record { text = text_of case2.ticket; room = 38; verdict = passes }
    ∷ record { text = text_of case2.ticket; room = 37; verdict = refused_with 9 0 }
    ∷ record { text = text_of case1.ticket; room = 101; verdict = passes }
    ∷ record { text = text_of case1.ticket; room = 100; verdict = refused_with 9 0 }
    ∷ record { text = after_opening []; room = 0; verdict = refused_with 3 6 }
    ∷ []

pub record RoomCases : Type 0 where
  pub rows : length room_rows ≡ 5
  pub answered : map (λ (row : RoomRow). verdict_of (running row.text row.room)) room_rows ≡ map (λ (row : RoomRow). row.verdict) room_rows
