-- Texts at the limits of what a ticket may be, and what reading answers on each (document 01, 'Refused calls', "Running a ticket"): each refusal with its
-- line, each limit from both sides, and which refusal is looked at first.
use Rattle.std.specs.Prelude.{List, [], ◌∷◌, ◌++◌, map, ◌≡◌, ℕ, ◌+◌, length, replicate}
use Rattle.general.specs.Table.{tabulate}
use Rattle.general.specs.Text.{ascii}
use Rattle.consensus.specs.Instance.{Instance}
use Rattle.general.specs.Answer.{Answer, accepted, refused}
use Rattle.ticket_format.specs.Ticket.{read_ticket}
use Rattle.text.specs.HexText.{hex_line, hex_lines}
use Rattle.text.specs.TextOf.{text_of}
use Rattle.ticket_format.specs.Openings.{opening, after_opening, opening64}

-- What is said of a text: it passes, or it is refused with this number at this line.
pub data Verdict : Type 0 where
  passes : Verdict
  refused_with : (refusal line : ℕ) → Verdict

unfoldable pub verdict_of : {A : Type 0} → Answer A → Verdict
verdict_of (accepted a) = passes
verdict_of (refused refusal line) = refused_with refusal line

abbrev pub Row : Type 0
Row = List ℕ × Verdict

-- Refusal 1, of no line: a text of 4,096 bytes is read, one of 4,097 is not.
unfoldable pub too_long : List Row
too_long =
    (replicate 4096 120, refused_with 2 1)
    ∷ (replicate 4097 120, refused_with 1 0)
    ∷ []

-- Refusal 2: a character beside the digits on either side, an odd count of digits, no digit, a carriage return before the 0A, no 0A at the end; spaces before,
-- between and after bytes.
unfoldable pub not_lines : List Row
not_lines =
    (text_of ("01040/" ∷ []), refused_with 2 1)
    ∷ (text_of ("01040:" ∷ []), refused_with 2 1)
    ∷ (text_of ("01040@" ∷ []), refused_with 2 1)
    ∷ (text_of ("01040G" ∷ []), refused_with 2 1)
    ∷ (text_of ("01040" ∷ []), refused_with 2 1)
    ∷ (text_of ("" ∷ []), refused_with 2 1)
    ∷ (ascii "010402" ++ (13 ∷ 10 ∷ []), refused_with 2 1)
    ∷ (ascii "010402", refused_with 2 1)
    ∷ (text_of opening ++ ascii "04", refused_with 2 6)
    ∷ (after_opening ("04" ∷ "" ∷ []), refused_with 2 7)
    ∷ (text_of ("01 04020" ∷ []), refused_with 2 1)
    ∷ (text_of (" 010402" ∷ []), refused_with 2 1)
    ∷ (text_of ("01 04 02" ∷ []), refused_with 2 1)
    ∷ (text_of ("010402  " ∷ []), refused_with 2 1)
    ∷ (text_of ("01040`" ∷ []), refused_with 2 1)
    ∷ (text_of ("01040g" ∷ []), refused_with 2 1)
    ∷ (text_of ("0104g2" ∷ []), refused_with 2 1)
    ∷ []

-- n and t in small letters and in mixed ones (document 02, Paper 1): with t below n line 1 passes, and otherwise it is refusal 4.
unfoldable pub small_letters : List Row
small_letters =
    (text_of ("01403f" ∷ []), refused_with 3 2)
    ∷ (text_of ("010b0a" ∷ []), refused_with 3 2)
    ∷ (text_of ("010a0A" ∷ []), refused_with 4 1)
    ∷ (text_of ("010f0E" ∷ []), refused_with 3 2)
    ∷ (text_of ("010F0f" ∷ []), refused_with 4 1)
    ∷ (text_of ("01040a" ∷ []), refused_with 4 1)
    ∷ []

-- Refusal 3: a kind not allowed here, a length that is not its kind's, a text over before its 04, at the line one past the last; after the 04 every kind.
unfoldable pub wrong_kinds : List Row
wrong_kinds =
    ([], refused_with 3 1)
    ∷ (text_of ("02010000000A" ∷ []), refused_with 3 1)
    ∷ (text_of ("0104" ∷ []), refused_with 3 1)
    ∷ (text_of ("01040200" ∷ []), refused_with 3 1)
    ∷ (text_of ("04" ∷ []), refused_with 3 1)
    ∷ (text_of ("010402" ∷ []), refused_with 3 2)
    ∷ (text_of ("010402" ∷ "04" ∷ []), refused_with 3 2)
    ∷ (text_of ("010402" ∷ "030100000000" ∷ []), refused_with 3 2)
    ∷ (text_of ("010402" ∷ "020100000A" ∷ []), refused_with 3 2)
    ∷ (text_of ("010402" ∷ "0201000000000A" ∷ []), refused_with 3 2)
    ∷ (after_opening [], refused_with 3 6)
    ∷ (after_opening ("020500000032" ∷ []), refused_with 3 6)
    ∷ (after_opening ("05" ∷ []), refused_with 3 6)
    ∷ (after_opening ("0400" ∷ []), refused_with 3 6)
    ∷ (after_opening ("030101000000000000000000" ∷ []), refused_with 3 6)
    ∷ (after_opening ("0301010000000000000000000000" ∷ []), refused_with 3 6)
    ∷ (after_opening ("02010000000A00000000000000" ∷ []), refused_with 3 6)
    ∷ (after_opening ("04" ∷ "04" ∷ []), refused_with 3 7)
    ∷ (text_of ("0104020000000000000000000000000000" ∷ []), refused_with 3 1)
    ∷ (text_of ("010402" ∷ "03010100000000000000000000" ∷ []), refused_with 3 2)
    ∷ (text_of ("010402" ∷ "010402" ∷ []), refused_with 3 2)
    ∷ (text_of ("050402" ∷ []), refused_with 3 1)
    ∷ (text_of ("010402" ∷ "01010000000A" ∷ []), refused_with 3 2)
    ∷ (text_of ("010402" ∷ "08010000000A" ∷ []), refused_with 3 2)
    ∷ (after_opening ("03" ∷ []), refused_with 3 6)
    ∷ (after_opening ("05010100000000000000000000" ∷ []), refused_with 3 6)
    ∷ []

-- Refusal 4: n from 1 to 64, t below n. (n = 64 passes in case 10.)
unfoldable pub limits : List Row
limits =
    (text_of ("010000" ∷ []), refused_with 4 1)
    ∷ (text_of ("010100" ∷ "02010000000A" ∷ "04" ∷ []), passes)
    ∷ (text_of ("014100" ∷ []), refused_with 4 1)
    ∷ (text_of ("01403F" ∷ []), refused_with 3 2)
    ∷ (text_of ("014040" ∷ []), refused_with 4 1)
    ∷ (text_of ("010101" ∷ []), refused_with 4 1)
    ∷ (text_of ("010403" ∷ "02010000000A" ∷ "020200000014" ∷ "02030000001E" ∷ "020400000028" ∷ "04" ∷ []), passes)
    ∷ (text_of ("010404" ∷ []), refused_with 4 1)
    ∷ []

-- Refusal 5: proposals of stations 1 to n in order.
unfoldable pub stations : List Row
stations =
    (text_of ("010402" ∷ "02000000000A" ∷ []), refused_with 5 2)
    ∷ (text_of ("010402" ∷ "02020000000A" ∷ []), refused_with 5 2)
    ∷ (text_of ("010402" ∷ "02010000000A" ∷ "02010000000A" ∷ []), refused_with 5 3)
    ∷ (text_of ("010402" ∷ "02010000000A" ∷ "02030000001E" ∷ []), refused_with 5 3)
    ∷ []

-- Refusal 6: at most t failure lines; its length (3) is looked at before, its station (7) after.
unfoldable pub too_many : List Row
too_many =
    (text_of ("010400" ∷ "02010000000A" ∷ "020200000014" ∷ "02030000001E" ∷ "020400000028" ∷ "03010100000000000000000000" ∷ []), refused_with 6 6)
    ∷ (after_opening ("03010100000000000000000000" ∷ "03020100000000000000000000" ∷ "04" ∷ []), passes)
    ∷ (after_opening ("03010100000000000000000000" ∷ "03020100000000000000000000" ∷ "03030100000000000000000000" ∷ []), refused_with 6 8)
    ∷ (after_opening ("03010100000000000000000000" ∷ "03020100000000000000000000" ∷ "03000100000000000000000000" ∷ []), refused_with 6 8)
    ∷ (after_opening ("03010100000000000000000000" ∷ "03020100000000000000000000" ∷ "0303" ∷ []), refused_with 3 8)
    ∷ (after_opening ("03010100000000000000000000" ∷ "03020100000000000000000000" ∷ "03030302000000000000000009" ∷ []), refused_with 6 8)
    ∷ []

-- Refusal 7: station from 1 to n and rising, round from 1 to t + 1, also above the station, step at most 02.
unfoldable pub places : List Row
places =
    (after_opening ("03000100000000000000000000" ∷ []), refused_with 7 6)
    ∷ (after_opening ("03040100000000000000000000" ∷ "04" ∷ []), passes)
    ∷ (after_opening ("03050100000000000000000000" ∷ []), refused_with 7 6)
    ∷ (after_opening ("03020100000000000000000000" ∷ "03020100000000000000000000" ∷ []), refused_with 7 7)
    ∷ (after_opening ("03020100000000000000000000" ∷ "03010100000000000000000000" ∷ []), refused_with 7 7)
    ∷ (after_opening ("03010000000000000000000000" ∷ []), refused_with 7 6)
    ∷ (after_opening ("03040300000000000000000000" ∷ "04" ∷ []), passes)
    ∷ (after_opening ("03040400000000000000000000" ∷ []), refused_with 7 6)
    ∷ (after_opening ("03010103000000000000000000" ∷ []), refused_with 7 6)
    ∷ (after_opening ("03030402000000000000000000" ∷ []), refused_with 7 6)
    ∷ (after_opening ("03020103000000000000000000" ∷ []), refused_with 7 6)
    ∷ (after_opening ("03010200000000000000000000" ∷ "04" ∷ []), passes)
    ∷ []

-- Refusal 8: steps 01 and 02 in the station's own round; at step 00 neither set nor count, at step 01 a set of stations above the sender and at most n
-- and no count, at step 02 a count up to n − station and no set.
unfoldable pub steps : List Row
steps =
    (after_opening ("03010100000000000000000200" ∷ []), refused_with 8 6)
    ∷ (after_opening ("03010100000000000000000001" ∷ []), refused_with 8 6)
    ∷ (after_opening ("03020101000000000000000800" ∷ []), refused_with 8 6)
    ∷ (after_opening ("03020201000000000000000800" ∷ "04" ∷ []), passes)
    ∷ (after_opening ("03020201000000000000000200" ∷ []), refused_with 8 6)
    ∷ (after_opening ("03020201000000000000000100" ∷ []), refused_with 8 6)
    ∷ (after_opening ("03020201000000000000001000" ∷ []), refused_with 8 6)
    ∷ (after_opening ("03020201800000000000000000" ∷ []), refused_with 8 6)
    ∷ (after_opening ("03020201000000000000000801" ∷ []), refused_with 8 6)
    ∷ (after_opening ("03020201000000000000000000" ∷ "04" ∷ []), passes)
    ∷ (after_opening ("03020102000000000000000000" ∷ []), refused_with 8 6)
    ∷ (after_opening ("03020202000000000000000002" ∷ "04" ∷ []), passes)
    ∷ (after_opening ("03020202000000000000000003" ∷ []), refused_with 8 6)
    ∷ (after_opening ("03020202000000000000000802" ∷ []), refused_with 8 6)
    ∷ (after_opening ("03010102000000000000000003" ∷ "04" ∷ []), passes)
    ∷ (after_opening ("03010102000000000000000004" ∷ []), refused_with 8 6)
    ∷ []

-- The first wrong line rules, whatever stands behind it.
unfoldable pub first_rules : List Row
first_rules =
    (text_of ("010404" ∷ "zz" ∷ []), refused_with 4 1)
    ∷ (text_of ("010402" ∷ "0202" ∷ "01" ∷ []), refused_with 3 2)
    ∷ (after_opening ("03010103000000000000000000" ∷ "G" ∷ []), refused_with 7 6)
    ∷ []

unfoldable pub reading_rows : List Row
reading_rows = too_long ++ not_lines ++ small_letters ++ wrong_kinds ++ limits ++ stations ++ too_many ++ places ++ steps ++ first_rules

-- The largest ticket: 64 processes, and failure lines of stations 2 to 64, all in round 64.
unfoldable pub fullest : List ℕ
fullest = text_of opening64 ++ hex_lines (tabulate (λ (k : ℕ). 3 ∷ (k + 2) ∷ 64 ∷ replicate 10 0) 63) ++ text_of ("04" ∷ [])

-- n and t of what a text is accepted with.
unfoldable pub limits_of : Answer Instance → List ℕ
limits_of (accepted x) = x.processes ∷ x.resilience ∷ []
limits_of (refused refusal line) = []

-- The claim: reading answers as each row says, and there are 100 of them.
pub record ReadingCases : Type 0 where
  pub rows : length reading_rows ≡ 100
  pub answered : map (λ (row : Row). verdict_of (read_ticket row.0)) reading_rows ≡ map (λ (row : Row). row.1) reading_rows
  -- 0A alone closes a line: behind a header of six digits each other byte, and 0A behind it, is refused there; after 0A the next line is empty
  pub closing : tabulate (λ (c : ℕ). verdict_of (read_ticket (ascii "010402" ++ (c ∷ 10 ∷ [])))) 256
      ≡ replicate 10 (refused_with 2 1) ++ (refused_with 2 2 ∷ []) ++ replicate 245 (refused_with 2 1)
  -- of all kinds 01 alone begins a ticket
  pub kinds : tabulate (λ (kind : ℕ). verdict_of (read_ticket (hex_line (kind ∷ 4 ∷ 2 ∷ [])))) 256
      ≡ (refused_with 3 1 ∷ refused_with 3 2 ∷ []) ++ replicate 254 (refused_with 3 1)
  pub fullest_passes : limits_of (read_ticket fullest) ≡ 64 ∷ 63 ∷ []
  pub fullest_length : length fullest ≡ 2543
