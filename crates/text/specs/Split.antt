-- The lines of a text in document 01's words ('The ticket': "A line is an even, non-zero count of digits 0-9, A-F, closed by byte 0A. Two digits make a byte";
-- document 02, Paper 1: "Digits of either case are accepted, mixed too"). `LinesSplit` ties `lines_of` to them, both ways.
use Rattle.std.specs.Prelude.{List, [], ◌∷◌, ◌++◌, map, ◌≡◌, ℕ, ◌≤◌, ◌<◌, length, get_or}
use Rattle.text.specs.Capitals.{capital}
use Rattle.text.specs.HexText.{hex_digits}
use Rattle.text.specs.Line.{Line, bytes, no_line, lines_of}

-- What stands before an 0A spells these bytes: at least one, each in two digits, of either case.
pub record Spells (part bs : List ℕ) : Type 0 where
  pub some : 1 ≤ length bs
  pub are_bytes : (i : ℕ) → get_or bs i 0 < 256
  pub digits : map capital part ≡ hex_digits bs

-- What it gives: the bytes that it spells, or nothing where it spells none.
pub data LineIs (part : List ℕ) : Line → Type 0 where
  spelt : (bs : List ℕ) → Spells part bs → LineIs part (bytes bs)
  not_spelt : ((bs : List ℕ) → Spells part bs → ⊥) → LineIs part no_line

-- No byte of it is 0A.
unfoldable pub Without0A : List ℕ → Type 0
Without0A [] = Unit {0}
Without0A (c ∷ part) = (c ≡ 10 → ⊥) × Without0A part

-- The lines of a text: it is cut at each 0A, and what follows the last 0A, if anything does, is no line.
pub data Split : (text : List ℕ) → List Line → Type 0 where
  over : Split [] []
  not_closed : (c : ℕ) (part : List ℕ) → Without0A (c ∷ part) → Split (c ∷ part) (no_line ∷ [])
  cut : (part rest : List ℕ) (line : Line) (lines : List Line) → Without0A part → LineIs part line → Split rest lines
      → Split (part ++ (10 ∷ rest)) (line ∷ lines)

-- A text has just these lines.
pub record LinesSplit : Type 0 where
  pub split : (text : List ℕ) → Split text (lines_of text)
  pub only : (text : List ℕ) (lines : List Line) → Split text lines → lines ≡ lines_of text
