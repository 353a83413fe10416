-- The line at a place of a text (document 01, 'The ticket': "The line reader carries the ticket bytes and the start of the next line").
-- `None` says that no line begins there: what does is no line, or the text is over. Callers test for the end first.
use Rattle.std.specs.Prelude.{List, [], ◌∷◌, Option, None, Some, ℕ, ◌+◌, ◌*◌, length, drop}
use Rattle.text.specs.Line.{Line as TextLine, bytes, no_line, lines_of}
use Rattle.lines.specs.code.Words.{upper_word, lower_word}
use Rattle.lines.specs.declared.Line.{Line}
use Rattle.lines.specs.declared.Cursor.{Cursor}

-- The first of the lines that begin at place `at`: its size, its bytes as two words, and the next place, behind two digits for a byte and 0A.
unfoldable pub first_line : ℕ → List TextLine → Option (Line × Cursor)
first_line at [] = None
first_line at (no_line ∷ lines) = None
first_line at (bytes b ∷ lines) =
    Some (record { size = length b; head = upper_word b; tail = lower_word b }, record { at = at + 2 * length b + 1 })

-- The line of a text at place `at`.
unfoldable pub read_at : List ℕ → ℕ → Option (Line × Cursor)
read_at text at = first_line at (lines_of (drop at text))
