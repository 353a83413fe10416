-- The reader behind the line at its place (document 01, 'The ticket': "The line reader carries the ticket bytes and the start of the next line").
use Rattle.std.specs.Prelude.{Option, None, Some, ℕ}
use Rattle.lines.specs.declared.Line.{Line}
use Rattle.lines.specs.declared.Cursor.{Cursor}
use Rattle.reader.specs.declared.LineReader.{LineReader}

-- The start of the next line; where none was read, the place stays.
abbrev pub place_behind : Option (Line × Cursor) → ℕ → ℕ
place_behind None at = at
place_behind (Some (line, next)) at = next.at

abbrev pub reader_behind : LineReader → Option (Line × Cursor) → LineReader
reader_behind reader read = record { text = reader.text; at = place_behind read reader.at }
