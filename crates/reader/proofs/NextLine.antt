-- What callers of `next_line` know by its answer: the line at the reader's place and where the next one begins; or none. Assumes nothing.
use mathlib.Core.Path.{◌≡◌, refl, sym, ap, ◌∙◌}
use Prim.Native.Nat.{ℕ}
use Rattle.std.proofs.Common.{Option, None, Some, option_map}
use Rattle.lines.specs.code.Read.{read_at}
use Rattle.lines.specs.declared.Cursor.{Cursor}
use Rattle.lines.specs.declared.Line.{Line}
use Rattle.lines.proofs.Read.{LineAt, read_line}
use Rattle.reader.specs.code.NextLine.{place_behind, reader_behind}
use Rattle.reader.specs.declared.LineReader.{LineReader}

-- By the line that the reader gives, what was read.
none_read : (read : Option (Line × Cursor)) → option_map (λ read. read.0) read ≡ None → read ≡ None
none_read None e = refl
none_read (Some read) e = cc

line_read : {line : Line} (read : Option (Line × Cursor)) (at : ℕ) → option_map (λ read. read.0) read ≡ Some line
    → read ≡ Some (line, record { at = place_behind read at })
line_read None at e = cc
line_read (Some (line, next)) at e = cc

-- A reader, the same behind the line at its place, and what it has answered.
module _ (reader after : LineReader) (answer : Option Line) (given : answer ≡ option_map (λ read. read.0) (read_at reader.text.now reader.at))
    (behind : after ≡ reader_behind reader (read_at reader.text.now reader.at)) where
  pub next_text : after.text ≡ reader.text
  next_text = ap (λ (r : LineReader). r.text) behind

  pub next_none : answer ≡ None → read_at reader.text.now reader.at ≡ None
  next_none e = none_read (read_at reader.text.now reader.at) (sym given ∙ e)

  pub next_some : {line : Line} → answer ≡ Some line → read_at reader.text.now reader.at ≡ Some (line, record { at = after.at })
  next_some e = rw behind (line_read (read_at reader.text.now reader.at) reader.at (sym given ∙ e))

  pub next_line_at : {line : Line} → answer ≡ Some line → LineAt reader.text.now reader.at line after.at
  next_line_at {line} e = read_line reader.text.now reader.at line (record { at = after.at }) (next_some e)
