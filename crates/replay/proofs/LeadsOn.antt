-- A line that is read leads on, and stands within the text. Assumes nothing.
use mathlib.Core.List.{List}
use mathlib.Core.Path.{◌≡◌, sym, ◌∙◌}
use Prim.Native.Nat.{ℕ, ◌+◌, ◌*◌, ◌≤◌}
use lib.ListN.{length}
use Rattle.std.proofs.Common.{Option, Some}
use Rattle.lines.specs.code.Read.{read_at}
use Rattle.lines.specs.declared.Cursor.{Cursor}
use Rattle.lines.specs.declared.Line.{Line}
use Rattle.lines.proofs.Read.{read_line}

pub leads_on : (text : List ℕ) (at : ℕ) (read : Option (Line × Cursor)) (line : Line) (next : Cursor) → read ≡ read_at text at → read ≡ Some (line, next)
    → (next.at ≡ at + 2 * line.size + 1) × (next.at ≤ length text)
leads_on text at read line next e is =
    let known = read_line text at line next (sym e ∙ is) in
    (known.after, known.inside)
