-- `lines::Cursor::read` meets its contract: each return is one thing that may stand behind the digits. Assumes nothing.
use Rattle.std.proofs.Common.{sym}
use Rattle.lines.proofs.Answer.{answer_past, answer_unclosed, answer_other, answer_empty, answer_line}
use Rattle.lines.proofs.Cursor.read.Goals as goal
use Rattle.lines.proofs.Cursor.read.Goals.{then-text-end-via-then-text-end, then-text-end-via-else-text-end+then-text-end-ne-LINE_END, then-text-end-via-else-text-end+else-text-end-ne-LINE_END+then-end-at}

pub returns-then-text-at : goal.returns-then-text-at
returns-then-text-at c = sym (answer_past _ _ c.if-text-at.true)

pub returns-then-text-end : goal.returns-then-text-end
returns-then-text-end c =
    let digits = c.read_digits-end.ensures in
    elim c.then-text-end.branch [
      | then-text-end-via-then-text-end w ↦ sym (answer_unclosed _ _ _ _ _ digits.0 w.if-text-end.true)
      | then-text-end-via-else-text-end+then-text-end-ne-LINE_END w ↦ sym (answer_other _ _ _ _ _ digits.0 digits.1 w.if-text-end.false w.if-text-end-ne-LINE_END.true)
      | then-text-end-via-else-text-end+else-text-end-ne-LINE_END+then-end-at w ↦ sym (answer_empty _ _ _ _ _ digits.0 w.if-text-end.false w.if-text-end-ne-LINE_END.false w.if-end-at.true)
    ]

pub returns : goal.returns
returns c = sym (answer_line _ _ _ _ _ c.read_digits-end.ensures.0 c.if-text-end.false c.if-text-end-ne-LINE_END.false c.if-end-at.false)
