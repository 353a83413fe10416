-- `read_first` meets its contract: a line of bytes is answered as `header_line` answers it. Assumes nothing.
use Rattle.reader.proofs.NextLine.{next_line_at}
use Rattle.ticket.proofs.FirstLine.{first_read}
use Rattle.ticket.proofs.read_first.Goals as goal

pub returns-clause-first : goal.returns-clause-first
returns-clause-first c =
    let line = next_line_at _ _ _ c.next_line.ensures.line c.next_line.ensures.behind c.in-Some.is in
    first_read _ _ _ (rw c.requires at line) _ c.header_line.ensures
