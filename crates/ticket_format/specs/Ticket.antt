-- A ticket, from any bytes to an instance or a refusal (document 01, 'The ticket' and 'Refused calls', refusals 1 to 8).
use Rattle.std.specs.Prelude.{List, ℕ, cond, ltb, length}
use Rattle.consensus.specs.Instance.{Instance}
use Rattle.text.specs.Line.{lines_of}
use Rattle.general.specs.Answer.{Answer, accepted, refused}
use Rattle.ticket_format.specs.Reading.{read_from}
use Rattle.ticket_format.specs.Accept.{Stage, header, body, accept}
use Rattle.ticket_format.specs.declared.Place.TheVariants.{Proposals, Failures, Ended}

-- A text of more bytes gets refusal 1.
abbrev pub ticket_limit : ℕ
ticket_limit = 4096

-- A text that is over before its 04 is refusal 3, at the line one past the last.
unfoldable pub at_end : Stage → ℕ → Answer Instance
at_end header k = refused 3 k
at_end (body (Proposals count) x) k = refused 3 k
at_end (body (Failures lines last) x) k = refused 3 k
at_end (body Ended x) k = accepted x

-- The lines of a text, however long it is.
abbrev pub read_lines : List ℕ → Answer Instance
read_lines text = read_from accept at_end header 1 (lines_of text)

-- Refusal 1, of no line, is looked at before every line.
unfoldable pub read_ticket : List ℕ → Answer Instance
read_ticket text = cond (ltb ticket_limit (length text)) (refused 1 0) (read_lines text)
