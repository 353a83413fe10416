-- For the code alone: what its results say of a line, in the papers' numbers (document 01, 'The forms we use', last paragraph).
use Rattle.std.specs.Prelude.{List, ℕ, Result, Ok, Err}
use Rattle.refusals.specs.Number.{number_of}
use Rattle.refusals.specs.declared.Refusal.{Refusal}
use Rattle.ticket_checks.specs.declared.Limits.{Limits}
use Rattle.ticket_format.specs.LineAnswer.{HeaderAnswer}
use Rattle.ticket_format.specs.LineAnswer.{LineAnswer}
use Rattle.lines.specs.code.Words.{line_bytes}
use Rattle.lines.specs.declared.Line.{Line}
use Rattle.ticket_lines.specs.declared.Said.{Said}
use Rattle.ticket_lines.specs.declared.Said.TheVariants.{Proposal, Crash, End}

-- The bytes of a line.
abbrev pub bytes_in : Line → List ℕ
bytes_in line = line_bytes line.size line.head line.tail

-- The header: n and t, or the number of its refusal.
abbrev pub header_by : Result Limits Refusal → HeaderAnswer
header_by (Ok limits) = HeaderAnswer.Limits limits.n limits.t
header_by (Err refusal) = HeaderAnswer.Refused (number_of refusal)

abbrev pub said_by : Said → LineAnswer
said_by (Proposal count value to) = LineAnswer.Proposal count value to
said_by (Crash lines l) = LineAnswer.Crash lines l
said_by End = LineAnswer.End

-- A line behind the header: what it says, or the number of its refusal.
abbrev pub line_by : Result Said Refusal → LineAnswer
line_by (Ok said) = said_by said
line_by (Err refusal) = LineAnswer.Refused (number_of refusal)
