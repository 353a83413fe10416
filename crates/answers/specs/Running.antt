-- Running a ticket (document 01, 'The result' and 'Refused calls', "Running a ticket").
use Rattle.std.specs.Prelude.{List, ◌++◌, ℕ, cond, ltb, length, drop}
use Rattle.consensus.specs.Instance.{Instance}
use Rattle.general.specs.Answer.{Answer, accepted, refused, and_then}
use Rattle.ticket_format.specs.Ticket.{read_ticket}
use Rattle.answers.specs.ResultLine.{result_text, result_size, refusal_line}

-- The result of an instance in a buffer of `room` bytes; refusal 9, of no line, where it does not fit.
unfoldable pub result_in : (room : ℕ) → Instance → Answer (List ℕ)
result_in room x = cond (ltb room (result_size x.processes)) (refused 9 0) (accepted (result_text x))

-- What running answers on a text and a buffer of `room` bytes: the result's text, or a refusal, 1 to 9, with its line.
unfoldable pub running : (text : List ℕ) → (room : ℕ) → Answer (List ℕ)
running text room = and_then (read_ticket text) (result_in room)

-- What a buffer holds afterwards: the result, and after it what stood there; after a refusal all as it was.
unfoldable pub buffer_after : Answer (List ℕ) → List ℕ → List ℕ
buffer_after (accepted result) buffer = result ++ drop (length result) buffer
buffer_after (refused number line) buffer = buffer

-- What is written for an answer: the result, or the refusal's line.
unfoldable pub written : Answer (List ℕ) → List ℕ
written (accepted result) = result
written (refused number line) = refusal_line number line

-- What the program writes for a ticket: its buffer has room for the result of 64 processes, so that it never answers refusal 9.
unfoldable pub program_writes : List ℕ → List ℕ
program_writes text = written (running text (result_size 64))
