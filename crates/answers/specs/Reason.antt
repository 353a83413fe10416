-- The reason of a process in a round of a ticket's run (document 02, Paper 7), and those of all processes in all its rounds at once (docs/DECISIONS.md, P7).
use Rattle.std.specs.Prelude.{List, ℕ, ◌*◌, Bool, cond, ◌&&◌, ltb, leb}
use Rattle.consensus.specs.Instance.{Instance}
use Rattle.coordinator.specs.Run.{run_of}
use Rattle.coordinator.specs.Reason.{reason_of, reasons_of}
use Rattle.general.specs.Answer.{Answer, accepted, refused, and_then}
use Rattle.ticket_format.specs.Ticket.{read_ticket}

-- p is a process and r a round of the run (document 02: "station outside 1 to n, or round outside 1 to the run's rounds").
unfoldable pub within_run : Instance → (p r : ℕ) → Bool
within_run x p r = leb 1 p && leb p x.processes && leb 1 r && leb r (run_of x).rounds

-- The reason of process p in round r of an instance; refusal 13, of no line, where it has no such process or its run no such round.
unfoldable pub reason_in : (p r : ℕ) → Instance → Answer ℕ
reason_in p r x = cond (within_run x p r) (accepted (reason_of x p r)) (refused 13 0)

-- What is answered on a text: a reason, 1 to 7, or a refusal, 1 to 8 with its line, and after these 13.
unfoldable pub reason : (text : List ℕ) → (p r : ℕ) → Answer ℕ
reason text p r = and_then (read_ticket text) (reason_in p r)

-- A byte for each process in each round: process p in round r stands at place (r - 1)n + p - 1.
unfoldable pub reasons_size : Instance → ℕ
reasons_size x = (run_of x).rounds * x.processes

-- All reasons of an instance in a buffer of `room` bytes; refusal 9, of no line, where they do not fit.
unfoldable pub reasons_within : (room : ℕ) → Instance → Answer (List ℕ)
reasons_within room x = cond (ltb room (reasons_size x)) (refused 9 0) (accepted (reasons_of x))

-- What is answered on a text and a buffer of `room` bytes: the reasons, or a refusal, 1 to 9, with its line.
unfoldable pub reasons : (text : List ℕ) → (room : ℕ) → Answer (List ℕ)
reasons text room = and_then (read_ticket text) (reasons_within room)
