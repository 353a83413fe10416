-- For the code alone, which reads a ticket in two parts: what the first line is answered with, and what the lines after it are read as.
use Rattle.std.specs.Prelude.{List, ◌≡◌, true, ℕ, ◌≤◌, length, drop, Result, Ok, Err}
use Rattle.consensus.specs.Instance.{Instance, within_limits}
use Rattle.text.specs.Line.{lines_of}
use Rattle.general.specs.Answer.{Answer, refused}
use Rattle.refusals.specs.Number.{number_of}
use Rattle.refusals.specs.declared.Refusal.{Refusal}
use Rattle.ticket_checks.specs.declared.Limits.{Limits}
use Rattle.ticket_format.specs.Reading.{read_from}
use Rattle.ticket_format.specs.Accept.{body, unproposed, accept}
use Rattle.ticket_format.specs.declared.Place.TheVariants.{Proposals}
use Rattle.ticket_format.specs.Ticket.{at_end, read_lines}

-- What the lines after a header are read as, from line 2 on; it begins at place `at`.
abbrev pub rest_of : (text : List ℕ) → Limits → (at : ℕ) → Answer Instance
rest_of text limits at = read_from accept at_end (body (Proposals 0) (unproposed limits.n limits.t)) 2 (lines_of (drop at text))

-- The header has said n and t, and what is left of the text is read on at line 2.
pub record AfterHeader (text : List ℕ) (limits : Limits) (at : ℕ) : Type 0 where
  pub inside : at ≤ length text
  pub within : within_limits limits.n limits.t ≡ true
  pub same : read_lines text ≡ rest_of text limits at

-- What a text is whose first line is answered so; a refusal is of line 1.
abbrev pub FirstRead : (text : List ℕ) → Result Limits Refusal → (at : ℕ) → Type 0
FirstRead text (Ok limits) at = AfterHeader text limits at
FirstRead text (Err refusal) at = read_lines text ≡ refused (number_of refusal) 1
