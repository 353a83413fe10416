-- What a line of a ticket says, or the number of its refusal (document 01, 'The ticket' and 'Refused calls', refusals 3 to 8). `Place` is the code's enum:
-- after so many proposal lines; after so many failure lines, the last of them of this process (0 if there was none); past the 04.
use Rattle.std.specs.Prelude.{ℕ}
use Rattle.ticket_format.specs.declared.FailureLine.{FailureLine}
use Rattle.ticket_format.specs.declared.Place.{Place}

-- What the header says, n and t, or the number of its refusal.
pub data HeaderAnswer : Type 0 where
  Limits : (n t : ℕ) → HeaderAnswer
  Refused : (number : ℕ) → HeaderAnswer

-- What a line behind the header says, or the number of its refusal.
pub data LineAnswer : Type 0 where
  -- after so many proposals this value; and the next place
  Proposal : (count value : ℕ) → Place → LineAnswer
  -- a crash; with it there are so many
  Crash : (lines : ℕ) → FailureLine → LineAnswer
  -- the 04
  End : LineAnswer
  Refused : (number : ℕ) → LineAnswer
