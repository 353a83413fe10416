-- What an operation answers (document 01, 'Refused calls').
use Rattle.std.specs.Prelude.{ℕ}

-- Accepted with what is given; or refused with the number of the refusal and the first wrong line, counted from 1 (0 if no line is wrong).
pub data Answer (A : Type 0) : Type 0 where
  accepted : A → Answer A
  refused : (number line : ℕ) → Answer A

-- Goes on with what was given. A refusal stays as it is.
abbrev pub and_then : {A B : Type 0} → Answer A → (A → Answer B) → Answer B
and_then (accepted a) next = next a
and_then (refused number line) next = refused number line
