-- What a line is answered with, whatever the format (document 01, 'Refused calls': "the first wrong line rules, and in it the first that applies").
use Rattle.std.specs.Prelude.{ℕ}

-- What a format makes of one line: it stands at another stage, or refuses the line with this number.
pub data LineVerdict (S : Type 0) : Type 0 where
  next : S → LineVerdict S
  refuse : (number : ℕ) → LineVerdict S
