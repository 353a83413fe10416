-- Reading a text line by line, whatever the format (document 01, 'Refused calls': "the first wrong line rules, and in it the first that applies").
use Rattle.std.specs.Prelude.{List, [], ◌∷◌, ℕ, suc}
use Rattle.general.specs.Answer.{Answer, refused}
use Rattle.text.specs.Line.{Line, bytes, no_line}
use Rattle.ticket_format.specs.LineVerdict.{LineVerdict, next, refuse}

module _ {S A : Type 0} where
  -- Goes on with the next stage, or ends the reading with the refusal at line k.
  unfoldable pub proceed : LineVerdict S → (k : ℕ) → (S → Answer A) → Answer A
  proceed (next s) k go = go s
  proceed (refuse number) k go = refused number k

  -- Reads the lines from line k on, at stage `s` of a format: `accept` is what it makes of a line's bytes, and `end` what it makes of a text that is over.
  -- A line that gives no bytes is refusal 2.
  unfoldable pub read_from : (S → List ℕ → LineVerdict S) → (S → ℕ → Answer A) → S → (k : ℕ) → List Line → Answer A
  read_from accept end s k [] = end s k
  read_from accept end s k (no_line ∷ lines) = refused 2 k
  read_from accept end s k (bytes b ∷ lines) = proceed (accept s b) k (λ s'. read_from accept end s' (suc k) lines)
