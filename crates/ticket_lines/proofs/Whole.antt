-- A line as two words says what its bytes say: a longer one than sixteen bytes is of no kind. Assumes nothing.
use mathlib.Core.List.{List}
use mathlib.Core.Path.{◌≡◌, refl, sym, ap, ◌∙◌}
use mathlib.Core.Bool.{false, and-false}
use Prim.Native.Nat.{ℕ, ◌≤◌, ◌<◌}
use native.Mathlib.Omega.{arith}
use borrow.Author.Tests.{ne_eqb}
use lib.Dec.{eqb}
use lib.ListN.{length, get_or}
use Rattle.general.proofs.Bytes.{Bytes}
use Rattle.general.proofs.Tests.{by_order}
use Rattle.ticket_format.specs.Says.{is_kind, header_says, proposal_says, failure_says, line_says}
use Rattle.ticket_format.specs.declared.Place.{Place}
use Rattle.ticket_format.specs.declared.Place.TheVariants.{Proposals, Failures, Ended}
use Rattle.ticket_format.specs.LineAnswer.{HeaderAnswer}
use Rattle.ticket_format.specs.LineAnswer.LineAnswer.{Refused}
use Rattle.lines.specs.code.Words.{upper_word, lower_word}
use Rattle.lines.specs.declared.Line.{Line}
use Rattle.lines.proofs.Words.{words_bytes}
use Rattle.ticket_lines.specs.code.Said.{bytes_in}
use Rattle.ticket_lines.proofs.Fields.{length-line}

not_of_size : (kind size : ℕ) (b : List ℕ) → size < length b → is_kind kind size b ≡ false
unfolding is_kind
not_of_size kind size b h =
    let other : length b ≡ size → ⊥ = λ e. omega arith in
    rw (ne_eqb (length b) size other) (and-false (eqb (get_or b 0 0) kind))

long_header : (b : List ℕ) → 16 < length b → header_says b ≡ HeaderAnswer.Refused 3
unfolding header_says
long_header b h = rw (not_of_size 1 3 b (omega arith))

long_line : (n t : ℕ) (place : Place) (b : List ℕ) → 16 < length b → line_says n t place b ≡ Refused 3
unfolding line_says proposal_says failure_says
long_line n t (Proposals count) b h = rw (not_of_size 2 6 b (omega arith))
long_line n t (Failures lines last) b h = rw (not_of_size 4 1 b (omega arith), not_of_size 3 13 b (omega arith))
long_line n t Ended b h = refl

module _ (b : List ℕ) (each : Bytes b) (line : Line) (sized : length b ≡ line.size) (upper : line.head ≡ upper_word b) (lower : line.tail ≡ lower_word b) where
  as_bytes : length b ≤ 16 → bytes_in line ≡ b
  as_bytes few = rw (← sized, upper, lower) (words_bytes b each few)

  longer : 16 < length b → 16 < length (bytes_in line)
  longer h = rw (length-line line.size line.head line.tail) (omega arith)

  pub header_words : header_says (bytes_in line) ≡ header_says b
  header_words =
      by_order 17 (length b) (λ long. long_header (bytes_in line) (longer long) ∙ sym (long_header b long))
      (λ short. ap header_says (as_bytes (omega arith)))

  pub line_words : (n t : ℕ) (place : Place) → line_says n t place (bytes_in line) ≡ line_says n t place b
  line_words n t place =
      by_order 17 (length b) (λ long. long_line n t place (bytes_in line) (longer long) ∙ sym (long_line n t place b long))
      (λ short. ap (line_says n t place) (as_bytes (omega arith)))
