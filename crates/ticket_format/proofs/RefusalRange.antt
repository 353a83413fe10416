-- A ticket is refused with a number from 1 to 8, at a line that two bytes hold: a text has at most a line for each of its bytes and one more. Assumes nothing.
use mathlib.Core.List.{List, [], ◌∷◌}
use mathlib.Core.Bool.{Bool, true, false, cond}
use Prim.Native.Nat.{ℕ, suc, ◌+◌, ◌≤◌}
use native.Mathlib.Omega.{arith}
use mathlib.Core.Path.{◌≡◌, refl}
use lib.Dec.{eqb, ltb}
use lib.ListN.{length}
use borrow.Author.Tests.{ltb-false}
use Rattle.text.specs.Line.{Line, bytes, no_line, Scan, even, odd, broken, scan, closed, unclosed, lines_from, lines_of}
use Rattle.ticket_format.specs.LineVerdict.{LineVerdict, next, refuse}
use Rattle.general.specs.Answer.{Answer, accepted, refused}
use Rattle.ticket_format.specs.Reading.{proceed, read_from}
use Rattle.ticket_format.specs.Accept.{Stage, header, body, begin, store, accept}
use Rattle.ticket_format.specs.declared.Place.{Place}
use Rattle.ticket_format.specs.declared.Place.TheVariants.{Proposals, Failures, Ended}
use Rattle.ticket_format.specs.LineAnswer.{HeaderAnswer}
use Rattle.ticket_format.specs.LineAnswer.{LineAnswer}
use Rattle.ticket_format.proofs.LineCases.{HeaderWrong, no_header, outside_limits, HeaderCase, limits_said, header_refused, header_case, LineCase}
use Rattle.ticket_format.proofs.LineCases.{LineWrong, no_proposal, other_station, no_failure_or_end, failures_over, misplaced, unsuited, after_end}
use Rattle.ticket_format.proofs.LineCases.{proposal_said, crash_said, end_said, line_refused, line_case}
use Rattle.ticket_format.specs.Ticket.{ticket_limit, at_end, read_ticket}

-- A line, if it is refused, is refused with one of these numbers.
unfoldable Numbered : {S : Type 0} → LineVerdict S → Type 0
Numbered (next s) = Unit {0}
Numbered (refuse number) = (1 ≤ number) × (number ≤ 8)

-- A text, if it is refused, is refused with one of these numbers, at this line at the latest.
unfoldable pub RefusedBy : {A : Type 0} → ℕ → Answer A → Type 0
RefusedBy last (accepted a) = Unit {0}
RefusedBy last (refused number k) = (1 ≤ number) × (number ≤ 8) × (k ≤ last)

-- Reading, whatever the format.
module _ {S A : Type 0} (accept : S → List ℕ → LineVerdict S) (end : S → ℕ → Answer A) (last : ℕ)
    (numbered : (s : S) (b : List ℕ) → Numbered (accept s b)) (ends : (s : S) (k : ℕ) → k ≤ last → RefusedBy last (end s k)) where
  proceed_refused : (step : LineVerdict S) (k : ℕ) (go : S → Answer A) → Numbered step → k ≤ last → ((s : S) → RefusedBy last (go s))
      → RefusedBy last (proceed step k go)
  unfolding Numbered RefusedBy proceed
  proceed_refused (next s) k go h g more = more s
  proceed_refused (refuse number) k go h g more = (h.0, h.1, g)

  reading_refused : (lines : List Line) (s : S) (k : ℕ) → k + length lines ≤ last → RefusedBy last (read_from accept end s k lines)
  unfolding read_from RefusedBy
  reading_refused [] s k h = ends s k (omega arith)
  reading_refused (no_line ∷ lines) s k h = (omega arith, omega arith, omega arith)
  reading_refused (bytes b ∷ lines) s k h =
      proceed_refused (accept s b) k _ (numbered s b) (omega arith) (λ (s' : S). reading_refused lines s' (suc k) (omega arith))

-- A text has at most a line for each of its bytes, and one more.
unclosed_few : (s : Scan) → length (unclosed s) ≤ 1
unfolding unclosed
unclosed_few (even []) = omega arith
unclosed_few (even (b ∷ bs)) = omega arith
unclosed_few (odd bs high) = omega arith
unclosed_few broken = omega arith

either_few : (test : Bool) (l m : List Line) (most : ℕ) → length l ≤ most → length m ≤ most → length (cond test l m) ≤ most
either_few true l m most h g = h
either_few false l m most h g = g

from_few : (text : List ℕ) (s : Scan) → length (lines_from s text) ≤ suc (length text)
unfolding lines_from
from_few [] s = unclosed_few s
from_few (c ∷ text) s =
    let ended = from_few text (even []) in
    let longer = from_few text (scan s c) in
    either_few (eqb c 10) (closed s ∷ lines_from (even []) text) (lines_from (scan s c) text) (suc (suc (length text)))
    (omega (arith, ended)) (omega (arith, longer))

-- A line of a ticket that is refused.
header_range : {b : List ℕ} {refusal : ℕ} → HeaderWrong b refusal → (1 ≤ refusal) × (refusal ≤ 8)
header_range (no_header e) = (omega arith, omega arith)
header_range (outside_limits kind e) = (omega arith, omega arith)

line_range : {n t refusal : ℕ} {b : List ℕ} {place : Place} → LineWrong n t b place refusal → (1 ≤ refusal) × (refusal ≤ 8)
line_range (no_proposal e) = (omega arith, omega arith)
line_range (other_station kind e) = (omega arith, omega arith)
line_range (no_failure_or_end e g) = (omega arith, omega arith)
line_range (failures_over kind many) = (omega arith, omega arith)
line_range (misplaced kind few e) = (omega arith, omega arith)
line_range (unsuited kind few placed e) = (omega arith, omega arith)
line_range after_end = (omega arith, omega arith)

line_numbered : (s : Stage) (b : List ℕ) → Numbered (accept s b)
unfolding accept begin store Numbered
line_numbered header b = by_case (header_case b)
  where
    by_case : {a : HeaderAnswer} → HeaderCase b a → Numbered (begin a)
    by_case (limits_said kind limits) = tt
    by_case (header_refused refusal wrong) = header_range wrong
line_numbered (body place x) b = by_case (line_case x.processes x.resilience b place)
  where
    by_case : {at : Place} {a : LineAnswer} → LineCase x.processes x.resilience b at a → Numbered (store x a)
    by_case (proposal_said kind station) = tt
    by_case (crash_said passes) = tt
    by_case (end_said kind) = tt
    by_case (line_refused refusal wrong) = line_range wrong

-- A text that is over.
end_refused : (last : ℕ) (s : Stage) (k : ℕ) → k ≤ last → RefusedBy last (at_end s k)
unfolding at_end RefusedBy
end_refused last header k h = (omega arith, omega arith, h)
end_refused last (body (Proposals count) x) k h = (omega arith, omega arith, h)
end_refused last (body (Failures lines station) x) k h = (omega arith, omega arith, h)
end_refused last (body Ended x) k h = tt

-- The line one past the last, of a text of at most 4,096 bytes.
abbrev pub last_refused : ℕ
last_refused = suc (suc ticket_limit)

pub ticket_refused : (text : List ℕ) → RefusedBy last_refused (read_ticket text)
unfolding read_ticket lines_of RefusedBy
ticket_refused text = by_length (ltb ticket_limit (length text)) refl
  where
    by_length : (long : Bool) → ltb ticket_limit (length text) ≡ long
        → RefusedBy last_refused (cond long (refused 1 0) (read_from accept at_end header 1 (lines_of text)))
    by_length true e = (omega arith, omega arith, omega arith)
    by_length false e =
        reading_refused accept at_end last_refused line_numbered (end_refused last_refused) (lines_of text) header 1
        (omega (arith, from_few text (even []), ltb-false ticket_limit (length text) e))
