-- What reading a line answers, a law for each return of `Cursor::read`: by the bytes whose digits stand from its place on, and by what stands behind.
-- Assumes nothing.
use mathlib.Core.List.{List, [], ◌∷◌}
use mathlib.Core.Path.{◌≡◌, refl, ap, ◌∙◌}
use mathlib.Core.Bool.{Bool, true, false}
use Prim.Native.Nat.{ℕ, suc, ◌+◌, ◌-◌, ◌*◌, ◌/◌, ◌≤◌, ◌<◌}
use native.Mathlib.Omega.{arith}
use lib.Dec.{eqb}
use lib.ListN.{length, get_or, drop, drop_of_length-le}
use lib.Seq.{drop-cons}
use Rattle.std.proofs.Common.{None, Some}
use Rattle.general.proofs.Tests.{by_equal, by_order}
use Rattle.text.specs.Digit.{digit_value, is_digit}
use Rattle.text.specs.Line.{bytes, no_line, even, odd, broken, scan, closed, unclosed, lines_from, lines_of}
use Rattle.text.proofs.LineSteps.{lines_digit, lines_other, lines_closed}
use Rattle.lines.specs.code.Read.{first_line, read_at}
use Rattle.lines.specs.code.Scanned.{Scanned, Stops}

pub answer_past : (text : List ℕ) (at : ℕ) → length text ≤ at → read_at text at ≡ None
unfolding read_at lines_of lines_from unclosed first_line
answer_past text at h = rw (drop_of_length-le text h) refl

-- Where something stands that is neither digit nor 0A, no line begins.
broken_step : (at e : ℕ) (l : List ℕ) (end : Bool) → eqb e 10 ≡ end → first_line at (lines_from broken l) ≡ None
    → first_line at (lines_from broken (e ∷ l)) ≡ None
unfolding first_line lines_from closed scan
broken_step at e l true h more = rw h refl
broken_step at e l false h more = rw h more

pub broken_first : (at : ℕ) (l : List ℕ) → first_line at (lines_from broken l) ≡ None
unfolding first_line lines_from unclosed
broken_first at [] = refl
broken_first at (e ∷ l) = broken_step at e l (eqb e 10) refl (broken_first at l)

module _ (at : ℕ) (b : List ℕ) (high : ℕ) where
  -- Nor where a single digit is left: behind it the text is over, or stands 0A, or something that is no digit.
  odd_over : first_line at (lines_from (odd b high) []) ≡ None
  unfolding first_line lines_from unclosed
  odd_over = refl

  odd_then : (e : ℕ) (l : List ℕ) → is_digit e ≡ false → first_line at (lines_from (odd b high) (e ∷ l)) ≡ None
  unfolding first_line closed
  odd_then e l h =
      by_equal e 10 (λ close. ap (first_line at) (lines_closed (odd b high) e l close))
      (λ other. ap (first_line at) (lines_other (odd b high) e l h other) ∙ broken_first at l)

-- The line of so many bytes.
unclosed_first : (at : ℕ) (b : List ℕ) → first_line at (unclosed (even b)) ≡ None
unfolding first_line unclosed
unclosed_first at [] = refl
unclosed_first at (a ∷ b) = refl

closed_none : (b : List ℕ) → length b ≡ 0 → closed (even b) ≡ no_line
unfolding closed
closed_none [] h = refl
closed_none (a ∷ b) h = absurd (omega arith)

closed_some : (b : List ℕ) → (length b ≡ 0 → ⊥) → closed (even b) ≡ bytes b
unfolding closed
closed_some [] h = absurd (h refl)
closed_some (a ∷ b) h = refl

module _ (text : List ℕ) (at end head tail : ℕ) (here : Scanned text at end head tail) where
  abbrev c : ℕ
  c = get_or text end 0

  -- What is answered, by what stands behind the digits.
  behind : end < length text → read_at text at ≡ first_line at (lines_from (even here.bytes) (c ∷ drop (suc end) text))
  unfolding read_at
  behind h = ap (first_line at) here.lines ∙ ap (λ (l : List ℕ). first_line at (lines_from (even here.bytes) l)) (drop-cons text end 0 h)

  pub answer_unclosed : length text ≤ end → read_at text at ≡ None
  unfolding read_at lines_from
  answer_unclosed h = ap (first_line at) here.lines ∙ rw (drop_of_length-le text h) (unclosed_first at here.bytes)

  -- A single digit.
  one_digit : Stops text end → is_digit c ≡ true → first_line at (lines_from (odd here.bytes (digit_value c)) (drop (suc end) text)) ≡ None
  unfolding Stops
  one_digit stops digit =
      let next : suc end ≡ end + 1 = omega arith in
      ap (λ (k : ℕ). first_line at (lines_from (odd here.bytes (digit_value c)) (drop k text))) next
      ∙ by_order (length text) (end + 1)
      (λ over.
      ap (λ (l : List ℕ). first_line at (lines_from (odd here.bytes (digit_value c)) l)) (drop_of_length-le text over)
      ∙ odd_over at here.bytes (digit_value c))
      (λ more.
      let alone : is_digit (get_or text (end + 1) 0) ≡ false = rw digit at (stops more) in
      ap (λ (l : List ℕ). first_line at (lines_from (odd here.bytes (digit_value c)) l)) (drop-cons text (end + 1) 0 more)
      ∙ odd_then at here.bytes (digit_value c) (get_or text (end + 1) 0) (drop (suc (end + 1)) text) alone)

  pub answer_other : Stops text end → end < length text → (c ≡ 10 → ⊥) → read_at text at ≡ None
  unfolding scan
  answer_other stops h other = by_digit (is_digit c) refl
    where
      by_digit : (digit : Bool) → is_digit c ≡ digit → read_at text at ≡ None
      by_digit false e = behind h ∙ ap (first_line at) (lines_other (even here.bytes) c (drop (suc end) text) e other) ∙ broken_first at (drop (suc end) text)
      by_digit true e =
          let read : lines_from (even here.bytes) (c ∷ drop (suc end) text) ≡ lines_from (odd here.bytes (digit_value c)) (drop (suc end) text) =
          lines_digit (even here.bytes) c (drop (suc end) text) e ∙ rw e refl in
          behind h ∙ ap (first_line at) read ∙ one_digit stops e

  -- The lines that 0A closes.
  closed_here : end < length text → c ≡ 10 → read_at text at ≡ first_line at (closed (even here.bytes) ∷ lines_of (drop (suc end) text))
  closed_here h close = behind h ∙ ap (first_line at) (lines_closed (even here.bytes) c (drop (suc end) text) close)

  pub answer_empty : end < length text → c ≡ 10 → end ≡ at → read_at text at ≡ None
  unfolding first_line
  answer_empty h close same =
      let none : length here.bytes ≡ 0 = omega (arith, here.place) in
      closed_here h close ∙ rw (closed_none here.bytes none) refl

  pub answer_line : end < length text → c ≡ 10 → (end ≡ at → ⊥)
      → read_at text at ≡ Some (record { size = (end - at) / 2; head = head; tail = tail }, record { at = end + 1 })
  unfolding first_line
  answer_line h close some =
      let place = here.place in
      let size : (end - at) / 2 ≡ length here.bytes = omega arith in
      let next : end + 1 ≡ at + 2 * length here.bytes + 1 = omega arith in
      let filled : length here.bytes ≡ 0 → ⊥ = λ z. some (omega arith) in
      closed_here h close ∙ rw (closed_some here.bytes filled, size, next, here.upper, here.lower) refl
