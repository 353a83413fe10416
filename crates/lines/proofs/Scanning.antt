-- How reading a line's digits goes on, two at a time, and where it stops. Assumes nothing.
use mathlib.Core.List.{List, [], ◌∷◌, ◌++◌}
use mathlib.Core.Path.{◌≡◌, refl, ap, ◌∙◌}
use Prim.Native.Nat.{ℕ, suc, ◌+◌, ◌-◌, ◌*◌, ◌/◌, ◌%◌, ◌≤◌, ◌<◌}
use native.Mathlib.Omega.{arith}
use lib.Bits.{bit_or, or_shifted}
use lib.ListN.{length, get_or, drop, length-append}
use lib.Seq.{drop-cons}
use Rattle.std.proofs.Common.{Fits, w8}
use Rattle.std.proofs.Math.Bool.{and-false}
use Rattle.general.specs.BigEndian.{number, number_from}
use Rattle.general.proofs.Tests.{by_order}
use Rattle.text.specs.Digit.{no_digit, digit_value, is_digit, digit_table}
use Rattle.text.specs.Line.{even, odd, scan, lines_from, lines_of}
use Rattle.text.proofs.Digit.{digit_entry, value_digit, value_no_digit, value_most, value_below_mark}
use Rattle.text.proofs.LineSteps.{lines_digit}
use Rattle.lines.specs.code.Words.{upper_word, lower_word}
use Rattle.lines.specs.code.Scanned.{Scanned, Stops}
use Rattle.lines.proofs.Words.{word, upper_byte, lower_more, upper_more}

-- Before the first digit.
pub scanned_none : (text : List ℕ) (at : ℕ) → at ≤ length text → Scanned text at at 0 0
unfolding lines_of upper_word lower_word number number_from
scanned_none text at h = record { bytes = []; upper = refl; lower = refl; place = omega arith; inside = h; lines = refl }

-- The two characters at a place.
two_at : (text : List ℕ) (end : ℕ) → end + 1 < length text → drop end text ≡ get_or text end 0 ∷ get_or text (end + 1) 0 ∷ drop (suc (end + 1)) text
two_at text end h =
    let next : suc end ≡ end + 1 = omega arith in
    drop-cons text end 0 (omega arith)
    ∙ ap (λ (l : List ℕ). get_or text end 0 ∷ l) (ap (λ (k : ℕ). drop k text) next ∙ drop-cons text (end + 1) 0 h)

module _ (text : List ℕ) (at end head tail : ℕ) (here : Scanned text at end head tail) where
  abbrev c : ℕ
  c = get_or text end 0

  abbrev d : ℕ
  d = get_or text (end + 1) 0

  -- Two digits more.
  pub scanned_more : (high low byte : ℕ) → 1 < length text - end → high ≡ digit_value c → low ≡ digit_value d → high ≤ 15 → low ≤ 15
      → byte ≡ bit_or (high * 16 % word) low
      → Scanned text at (end + 2) (bit_or (head * 256 % word) (tail / upper_byte)) (bit_or (tail * 256 % word) byte)
  unfolding scan
  scanned_more high low byte more eh el few few' eb =
      let shifted : high * 16 % word ≡ high * 16 = omega arith in
      let joined : byte ≡ high * 16 + low = eb ∙ rw shifted (or_shifted high 4 low (omega arith)) in
      let small : byte < 256 = omega arith in
      let made : digit_value c * 16 + digit_value d ≡ byte = omega arith in
      let next : suc (end + 1) ≡ end + 2 = omega arith in
      let rest : List ℕ = drop (suc (end + 1)) text in
      let first = value_digit c (omega arith) in
      let second = value_digit d (omega arith) in
      let read : lines_from (even here.bytes) (c ∷ d ∷ rest) ≡ lines_from (even (here.bytes ++ (byte ∷ []))) rest =
      lines_digit (even here.bytes) c (d ∷ rest) first
      ∙ rw first (lines_digit (odd here.bytes (digit_value c)) d rest second ∙ rw (second, made) refl) in
      record {
        bytes = here.bytes ++ (byte ∷ []);
        upper = rw (here.upper, here.lower) (upper_more here.bytes byte small);
        lower = rw here.lower (lower_more here.bytes byte small);
        place = rw length-append (omega (arith, here.place));
        inside = omega arith;
        lines = here.lines
            ∙ ap (lines_from (even here.bytes)) (two_at text end (omega arith))
            ∙ read
            ∙ ap (λ (k : ℕ). lines_from (even (here.bytes ++ (byte ∷ []))) (drop k text)) next;
      }

-- No two digits stand where the values of two characters add up to the mark or more, nor at the end of the text.
module _ (text : List ℕ) (end : ℕ) where
  abbrev first : ℕ
  first = digit_value (get_or text end 0)

  abbrev second : ℕ
  second = digit_value (get_or text (end + 1) 0)

  pub stops_at_mark : (high low : ℕ) → high ≡ first → low ≡ second → no_digit ≤ high + low → Stops text end
  unfolding Stops
  stops_at_mark high low e g marked more =
      by_order first 15
      (λ digit. rw (value_no_digit (get_or text (end + 1) 0) (omega arith)) (and-false (is_digit (get_or text end 0))))
      (λ none. rw (value_no_digit (get_or text end 0) none) refl)

pub stops_at_end : (text : List ℕ) (end : ℕ) → length text - end ≤ 1 → Stops text end
unfolding Stops
stops_at_end text end h more = absurd (omega arith)

-- What is known of two characters by what the table has for them: their values, which the mark or two digits tell apart.
pub record PairRead (text : List ℕ) (end high low : ℕ) : Type 0 where
  pub first : high ≡ digit_value (get_or text end 0)
  pub second : low ≡ digit_value (get_or text (end + 1) 0)
  pub first_most : high ≤ no_digit
  pub second_most : low ≤ no_digit
  pub are_digits : high + low < no_digit → (high ≤ 15) × (low ≤ 15)

pub pair_read : (text : List ℕ) (end high low : ℕ) → ((i : ℕ) → Fits w8 (get_or text i 0)) → high ≡ get_or digit_table (get_or text end 0) 0
    → low ≡ get_or digit_table (get_or text (end + 1) 0) 0 → PairRead text end high low
pair_read text end high low bytes e g =
    let byte = (bytes end).fits in
    let next_byte = (bytes (end + 1)).fits in
    let first : high ≡ digit_value (get_or text end 0) = e ∙ digit_entry _ _ refl byte in
    let second : low ≡ digit_value (get_or text (end + 1) 0) = g ∙ digit_entry _ _ refl next_byte in
    record {
      first = first;
      second = second;
      first_most = omega (arith, first, value_most _ byte);
      second_most = omega (arith, second, value_most _ next_byte);
      are_digits = λ less.
          let few = value_below_mark (get_or text end 0) byte (omega arith) in
          let few_too = value_below_mark (get_or text (end + 1) 0) next_byte (omega arith) in
          (omega arith, omega arith);
    }
