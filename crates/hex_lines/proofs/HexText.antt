-- Laws of lines of hexadecimal text: what one byte more does to a line that is being written, and one line more to an output. Assumes nothing.
use mathlib.Core.List.{List, [], ◌∷◌, ◌++◌}
use mathlib.Core.Path.{◌≡◌, refl, sym, ap, ap₂, ◌∙◌}
use Prim.Native.Nat.{ℕ, suc, ◌+◌, ◌-◌, ◌*◌, ◌/◌, ◌%◌, ◌≤◌, ◌<◌}
use native.Mathlib.Omega.{arith}
use native.Mathlib.Numerals.{add-one}
use borrow.Rule.Slice.PartMut.{mid_of, put_mid}
use lib.ListN.{length, set, drop, get_or, take, length-take, length-append}
use lib.Seq.{take-suc, take_all}
use Rattle.general.proofs.Overwrite.{set_seam, put_part}
use Rattle.text.specs.HexText.{digit_of, hex_digits, hex_line, line_size}
use Rattle.text.proofs.HexText.{length-hex_digits, length-hex_line, hex_digits_snoc}

-- A line of which i bytes are written, over what stood there before.
unfoldable pub part_line : List ℕ → List ℕ → ℕ → List ℕ
part_line bytes before i = hex_digits (take i bytes) ++ drop (2 * i) before

module _ (bytes before : List ℕ) where
  pub part_none : part_line bytes before 0 ≡ before
  unfolding part_line hex_digits
  part_none = refl

  length_part : (i : ℕ) → i ≤ length bytes → length (hex_digits (take i bytes)) ≡ 2 * i
  length_part i h = length-hex_digits (take i bytes) ∙ ap (λ (m : ℕ). 2 * m) (length-take i bytes ∙ omega arith)

  -- One byte more.
  pub part_more : (i : ℕ) → i < length bytes → 2 * i + 1 < length before
      → set (set (part_line bytes before i) (2 * i) (digit_of (get_or bytes i 0 / 16))) (2 * i + 1) (digit_of (get_or bytes i 0 % 16))
      ≡ part_line bytes before (i + 1)
  unfolding part_line
  part_more i h g =
      let high = digit_of (get_or bytes i 0 / 16) in
      let low = digit_of (get_or bytes i 0 % 16) in
      let done = hex_digits (take i bytes) in
      let place : suc (2 * i) ≡ 2 * i + 1 = omega arith in
      let next : suc (2 * i + 1) ≡ 2 * (i + 1) = omega arith in
      let size : length (done ++ (high ∷ [])) ≡ 2 * i + 1 = length-append done (high ∷ []) ∙ ap (λ (m : ℕ). m + 1) (length_part i (omega arith)) in
      let digits : hex_digits (take (i + 1) bytes) ≡ done ++ (high ∷ []) ++ (low ∷ []) =
      ap (λ (m : ℕ). hex_digits (take m bytes)) (add-one i) ∙ ap hex_digits (take-suc bytes i 0 h) ∙ hex_digits_snoc (take i bytes) (get_or bytes i 0) in
      ap (λ (l : List ℕ). set l (2 * i + 1) low)
      (set_seam done before (2 * i) high (length_part i (omega arith)) (omega arith) ∙ ap (λ (m : ℕ). done ++ (high ∷ []) ++ drop m before) place)
      ∙ set_seam (done ++ (high ∷ [])) before (2 * i + 1) low size g
      ∙ ap₂ (λ (l : List ℕ) (m : ℕ). l ++ drop m before) (sym digits) next

  -- The closing 0A.
  pub part_closed : 2 * length bytes < length before
      → set (part_line bytes before (length bytes)) (2 * length bytes) 10 ≡ hex_line bytes ++ drop (line_size (length bytes)) before
  unfolding part_line hex_line
  part_closed g =
      set_seam (hex_digits (take (length bytes) bytes)) before (2 * length bytes) 10 (length_part (length bytes) (omega arith)) g
      ∙ rw (take_all (length bytes) bytes (omega arith), add-one)

-- The part of an output from place m on, lent for the line of some bytes, comes back with it.
pub line_more : (done before bytes out back : List ℕ) (m : ℕ) → length done ≡ m → m + line_size (length bytes) ≤ length before
    → out ≡ done ++ drop m before
    → back ≡ hex_line bytes ++ drop (line_size (length bytes)) (mid_of m (length out - m) out)
    → put_mid m (length out - m) out back ≡ done ++ hex_line bytes ++ drop (m + line_size (length bytes)) before
line_more done before bytes out back m at-m fits o b =
    rw (b, o) (put_part done (hex_line bytes) before m (line_size (length bytes)) at-m (length-hex_line bytes) fits)
