-- The bytes of a line by its two words: how many, and each field of a header, a proposal and a failure line. Assumes nothing.
use mathlib.Core.List.{[], ◌∷◌}
use mathlib.Core.Path.{◌≡◌, refl, sym, ap, ◌∙◌}
use Prim.Native.Nat.{ℕ, zero, suc, ◌+◌, ◌*◌, ◌/◌, ◌%◌, ◌^◌, ◌<◌}
use native.Mathlib.Omega.{arith}
use lib.Bits.{bit_or, or_shifted}
use lib.ListN.{length, get_or, take, drop, length-append}
use Rattle.std.specs.Int.{w32, w64, to_be_bytes, from_be_bytes}
use Rattle.general.specs.BigEndian.{number, number_from, bytes_of}
use Rattle.general.proofs.BigEndian.{number_bytes, bytes_low}
use Rattle.lines.specs.code.Words.{line_bytes}

length-bytes_of : (width v : ℕ) → length (bytes_of width v) ≡ width
unfolding bytes_of
length-bytes_of zero v = refl
length-bytes_of (suc width) v = length-append (bytes_of width (v / 256)) (v % 256 ∷ []) ∙ ap (λ (k : ℕ). k + 1) (length-bytes_of width (v / 256)) ∙ omega arith

pub length-line : (size head tail : ℕ) → length (line_bytes size head tail) ≡ size
unfolding line_bytes
length-line size head tail = length-bytes_of size (head * 2 ^ 64 + tail)

-- The header's three.
module _ (size head tail : ℕ) (three : size ≡ 3) where
  pub header_kind : get_or (line_bytes size head tail) 0 0 ≡ get_or (to_be_bytes w64 tail) 5 0
  unfolding line_bytes bytes_of
  header_kind = rw three (omega arith)

  pub header_n : get_or (line_bytes size head tail) 1 0 ≡ get_or (to_be_bytes w64 tail) 6 0
  unfolding line_bytes bytes_of
  header_n = rw three (omega arith)

  pub header_t : get_or (line_bytes size head tail) 2 0 ≡ get_or (to_be_bytes w64 tail) 7 0
  unfolding line_bytes bytes_of
  header_t = rw three (omega arith)

pub ruleset header_fields = (length-line, header_kind, header_n, header_t)

-- A proposal's six.
module _ (size head tail : ℕ) (six : size ≡ 6) where
  pub proposal_kind : get_or (line_bytes size head tail) 0 0 ≡ get_or (to_be_bytes w64 tail) 2 0
  unfolding line_bytes bytes_of
  proposal_kind = rw six (omega arith)

  pub proposal_station : get_or (line_bytes size head tail) 1 0 ≡ get_or (to_be_bytes w64 tail) 3 0
  unfolding line_bytes bytes_of
  proposal_station = rw six (omega arith)

  pub proposal_value : number (drop 2 (line_bytes size head tail)) ≡ from_be_bytes w32 (drop 4 (to_be_bytes w64 tail))
  unfolding line_bytes bytes_of number number_from
  proposal_value = rw six (omega arith)

pub ruleset proposal_fields = (length-line, proposal_kind, proposal_station, proposal_value)

-- A line of one byte.
pub end_kind : (size head tail : ℕ) → size ≡ 1 → get_or (line_bytes size head tail) 0 0 ≡ get_or (to_be_bytes w64 tail) 7 0
unfolding line_bytes bytes_of
end_kind size head tail one = rw one (omega arith)

eight_of : (v : ℕ) → take 8 (drop 4 (bytes_of 13 v)) ≡ bytes_of 8 (v / 256)
unfolding bytes_of
eight_of v = refl

-- The eight bytes of its set, above which stand its kind, station, round and step, and below which its count.
set_bytes : (head tail : ℕ) → take 8 (drop 4 (line_bytes 13 head tail)) ≡ bytes_of 8 (head % 256 * 72057594037927936 + tail / 256)
unfolding line_bytes
set_bytes head tail =
    let above : (head * 2 ^ 64 + tail) / 256 ≡ head / 256 * 256 ^ 8 + (head % 256 * 72057594037927936 + tail / 256) = omega arith in
    eight_of (head * 2 ^ 64 + tail) ∙ ap (bytes_of 8) above ∙ bytes_low 8 (head / 256) (head % 256 * 72057594037927936 + tail / 256)

-- A failure line's thirteen, of which eight are in the lower word.
pub failure_kind : (size head tail : ℕ) → size ≡ 13 → tail < 2 ^ 64 → get_or (line_bytes size head tail) 0 0 ≡ get_or (to_be_bytes w64 head) 3 0
unfolding line_bytes bytes_of
failure_kind size head tail thirteen low = rw thirteen (omega arith)

module _ (head tail : ℕ) (low : tail < 2 ^ 64) where
  pub failure_station : get_or (line_bytes 13 head tail) 1 0 ≡ get_or (to_be_bytes w64 head) 4 0
  unfolding line_bytes bytes_of
  failure_station = omega arith

  pub failure_round : get_or (line_bytes 13 head tail) 2 0 ≡ get_or (to_be_bytes w64 head) 5 0
  unfolding line_bytes bytes_of
  failure_round = omega arith

  pub failure_step : get_or (line_bytes 13 head tail) 3 0 ≡ get_or (to_be_bytes w64 head) 6 0
  unfolding line_bytes bytes_of
  failure_step = omega arith

  -- The set's first byte is the last of the upper word.
  pub failure_set : number (take 8 (drop 4 (line_bytes 13 head tail))) ≡ bit_or (head * 2 ^ 56 % 2 ^ 64) (tail / 256)
  failure_set =
      let fits : head % 256 * 72057594037927936 + tail / 256 < 256 ^ 8 = omega arith in
      let below : tail / 256 < 2 ^ 56 = omega arith in
      let shifted : head * 2 ^ 56 % 2 ^ 64 ≡ head % 256 * 2 ^ 56 = omega arith in
      ap number (set_bytes head tail) ∙ number_bytes 8 (head % 256 * 72057594037927936 + tail / 256) fits
      ∙ rw shifted (sym (or_shifted (head % 256) 56 (tail / 256) below))

  pub failure_count : get_or (line_bytes 13 head tail) 12 0 ≡ get_or (to_be_bytes w64 tail) 7 0
  unfolding line_bytes bytes_of
  failure_count = omega arith

pub ruleset kinds = (length-line, end_kind, failure_kind)

pub ruleset failure_fields = (failure_station, failure_round, failure_step, failure_set, failure_count)
