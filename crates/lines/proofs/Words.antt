-- Laws of the two words of a line: one byte more, and that they are the bytes themselves of a line of at most sixteen. Assumes nothing.
use mathlib.Core.List.{List, [], ◌∷◌, ◌++◌}
use mathlib.Core.Path.{◌≡◌, sym, ap, ◌∙◌}
use Prim.Native.Nat.{ℕ, ◌+◌, ◌*◌, ◌/◌, ◌%◌, ◌^◌, ◌≤◌, ◌<◌}
use native.Mathlib.Omega.{arith}
use native.Mathlib.Nat.{pow-le-pow_right, zero-lt-suc, lt_of_lt_of_le, div-lt_iff_lt-mul, mod-eq_of_lt}
use lib.Bits.{bit_or, or_shifted}
use lib.ListN.{length}
use Rattle.general.specs.BigEndian.{number}
use Rattle.general.proofs.Bytes.{Bytes}
use Rattle.general.proofs.BigEndian.{number_from_snoc, number_below, bytes_number}
use Rattle.lines.specs.code.Words.{upper_word, lower_word, line_bytes}

-- Where a word of 64 bits ends, and where its uppermost byte begins.
abbrev pub word : ℕ
word = 18446744073709551616

abbrev pub upper_byte : ℕ
upper_byte = 72057594037927936

-- A word that is moved up by one byte, with this byte below.
moved_up : (q s : ℕ) → s < 256 → bit_or (q % word * 256 % word) s ≡ (q * 256 + s) % word
moved_up q s h =
    let room : q % word * 256 % word ≡ q % upper_byte * 256 = omega arith in
    let below : q % upper_byte * 256 + s ≡ (q * 256 + s) % word = omega arith in
    rw room (or_shifted (q % upper_byte) 8 s h ∙ below)

-- The upper word of a number, moved up with the byte that leaves the lower one.
shifted : (n c : ℕ) → c < 256 → bit_or (n / word % word * 256 % word) (n % word / upper_byte) ≡ (n * 256 + c) / word % word
shifted n c byte =
    let top : n % word / upper_byte < 256 = omega arith in
    let carried : (n * 256 + c) / word ≡ n / word * 256 + n % word / upper_byte = omega arith in
    moved_up (n / word) (n % word / upper_byte) top ∙ ap (λ (m : ℕ). m % word) (sym carried)

module _ (b : List ℕ) (c : ℕ) (byte : c < 256) where
  number_more : number (b ++ (c ∷ [])) ≡ number b * 256 + c
  unfolding number
  number_more = number_from_snoc 0 b c

  pub lower_more : bit_or (lower_word b * 256 % word) c ≡ lower_word (b ++ (c ∷ []))
  unfolding lower_word
  lower_more = rw number_more (moved_up (number b) c byte)

  pub upper_more : bit_or (upper_word b * 256 % word) (lower_word b / upper_byte) ≡ upper_word (b ++ (c ∷ []))
  unfolding upper_word lower_word
  upper_more = rw number_more (shifted (number b) c byte)

whole_number : (n : ℕ) → n / word < word → n / word % word * word + n % word ≡ n
whole_number n h =
    let upper : n / word % word ≡ n / word = mod-eq_of_lt h in
    rw upper (omega arith)

-- A line of at most sixteen bytes is what its two words stand for.
pub words_bytes : (b : List ℕ) → Bytes b → length b ≤ 16 → line_bytes (length b) (upper_word b) (lower_word b) ≡ b
unfolding line_bytes upper_word lower_word
words_bytes b each few =
    let below : number b < 256 ^ length b = number_below b each in
    let most : 256 ^ length b ≤ 256 ^ 16 = pow-le-pow_right (zero-lt-suc 255) few in
    let high : number b / word < word = (div-lt_iff_lt-mul (zero-lt-suc 18446744073709551615)).1 (lt_of_lt_of_le below most) in
    let whole : number b / word % word * word + number b % word ≡ number b = whole_number (number b) high in
    rw whole (bytes_number b each)
