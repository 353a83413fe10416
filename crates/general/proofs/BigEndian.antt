-- Laws of big-endian numbers: one byte more, the bytes of four written out, the number of four bytes, how large a number so many bytes hold, and
-- that a number comes back from its bytes. Assumes nothing.
use mathlib.Core.List.{List, [], ◌∷◌, ◌++◌, append-nil}
use mathlib.Core.Path.{◌≡◌, refl, sym, ap, ◌∙◌}
use Prim.Native.Nat.{ℕ, zero, suc, ◌+◌, ◌*◌, ◌/◌, ◌%◌, ◌^◌, ◌<◌}
use native.Mathlib.Nat.{zero-add, add-zero, pow-suc, pow-zero, mul-one, mul_assoc, mul_comm}
use native.Mathlib.Omega.{arith}
use lib.ListN.{length, length-append}
use lib.Seq.{append_snoc}
use Rattle.general.specs.BigEndian.{number, number_from, bytes_of}
use Rattle.general.proofs.Bytes.{Bytes, below_snoc}

pub number_from_snoc : (high : ℕ) (bs : List ℕ) (b : ℕ) → number_from high (bs ++ (b ∷ [])) ≡ number_from high bs * 256 + b
unfolding number_from
number_from_snoc high [] b = refl
number_from_snoc high (a ∷ bs) b = number_from_snoc (high * 256 + a) bs b

-- A number that fits so many bytes comes back from them.
pub number_bytes : (width v : ℕ) → v < 256 ^ width → number (bytes_of width v) ≡ v
unfolding number number_from bytes_of
number_bytes zero v h = let none : v < 1 = rw pow-zero at h in omega arith
number_bytes (suc width) v h =
    let more : v < 256 ^ width * 256 = rw pow-suc at h in
    number_from_snoc 0 (bytes_of width (v / 256)) (v % 256)
    ∙ ap (λ (w : ℕ). w * 256 + v % 256) (number_bytes width (v / 256) (omega arith))
    ∙ omega arith

from_below : (b : List ℕ) (high bound : ℕ) → Bytes b → high < bound → number_from high b < bound * 256 ^ length b
unfolding number_from
from_below [] high bound h g = rw (pow-zero, mul-one) g
from_below (a ∷ b) high bound h g =
    let a_byte : a < 256 = h 0 in
    let more : number_from (high * 256 + a) b < bound * 256 * 256 ^ length b = from_below b (high * 256 + a) (bound * 256) (λ i. h (suc i)) (omega arith) in
    rw (pow-suc, mul_comm (256 ^ length b) 256, ← mul_assoc) more

-- So many bytes stand for a number below that power of 256.
pub number_below : (b : List ℕ) → Bytes b → number b < 256 ^ length b
unfolding number
number_below b h = let less : number_from 0 b < 1 * 256 ^ length b = from_below b 0 1 h (omega arith) in omega arith

-- The bytes of a number are bytes.
pub bytes_of_number : (width v : ℕ) → Bytes (bytes_of width v)
unfolding bytes_of
bytes_of_number zero v = λ i. omega arith
bytes_of_number (suc width) v = below_snoc 256 (bytes_of width (v / 256)) (v % 256) (bytes_of_number width (v / 256)) (omega arith)

pub bytes_four : (v : ℕ) → bytes_of 4 v ≡ v / 16777216 % 256 ∷ v / 65536 % 256 ∷ v / 256 % 256 ∷ v % 256 ∷ []
unfolding bytes_of
bytes_four v =
    let two : v / 256 / 256 ≡ v / 65536 = omega arith in
    let three : v / 256 / 256 / 256 ≡ v / 16777216 = omega arith in
    rw (three, two)

-- The number of four bytes, by Horner's rule.
pub number_four : (v w x y : ℕ) → ((v * 256 + w) * 256 + x) * 256 + y ≡ number (v ∷ w ∷ x ∷ y ∷ [])
unfolding number number_from
number_four v w x y = rw zero-add

-- Bytes come back from their number: those after `before`, which come back from `high`.
from_number : (bs before : List ℕ) (high : ℕ) → Bytes bs → bytes_of (length before) high ≡ before
    → bytes_of (length before + length bs) (number_from high bs) ≡ before ++ bs
unfolding number_from bytes_of
from_number [] before high h e = rw (add-zero, append-nil) e
from_number (b ∷ bs) before high h e =
    let byte : b < 256 = h 0 in
    let longer : length (before ++ (b ∷ [])) ≡ suc (length before) = length-append before (b ∷ []) ∙ omega arith in
    let rest : (high * 256 + b) / 256 ≡ high = omega arith in
    let last : (high * 256 + b) % 256 ≡ b = omega arith in
    let back : bytes_of (length (before ++ (b ∷ []))) (high * 256 + b) ≡ before ++ (b ∷ []) = rw (longer, rest, last, e) refl in
    let size : length before + suc (length bs) ≡ length (before ++ (b ∷ [])) + length bs = omega arith in
    rw size (from_number bs (before ++ (b ∷ [])) (high * 256 + b) (λ i. h (suc i)) back ∙ append_snoc before b bs)

pub bytes_number : (b : List ℕ) → Bytes b → bytes_of (length b) (number b) ≡ b
unfolding number bytes_of
bytes_number b h = rw zero-add at (from_number b [] 0 h refl)

-- What stands above so many bytes plays no part in them.
pub bytes_low : (width high low : ℕ) → bytes_of width (high * 256 ^ width + low) ≡ bytes_of width low
unfolding bytes_of
bytes_low zero high low = refl
bytes_low (suc width) high low =
    let above : ℕ = high * 256 ^ width in
    let whole : high * 256 ^ suc width ≡ above * 256 = ap (λ (p : ℕ). high * p) (pow-suc 256 width) ∙ sym (mul_assoc high (256 ^ width) 256) in
    let rest : (above * 256 + low) / 256 ≡ above + low / 256 = omega arith in
    let last : (above * 256 + low) % 256 ≡ low % 256 = omega arith in
    rw (whole, rest, last) (ap (λ (l : List ℕ). l ++ (low % 256 ∷ [])) (bytes_low width high (low / 256)))
