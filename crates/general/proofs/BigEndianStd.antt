-- The library's big-endian bytes are the definitions': `to_be_bytes` at every width, `from_be_bytes` at four bytes. Assumes nothing.
use mathlib.Core.List.{List, [], ◌∷◌, ◌++◌}
use mathlib.Core.Path.{◌≡◌, refl, sym, ap, ap₂, ◌∙◌}
use Prim.Native.Nat.{ℕ, zero, suc, ◌+◌, ◌*◌, ◌/◌, ◌%◌, ◌^◌, ◌≤◌}
use native.Mathlib.Nat.{div-div-eq-div-mul, mul_comm, pow-suc}
use native.Mathlib.Omega.{arith}
use lib.ListN.{length, get_or, take, drop}
use Rattle.std.specs.Int.{w32, byte_at, bytes_high_first, from_be_bytes}
use Rattle.general.specs.BigEndian.{number, bytes_of}
use Rattle.general.proofs.BigEndian.{number_four}
use Rattle.general.proofs.Lists.{four_bytes_lem}

-- A byte above the lowest is one of the number without its lowest byte.
byte_above : (i v : ℕ) → byte_at (suc i) v ≡ byte_at i (v / 256)
byte_above zero v = refl
byte_above (suc i) v =
    let power : 256 ^ suc (suc i) ≡ 256 * 256 ^ suc i = pow-suc 256 (suc i) ∙ mul_comm (256 ^ suc i) 256 in
    ap (λ (d : ℕ). d % 256) (ap (λ (p : ℕ). v / p) power ∙ sym (div-div-eq-div-mul v 256 (256 ^ suc i)))

-- One byte more is the lowest, behind the others.
high_first_snoc : (width v : ℕ) → bytes_high_first (suc width) v ≡ bytes_high_first width (v / 256) ++ (v % 256 ∷ [])
high_first_snoc zero v = refl
high_first_snoc (suc width) v = ap₂ (λ (b : ℕ) (l : List ℕ). b ∷ l) (byte_above width v) (high_first_snoc width v)

-- `to_be_bytes w v` computes to the left side at w's count of bytes.
pub bytes_std : (width v : ℕ) → bytes_high_first width v ≡ bytes_of width v
unfolding bytes_of
bytes_std zero v = refl
bytes_std (suc width) v = high_first_snoc width v ∙ ap (λ (l : List ℕ). l ++ (v % 256 ∷ [])) (bytes_std width (v / 256))

-- Four bytes from a place on.
pub number_four_at : (b : List ℕ) (at : ℕ) → at + 4 ≤ length b
    → from_be_bytes w32 (get_or b at 0 ∷ get_or b (at + 1) 0 ∷ get_or b (at + 2) 0 ∷ get_or b (at + 3) 0 ∷ []) ≡ number (take 4 (drop at b))
number_four_at b at h =
    let horner = number_four (get_or b at 0) (get_or b (at + 1) 0) (get_or b (at + 2) 0) (get_or b (at + 3) 0) in
    rw four_bytes_lem (omega arith)
