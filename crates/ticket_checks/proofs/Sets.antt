-- What the mask of the processes 1 to n says of a set of processes. Assumes nothing.
use mathlib.Core.Path.{◌≡◌, refl}
use Prim.Native.Nat.{ℕ, ◌-◌, ◌^◌}
use lib.Dec.{eqb, ltb}
use lib.Bits.{bit_and}
use Rattle.general.proofs.Bits.{below_power, meets}

-- A set is as it is among the first n just if it reaches no further.
pub among_first : (n reached mask : ℕ) → mask ≡ 2 ^ n - 1 → eqb (bit_and reached mask) reached ≡ ltb reached (2 ^ n)
among_first n reached mask first-n = rw (meets n reached mask first-n) (below_power reached n (ltb reached (2 ^ n)) refl)
