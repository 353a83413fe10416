-- Lists of which every number is below a bound, bytes above all: one by one, one more, two put together, and what is left of one. Assumes nothing.
use mathlib.Core.List.{List, [], ◌∷◌, ◌++◌}
use Prim.Native.Nat.{ℕ, zero, suc, ◌+◌, ◌<◌}
use native.Mathlib.Omega.{arith}
use lib.ListN.{get_or, take, drop}
use lib.Seq.{get_or-drop}

-- Every number of the list is below the bound.
abbrev pub AllBelow : ℕ → List ℕ → Type 0
AllBelow bound l = (i : ℕ) → get_or l i 0 < bound

-- Every number of the list is a byte.
abbrev pub Bytes : List ℕ → Type 0
Bytes b = AllBelow 256 b

-- The same, said of one number after the other.
abbrev pub EachByte : List ℕ → Type 0
EachByte [] = Unit
EachByte (b ∷ bs) = (b < 256) × EachByte bs

pub bytes_each : (bs : List ℕ) → EachByte bs → Bytes bs
bytes_each [] h i = omega arith
bytes_each (b ∷ bs) h zero = h.0
bytes_each (b ∷ bs) h (suc i) = bytes_each bs h.1 i

pub below_snoc : (bound : ℕ) (l : List ℕ) (v : ℕ) → AllBelow bound l → v < bound → AllBelow bound (l ++ (v ∷ []))
below_snoc bound [] v h g zero = g
below_snoc bound [] v h g (suc i) = omega arith
below_snoc bound (a ∷ l) v h g zero = h 0
below_snoc bound (a ∷ l) v h g (suc i) = below_snoc bound l v (λ j. h (suc j)) g i

-- Bytes put together.
pub bytes_append : (bs more : List ℕ) → Bytes bs → Bytes more → Bytes (bs ++ more)
bytes_append [] more h g i = g i
bytes_append (b ∷ bs) more h g zero = h 0
bytes_append (b ∷ bs) more h g (suc i) = bytes_append bs more (λ j. h (suc j)) g i

-- The rest of some bytes.
pub drop-bytes : (k : ℕ) (b : List ℕ) → Bytes b → Bytes (drop k b)
drop-bytes k b h i = rw get_or-drop (h (k + i))

-- The first of some bytes.
pub take-bytes : (k : ℕ) (b : List ℕ) → Bytes b → Bytes (take k b)
take-bytes zero b h i = omega arith
take-bytes (suc k) [] h i = omega arith
take-bytes (suc k) (a ∷ b) h zero = h 0
take-bytes (suc k) (a ∷ b) h (suc i) = take-bytes k b (λ j. h (suc j)) i
