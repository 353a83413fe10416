-- The value of nine bytes is their last four. Assumes nothing.
use mathlib.Core.Path.{◌≡◌}
use mathlib.Core.List.{List}
use Prim.Native.Nat.{ℕ}
use native.Mathlib.Omega.{arith}
use lib.ListN.{length, take, drop, length-drop}
use lib.Seq.{take_all}

pub value_from : (b : List ℕ) → length b ≡ 9 → take 4 (drop 5 b) ≡ drop 5 b
value_from b nine = take_all 4 (drop 5 b) (omega (arith, length-drop 5 b))
