-- Messages whose value the four bytes of a frame can carry: what a process sends is such, and what arrives of it. Assumes nothing.
use mathlib.Core.Bool.{Bool, true, false}
use Prim.Native.Nat.{ℕ, ◌<◌, ◌^◌}
use Rattle.coordinator.specs.Message.{Messages, nothing, estimate, estimate_and_commit, Reach, none, data_only, all, arriving}
use Rattle.coordinator.specs.Transition.{sends}

unfoldable pub Carried : Messages → Type 0
Carried nothing = Unit
Carried (estimate v) = v < 2 ^ 32
Carried (estimate_and_commit v) = v < 2 ^ 32

pub sends_carried : (own : Bool) (v : ℕ) → v < 2 ^ 32 → Carried (sends own v)
unfolding Carried sends
sends_carried true v h = h
sends_carried false v h = tt

pub arriving_carried : (reach : Reach) (m : Messages) → Carried m → Carried (arriving reach m)
unfolding Carried arriving
arriving_carried none m h = tt
arriving_carried data_only nothing h = tt
arriving_carried data_only (estimate v) h = h
arriving_carried data_only (estimate_and_commit v) h = h
arriving_carried all m h = h
