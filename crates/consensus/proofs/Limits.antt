-- The limits of an instance's size: what `within_limits` says of the number of processes and of crashes, and which numbers pass it. Assumes nothing.
use mathlib.Core.Path.{◌≡◌}
use mathlib.Core.Bool.{true}
use Prim.Native.Nat.{ℕ}
use borrow.Author.Tests.{ltb-true, leb-true, le-leb, lt-ltb}
use Rattle.general.proofs.Tests.{both}
use Rattle.consensus.specs.Instance.{within_limits}
use Rattle.consensus.specs.Limits.{Limits}

pub limits_hold : (n t : ℕ) → within_limits n t ≡ true → Limits n t
unfolding within_limits
limits_hold n t e =
    let outer = both _ _ e in
    let inner = both _ _ outer.0 in
    record {
      some_process = leb-true _ _ inner.0;
      at_most_64 = leb-true _ _ inner.1;
      fewer_crashes = ltb-true _ _ outer.1;
    }

pub limits_pass : (n t : ℕ) → Limits n t → within_limits n t ≡ true
unfolding within_limits
limits_pass n t h = rw (le-leb 1 n h.some_process, le-leb n 64 h.at_most_64, lt-ltb t n h.fewer_crashes)
