-- The rounds of a run are those that begin with a process up and undecided. Assumes nothing.
use mathlib.Core.Path.{◌≡◌, refl, sym}
use mathlib.Core.Bool.{Bool, true, false}
use Prim.Native.Nat.{ℕ, suc, ◌≤◌, ◌<◌}
use native.Mathlib.Omega.{arith}
use lib.Dec.{leb}
use borrow.Author.Tests.{le-leb, lt-leb}
use Rattle.consensus.specs.Instance.{Instance}
use Rattle.coordinator.specs.Undecided.{any_undecided}
use Rattle.coordinator.specs.Run.{run_to}
use Rattle.coordinator_laws.specs.RunRounds.{RunRounds}
use Rattle.coordinator_laws.proofs.Ended.{round_counted, run_ended}
use Rattle.coordinator_laws.proofs.Counts.{rounds_le, rounds_mono}

module _ (x : Instance) (q m : ℕ) (below : q < m) where
  -- A round that begins with a process up and undecided is counted, and the rounds do not fall after it.
  counted : any_undecided (run_to x q).states ≡ true → suc q ≤ (run_to x m).rounds
  unfolding run_to
  counted e = omega (arith, round_counted x (suc q) (run_to x q) e, rounds_mono x (suc q) m below)

  -- Behind one that begins with none the run stays as it was.
  over : any_undecided (run_to x q).states ≡ false → (run_to x m).rounds ≤ q
  over e = rw (run_ended x q m e (omega arith)) (rounds_le x q)

  by_test : (b : Bool) → any_undecided (run_to x q).states ≡ b → b ≡ leb (suc q) (run_to x m).rounds
  by_test true e = sym (le-leb (suc q) _ (counted e))
  by_test false e = sym (lt-leb (suc q) _ (omega (arith, over e)))

pub run_rounds : RunRounds
unfolding RunRounds
run_rounds x q m below = by_test x q m below (any_undecided (run_to x q).states) refl
