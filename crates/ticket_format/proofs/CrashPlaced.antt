-- What refusal 7 lets pass. Assumes nothing.
use mathlib.Core.Path.{◌≡◌}
use mathlib.Core.Bool.{true}
use Prim.Native.Nat.{ℕ, suc, ◌≤◌, ◌<◌}
use borrow.Author.Tests.{ltb-true, leb-true}
use Rattle.general.proofs.Tests.{both}
use Rattle.ticket_format.specs.declared.FailureLine.{FailureLine}
use Rattle.ticket_format.specs.FailureLine.{places_crash}

-- What refusal 7 lets pass after a failure line of process `last`.
pub record Placed (n t last : ℕ) (l : FailureLine) : Type 0 where
  pub process_from_1 : 1 ≤ l.process
  pub process_to_n : l.process ≤ n
  pub process_rises : last < l.process
  pub round_from_1 : 1 ≤ l.round
  pub round_to_last : l.round ≤ suc t
  pub step_to_2 : l.step ≤ 2

module _ (n t last : ℕ) (l : FailureLine) (placed : places_crash n t last l ≡ true) where
  pub crash_placed : Placed n t last l
  unfolding places_crash
  crash_placed =
      let steps = both _ _ placed in
      let rounds = both _ _ steps.0 in
      let first = both _ _ rounds.0 in
      let rising = both _ _ first.0 in
      let inside = both _ _ rising.0 in
      record {
        process_from_1 = leb-true _ _ inside.0;
        process_to_n = leb-true _ _ inside.1;
        process_rises = ltb-true _ _ rising.1;
        round_from_1 = leb-true _ _ first.1;
        round_to_last = leb-true _ _ rounds.1;
        step_to_2 = leb-true _ _ steps.1;
      }
