-- What refusals 7 and 8 let pass: a failure line that does states a fault that is allowed, and one of the commit step a fault in its process's own round.
-- Assumes nothing.
use mathlib.Core.Path.{◌≡◌}
use mathlib.Core.Bool.{Bool, true, false, cond, ◌&&◌}
use Prim.Native.Nat.{ℕ, ◌-◌, ◌≤◌}
use native.Mathlib.Omega.{arith}
use lib.Dec.{eqb, leb}
use borrow.Author.Tests.{ltb-true, leb-true, eqb-true}
use Rattle.general.proofs.Tests.{both}
use Rattle.consensus.specs.Instance.{point_from}
use Rattle.consensus.specs.declared.Fault.TheVariants.{Crashes as crashes}
use Rattle.consensus.specs.declared.CrashPoint.TheVariants.{BeforeSending as before_sending, DuringData as during_data, DuringCommits as during_commits}
use Rattle.consensus.specs.WellFormed.{FaultAllowedBy}
use Rattle.coordinator.specs.WellFormed.{PointAllowed, FaultAllowed}
use Rattle.ticket_format.specs.declared.FailureLine.{FailureLine}
use Rattle.ticket_format.specs.FailureLine.{places_crash, all_between, suits_step, fault_by}
use Rattle.ticket_format.proofs.CrashPlaced.{crash_placed}

-- Refusal 8 at each step, as the two tests of the step turn out.
step_allowed : (n p round reached count : ℕ) (at_zero at_one : Bool)
    → cond at_zero (eqb reached 0 && eqb count 0)
    (eqb round p && cond at_one (all_between p n reached && eqb count 0) (eqb reached 0 && leb count (n - p))) ≡ true
    → p ≤ n → PointAllowed n p round (cond at_zero before_sending (cond at_one (during_data reached) (during_commits count)))
unfolding PointAllowed all_between
step_allowed n p round reached count true at_one e h = tt
step_allowed n p round reached count false true e h =
    let outer = both _ _ e in
    let between = both _ _ (both _ _ outer.1).0 in
    (eqb-true _ _ outer.0, eqb-true _ _ between.0, ltb-true _ _ between.1)
step_allowed n p round reached count false false e h =
    let outer = both _ _ e in
    let few : count ≤ n - p = leb-true _ _ (both (eqb reached 0) _ outer.1).1 in
    (eqb-true _ _ outer.0, omega arith)

-- Refusals 7 and 8 let pass a fault that is allowed.
module _ (n t last : ℕ) (l : FailureLine) (placed : places_crash n t last l ≡ true) where
  pub crash_allowed : suits_step n l ≡ true
      → FaultAllowed n t l.process (fault_by l)
  unfolding suits_step FaultAllowedBy point_from
  crash_allowed e =
      let at = crash_placed n t last l placed in (
        at.round_from_1,
        at.round_to_last,
        step_allowed n l.process l.round l.reached l.count (eqb l.step 0) (eqb l.step 1) e at.process_to_n,
      )

-- A line of the commit step crashes its process in its own round.
pub commit_fault : (n t last : ℕ) (l : FailureLine) → places_crash n t last l ≡ true → suits_step n l ≡ true → l.step ≡ 2
    → fault_by l ≡ crashes l.process (during_commits l.count)
unfolding point_from FaultAllowedBy PointAllowed
commit_fault n t last l placed suits e =
    let allowed = crash_allowed n t last l placed suits in
    let own : l.round ≡ l.process = (rw e at allowed).2.0 in
    rw (e, own)
