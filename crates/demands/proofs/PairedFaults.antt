-- The failure patterns of two paired texts, one failure line at a time: what a line does to one of them or to both. Assumes nothing.
use mathlib.Core.Path.{◌≡◌, refl, ◌∙◌}
use Prim.Native.Nat.{ℕ, ◌-◌, ◌≤◌, ◌<◌}
use native.Mathlib.Omega.{arith}
use lib.ListN.{length, length-set}
use lib.Seq.{get_or-set_same, get_or-set_other}
use Rattle.general.proofs.Tests.{by_equal}
use Rattle.consensus.specs.Instance.{Instance, fault_of}
use Rattle.consensus.specs.declared.Fault.TheVariants.{Correct as correct}
use Rattle.coordinator_laws.specs.Pairing.{LinePaired, Paired}
use Rattle.ticket_format.specs.declared.FailureLine.{FailureLine}
use Rattle.ticket_format.specs.FailureLine.{fault_by}
use Rattle.ticket_format.specs.Accept.{with_crash}
use Rattle.ticket_format.proofs.CrashPlaced.{Placed}

-- The fault of a line's process, and of any other, in the instance with that line.
module _ (x : Instance) (l : FailureLine) (positive : 1 ≤ l.process) (inside : l.process ≤ length x.pattern) where
  with_own : fault_of (with_crash x l) l.process ≡ fault_by l
  unfolding fault_of with_crash
  with_own = get_or-set_same x.pattern (l.process - 1) _ correct (omega arith)

  with_other : (p : ℕ) → 1 ≤ p → (p ≡ l.process → ⊥) → fault_of (with_crash x l) p ≡ fault_of x p
  unfolding fault_of with_crash
  with_other p first other = get_or-set_other x.pattern (l.process - 1) (p - 1) _ correct (λ e. other (omega arith))

-- The instances so far, the last of whose failure lines is of process `last`: no later process has one in the second.
pub record PairedSoFar (x y : Instance) (last : ℕ) : Type 0 where
  pub processes : x.processes ≡ y.processes
  pub resilience : x.resilience ≡ y.resilience
  pub proposals : x.proposals ≡ y.proposals
  pub sized : length x.pattern ≡ x.processes
  pub sized' : length y.pattern ≡ y.processes
  pub lines : (p : ℕ) → 1 ≤ p → LinePaired (fault_of x p) (fault_of y p)
  pub later : (p : ℕ) → last < p → fault_of y p ≡ correct

pub so_far_paired : (x y : Instance) (last : ℕ) → PairedSoFar x y last → Paired x y
so_far_paired x y last so_far =
    record {
      processes = so_far.processes;
      resilience = so_far.resilience;
      proposals = so_far.proposals;
      lines = λ p process. so_far.lines p process.first;
    }

-- A line of the first, whatever the second has there, if the second keeps all its other lines.
so_far_with : (x y z : Instance) (last : ℕ) → PairedSoFar x y last → (l : FailureLine) → Placed x.processes x.resilience last l
    → y.processes ≡ z.processes → y.resilience ≡ z.resilience → y.proposals ≡ z.proposals → length z.pattern ≡ z.processes
    → LinePaired (fault_by l) (fault_of z l.process) → ((p : ℕ) → 1 ≤ p → (p ≡ l.process → ⊥) → fault_of z p ≡ fault_of y p)
    → PairedSoFar (with_crash x l) z l.process
unfolding with_crash
so_far_with x y z last so_far l placed n t v sized paired kept =
    record {
      processes = so_far.processes ∙ n;
      resilience = so_far.resilience ∙ t;
      proposals = so_far.proposals ∙ v;
      sized = rw length-set so_far.sized;
      sized' = sized;
      lines = λ p first. by_equal p l.process
          (λ (e : p ≡ l.process). rw (e, with_own x l (omega arith) (omega arith)) paired)
          (λ other. rw (with_other x l (omega arith) (omega arith) p first other, kept p first other) (so_far.lines p first));
      later = λ p h. kept p (omega arith) (λ (e : p ≡ l.process). omega arith) ∙ so_far.later p (omega arith);
    }

module _ (x y : Instance) (last : ℕ) (so_far : PairedSoFar x y last) (l : FailureLine) (placed : Placed x.processes x.resilience last l) where
  -- A line in both.
  pub so_far_both : (m : FailureLine) → l.process ≡ m.process → LinePaired (fault_by l) (fault_by m) → PairedSoFar (with_crash x l) (with_crash y m) l.process
  unfolding with_crash
  so_far_both m e paired =
      so_far_with x y (with_crash y m) last so_far l placed refl refl refl (rw length-set so_far.sized')
      (rw (e, with_own y m (omega arith) (omega arith)) paired)
      (λ p first other. with_other y m (omega arith) (omega arith) p first (λ (z : p ≡ m.process). other (omega arith)))

  -- A line in the first alone.
  pub so_far_first : LinePaired (fault_by l) correct → PairedSoFar (with_crash x l) y l.process
  so_far_first paired =
      so_far_with x y y last so_far l placed refl refl refl so_far.sized'
      (rw (so_far.later l.process placed.process_rises) paired)
      (λ p first other. refl)
