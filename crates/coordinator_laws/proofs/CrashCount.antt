-- In the coordinator's run every process crashes as its failure line says, so that f is the number of processes that end crashed, and at most t (document
-- 01, 'A round': 'It goes dark undecided exactly when it has a failure line that is not idle').
-- For well-formed instances. Assumes nothing else.
use mathlib.Core.Path.{◌≡◌, refl, sym, ap, ◌∙◌}
use mathlib.Core.Bool.{false, true≢false}
use Prim.Native.Nat.{ℕ, suc, ◌≤◌, ◌<◌}
use native.Mathlib.Numerals.{unary_clauses}
use native.Mathlib.Omega.{arith}
use lib.ListN.{length}
use borrow.Author.Tests.{lt-ltb}
use Rattle.consensus.specs.Instance.{Instance, fault_of}
use Rattle.consensus.specs.declared.Fault.TheVariants.{Crashes as crashes}
use Rattle.consensus.specs.declared.CrashPoint.{CrashPoint}
use Rattle.consensus.specs.State.{state_of}
use Rattle.consensus.specs.declared.State.{State}
use Rattle.consensus.specs.declared.State.TheVariants.{Undecided as undecided, Decided as decided, Crashed as crashed}
use Rattle.consensus.specs.CrashCount.{is_idle, counts_as_crash, has_crashed, crashed_count}
use Rattle.consensus.specs.WellFormed.{FaultAllowedBy}
use Rattle.consensus.specs.Consensus.{IsProcess, CrashesAsSaid, CrashesNoOther}
use Rattle.consensus.proofs.CrashCount.{crashes_within, counts_crashed, count_by_process, first_crashed}
use Rattle.coordinator.specs.Run.{run_of, crashes_of, last_round, end_of}
use Rattle.coordinator.specs.WellFormed.{PointAllowed, FaultAllowed, WellFormed}
use Rattle.coordinator_laws.proofs.Ends.{states_at_end, end_at}
use Rattle.coordinator_laws.proofs.Faults.{struck_in, crashed_by_fault, undecided_before_fault, decided_before_fault}

pub crashes_le : (x : Instance) → WellFormed x → crashes_of x ≤ x.resilience
unfolding crashes_of
crashes_le x w = crashes_within PointAllowed x w (run_of x).states

module _ (x : Instance) (formed : WellFormed x) where
  -- A process that ends crashed has a failure line of that round.
  crash_line_lem : (p j : ℕ) → IsProcess x p → end_of x p ≡ crashed j → (point : CrashPoint) × (fault_of x p ≡ crashes j point)
  crash_line_lem p j process e = struck_in j (fault_of x p) (crashed_by_fault x _ p j (sym (end_at x formed p process) ∙ e))

  pub crashes_no_other_lem : CrashesNoOther x (end_of x)
  unfolding CrashesNoOther is_idle
  crashes_no_other_lem p r process e =
      let (point, line) = crash_line_lem p r process e in
      record { process = process; point = point; line = line; not_idle = rw e }

  -- The process of a line of round r that is not idle ends crashed: it does not wait past round t + 1, and had it decided before, the line would be idle.
  strikes : (p r : ℕ) (point : CrashPoint) → IsProcess x p → fault_of x p ≡ crashes r point → FaultAllowed x.processes x.resilience p (crashes r point)
      → (s : State) → end_of x p ≡ s → is_idle r s ≡ false → s ≡ crashed r
  unfolding is_idle FaultAllowedBy
  strikes p r point process line (one, last, _) (undecided v) e not_idle =
      let ahead : last_round x < r = undecided_before_fault x _ p v r point line one (sym (end_at x formed p process) ∙ e) in
      absurd (let z : ⊥ = omega arith in z)
  strikes p r point process line (one, last, _) (decided i v) e not_idle =
      let ahead : i < r = decided_before_fault x _ p i v r point line one (sym (end_at x formed p process) ∙ e) in
      absurd (true≢false (sym (lt-ltb i r ahead) ∙ not_idle))
  strikes p r point process line allowed (crashed j) e not_idle =
      let (other, fault) = crash_line_lem p j process e in
      let same : crashes j other ≡ crashes r point = sym fault ∙ line in
      let now : j ≡ r = cc in
      ap crashed now

  pub crashes_as_said_lem : CrashesAsSaid x (end_of x)
  unfolding CrashesAsSaid
  crashes_as_said_lem p r c =
      let allowed : FaultAllowed x.processes x.resilience p (crashes r c.point) =
      rw c.line at (formed.faults_allowed p c.process.first c.process.last) in
      strikes p r c.point c.process c.line allowed _ refl c.not_idle

  -- A failure line is not idle just if its process ends crashed.
  pub not_idle_crashed : (p : ℕ) → IsProcess x p → counts_as_crash (fault_of x p) (end_of x p) ≡ has_crashed (end_of x p)
  not_idle_crashed = counts_crashed x (end_of x) crashes_as_said_lem crashes_no_other_lem

  -- f is the number of processes that end crashed.
  pub crashes_are_crashed : crashes_of x ≡ crashed_count (run_of x).states
  unfolding crashes_of fault_of end_of state_of
  crashes_are_crashed =
      let as_many : length (run_of x).states ≡ x.processes = states_at_end x formed in
      count_by_process x.pattern (run_of x).states (cc)
      (λ k h. simp unary_clauses at (not_idle_crashed (suc k) (record { first = omega arith; last = omega arith })))

  -- If processes 1 to m end crashed, f is at least m.
  pub crashes_at_least : (m : ℕ) → m ≤ x.processes → ((p : ℕ) → 1 ≤ p → p ≤ m → has_crashed (end_of x p) ≡ 1) → m ≤ crashes_of x
  unfolding end_of state_of
  crashes_at_least m h ended =
      let as_many : length (run_of x).states ≡ x.processes = states_at_end x formed in
      rw crashes_are_crashed (first_crashed m (run_of x).states (omega arith) (λ k g. simp unary_clauses at (ended (suc k) (omega arith) (omega arith))))
