-- Idle failure lines change nothing (document 01, 'A round'): a process that is up and undecided as a round begins decides in it or later, so that its line,
-- if it is idle, is of a later round still, and the round does not look at it (FaultsAlike). For well-formed instances. Assumes nothing else.
use mathlib.Core.List.{List, [], ◌∷◌}
use mathlib.Core.Path.{◌≡◌, refl, sym, ap, ap₂, ◌∙◌}
use mathlib.Core.Bool.{Bool, true, false, cond}
use Prim.Native.Nat.{ℕ, zero, suc, ◌+◌, ◌-◌, ◌≤◌, ◌<◌}
use native.Mathlib.Omega.{arith}
use native.Mathlib.Nat.{le_trans}
use lib.Dec.{ltb}
use lib.ListN.{length}
use borrow.Author.Tests.{ltb-true, ne_eqb}
use Rattle.general.specs.Indexed.{map_from}
use Rattle.general.specs.Counts.{add_at}
use Rattle.general.proofs.Indexed.{length-map_from, map_from_at}
use Rattle.general.proofs.Tests.{by_order}
use Rattle.general.proofs.Search.{found_same}
use Rattle.consensus.specs.Instance.{Instance, fault_of}
use Rattle.consensus.specs.declared.Fault.{Fault}
use Rattle.consensus.specs.declared.Fault.TheVariants.{Correct as correct, Crashes as crashes}
use Rattle.consensus.specs.State.{state_of, crashes_in}
use Rattle.consensus.specs.declared.State.{State}
use Rattle.consensus.specs.declared.State.TheVariants.{Undecided as undecided, Decided as decided, Crashed as crashed}
use Rattle.consensus.specs.CrashCount.{is_idle, crashed_count}
use Rattle.consensus.specs.WellFormed.{FaultAllowedBy, fault_count}
use Rattle.consensus.specs.Consensus.{IsProcess}
use Rattle.coordinator.specs.Run.{Run, initial, with_round, run_to, run_of, last_round, crashes_of, end_of}
use Rattle.coordinator.specs.Count.{data_in, commits_in}
use Rattle.coordinator.specs.WellFormed.{FaultAllowed, WellFormed}
use Rattle.coordinator.specs.SentBy.{sent_after, data_by, commits_by}
use Rattle.coordinator.specs.Settling.{qualifies, first_settling}
use Rattle.coordinator.specs.Undecided.{is_undecided}
use Rattle.coordinator.specs.Reason.{state_at_start, heard_in, reason_of}
use Rattle.coordinator.specs.WithoutIdle.{fault_left, without_idle}
use Rattle.coordinator_laws.specs.IdleLines.{IdleLinesChangeNothing}
use Rattle.coordinator_laws.proofs.Pointwise.{state_at, length-states, state_at_lem}
use Rattle.coordinator_laws.proofs.History.{undecided_decided, decided_later}
use Rattle.coordinator_laws.proofs.Coordinator.{decided_since}
use Rattle.coordinator_laws.proofs.Undecided.{value_of_undecided}
use Rattle.coordinator_laws.proofs.Ends.{end_at}
use Rattle.coordinator_laws.proofs.CrashCount.{crashes_are_crashed}
use Rattle.coordinator_laws.proofs.FaultsAlike.{AlikeIn, same, of_others, round_alike, reason_alike}

module _ (x : Instance) where
  -- A process that is undecided after round r decides in a later one, if at all.
  decides_after : (r m p w : ℕ) → state_at x r p ≡ undecided w → (i v : ℕ) → state_at x m p ≡ decided i v → r < i
  decides_after r m p w e i v d =
      let (q, u, round, within, waiting, since) = decided_since x m p i v d in
      by_order i r (λ early. absurd (undecided_decided _ w i v e (decided_later x (suc q) r p i v (omega arith) since))) (λ late. late)

module _ (x : Instance) (formed : WellFormed x) where
  -- Of a process that is undecided after round r the failure line is left, or is idle and so of a round after r + 1.
  left_alike : (r p w : ℕ) → r ≤ last_round x → IsProcess x p → state_at x r p ≡ undecided w
      → (fault : Fault) → AlikeIn (suc r) (fault_left (end_of x p) fault) fault
  unfolding fault_left is_idle crashes_in
  left_alike r p w h process e correct = same refl
  left_alike r p w h process e (crashes round point) = by_end (end_of x p) refl
    where
      by_test : (i : ℕ) (b : Bool) → ltb i round ≡ b → r < i → AlikeIn (suc r) (cond b correct (crashes round point)) (crashes round point)
      by_test i true t later = of_others refl (ne_eqb round (suc r) (λ z. omega (arith, ltb-true i round t)))
      by_test i false t later = same refl

      by_end : (s : State) → end_of x p ≡ s → AlikeIn (suc r) (cond (is_idle round s) correct (crashes round point)) (crashes round point)
      by_end (undecided v) d = same refl
      by_end (decided i v) d = by_test i (ltb i round) refl (decides_after x r (last_round x) p w e i v (sym (end_at x formed p process) ∙ d))
      by_end (crashed i) d = same refl

-- No more faults are left than there were.
faults_fewer : (ends : ℕ → State) (i : ℕ) (faults : List Fault) → fault_count (map_from (λ p fault. fault_left (ends p) fault) i faults) ≤ fault_count faults
unfolding fault_count map_from fault_left
faults_fewer ends i [] = omega arith
faults_fewer ends i (correct ∷ faults) = faults_fewer ends (suc i) faults
faults_fewer ends i (crashes round point ∷ faults) =
    by_test (is_idle round (ends i)) (map_from (λ p fault. fault_left (ends p) fault) (suc i) faults) (faults_fewer ends (suc i) faults)
  where
    by_test : (b : Bool) (rest : List Fault) → fault_count rest ≤ fault_count faults
        → fault_count (cond b correct (crashes round point) ∷ rest) ≤ suc (fault_count faults)
    by_test true rest h = omega arith
    by_test false rest h = omega arith

-- What is left of a fault that is allowed is allowed.
left_allowed : (n t p : ℕ) (s : State) (fault : Fault) → FaultAllowed n t p fault → FaultAllowed n t p (fault_left s fault)
unfolding FaultAllowedBy fault_left
left_allowed n t p s correct allowed = allowed
left_allowed n t p s (crashes round point) allowed = by_test (is_idle round s)
  where
    by_test : (b : Bool) → FaultAllowed n t p (cond b correct (crashes round point))
    by_test true = tt
    by_test false = allowed

module _ (x : Instance) (formed : WellFormed x) where
  -- The fault of a process in the instance without idle lines.
  fault_left_lem : (p : ℕ) → IsProcess x p → fault_of (without_idle x) p ≡ fault_left (end_of x p) (fault_of x p)
  unfolding fault_of without_idle
  fault_left_lem p process = map_from_at _ x.pattern p correct correct process.first (omega (arith, process.last, formed.all_have_fault))

  -- The instance without idle lines is well-formed again.
  left_formed : WellFormed (without_idle x)
  unfolding without_idle
  left_formed =
      record {
        some_process = formed.some_process;
        at_most_64 = formed.at_most_64;
        fewer_crashes = formed.fewer_crashes;
        all_propose = formed.all_propose;
        all_have_fault = length-map_from _ 1 x.pattern ∙ formed.all_have_fault;
        values_fit = formed.values_fit;
        faults_allowed = λ p first last.
            rw (fault_left_lem p (record { first = first; last = last })) (left_allowed _ _ p (end_of x p) (fault_of x p) (formed.faults_allowed p first last));
        few_faults = le_trans (faults_fewer (end_of x) 1 x.pattern) formed.few_faults;
      }

  -- No round tells the faults apart of a process that begins it undecided.
  idle_alike : (r p : ℕ) → suc r ≤ last_round x → 1 ≤ p → p ≤ length (run_to x r).states → is_undecided (state_of (run_to x r).states p) ≡ true
      → AlikeIn (suc r) (fault_of (without_idle x) p) (fault_of x p)
  idle_alike r p h first last u =
      let as_many : length (run_to x r).states ≡ x.processes = length-states x r ∙ formed.all_propose in
      let (w, e) = value_of_undecided _ u in
      let process : IsProcess x p = record { first = first; last = omega arith } in
      let waits : state_at x r p ≡ undecided w = sym (state_at_lem x r p (omega arith) first (omega arith)) ∙ e in
      rw (fault_left_lem p process) (left_alike x formed r p w (omega arith) process waits (fault_of x p))

  -- The runs are the same after every round.
  runs_same : (r : ℕ) → r ≤ last_round x → run_to (without_idle x) r ≡ run_to x r
  unfolding run_to initial without_idle
  runs_same zero h = refl
  runs_same (suc r) h =
      let as_many : length (run_to x r).states ≡ x.processes = length-states x r ∙ formed.all_propose in
      ap (with_round (without_idle x) (suc r)) (runs_same r (omega arith))
      ∙ round_alike (without_idle x) x refl (suc r) (run_to x r) (omega arith) (omega arith)
      (λ p first last u. idle_alike r p h first last u)

  -- What a round counts is what it adds to the total, so each process sends as many messages of a kind in both.
  sent_same : (counted : Instance → ℕ → List State → ℕ) (total : Run → ℕ)
      → ((y : Instance) (r : ℕ) (run : Run) → total (with_round y r run) ≡ total run + counted y r run.states)
      → (r : ℕ) → r ≤ last_round x → sent_after counted (without_idle x) r ≡ sent_after counted x r
  unfolding sent_after run_to without_idle
  sent_same counted total more zero h = refl
  sent_same counted total more (suc r) h =
      ap₂ (add_at (suc r)) (counted_same (runs_same r (omega arith)) (runs_same (suc r) h)) (sent_same counted total more r (omega arith))
    where
      counted_same : run_to (without_idle x) r ≡ run_to x r → run_to (without_idle x) (suc r) ≡ run_to x (suc r)
          → counted (without_idle x) (suc r) (run_to (without_idle x) r).states ≡ counted x (suc r) (run_to x r).states
      counted_same before after =
          omega (arith, ap total before, ap total after, more (without_idle x) (suc r) (run_to (without_idle x) r), more x (suc r) (run_to x r))

  -- In both instances f is the number of processes that end crashed.
  crashes_same : crashes_of (without_idle x) ≡ crashes_of x
  unfolding run_of without_idle
  crashes_same =
      crashes_are_crashed (without_idle x) left_formed
      ∙ ap (λ (run : Run). crashed_count run.states) (runs_same (last_round x) (omega arith)) ∙ sym (crashes_are_crashed x formed)

  -- The same rounds qualify in both, so that the same is the first.
  settling_same : first_settling (without_idle x) ≡ first_settling x
  unfolding first_settling qualifies run_of without_idle
  settling_same =
      found_same (qualifies (without_idle x)) (qualifies x) (last_round x) 1
      (λ q h. rw (runs_same q (omega arith), runs_same (last_round x) (omega arith)) refl)

  -- Every process has the same reason in every round.
  reason_same : (p r : ℕ) → IsProcess x p → 1 ≤ r → r ≤ last_round x → reason_of (without_idle x) p r ≡ reason_of x p r
  unfolding reason_of heard_in state_at_start without_idle
  reason_same p zero process first last = absurd (let z : ⊥ = omega arith in z)
  reason_same p (suc r) process first last =
      let place : suc r - 1 ≡ r = omega arith in
      let as_many : length (run_to x r).states ≡ x.processes = length-states x r ∙ formed.all_propose in
      rw (place, runs_same r (omega arith))
      (reason_alike (without_idle x) x refl (suc r) (run_to x r).states (omega arith) (omega (arith, formed.fewer_crashes))
      (λ k h g u. idle_alike r k last h g u) p process.first (omega (arith, process.last)))

pub idle_lines_change_nothing : (x : Instance) → WellFormed x → IdleLinesChangeNothing x
unfolding run_of with_round without_idle data_by commits_by
idle_lines_change_nothing x formed =
    record {
      formed = left_formed x formed;
      rounds = runs_same x formed;
      run = runs_same x formed (last_round x) (omega arith);
      data_sent = sent_same x formed data_in (λ run. run.data_sent) (λ y r run. refl) (last_round x) (omega arith);
      commits_sent = sent_same x formed commits_in (λ run. run.commits_sent) (λ y r run. refl) (last_round x) (omega arith);
      crashes = crashes_same x formed;
      settling = settling_same x formed;
      reasons = reason_same x formed;
    }
