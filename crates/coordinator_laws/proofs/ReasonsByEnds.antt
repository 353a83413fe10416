-- The reasons of a process and how it ends (document 02, Paper 7): what it waits through, the round in which it ends, and the rounds behind that. For
-- well-formed instances. Assumes nothing else.
use mathlib.Core.Path.{◌≡◌, refl, sym, ap, subst, ◌∙◌}
use mathlib.Core.Bool.{cond}
use Prim.Native.Nat.{ℕ, suc, ◌≤◌, ◌<◌}
use native.Mathlib.Omega.{arith}
use lib.Dec.{eqb}
use borrow.Author.Tests.{lt-ltb, eq-eqb}
use Rattle.consensus.specs.Instance.{Instance, fault_of}
use Rattle.consensus.specs.declared.Fault.{Fault}
use Rattle.consensus.specs.declared.Fault.TheVariants.{Crashes as crashes}
use Rattle.consensus.specs.declared.CrashPoint.{CrashPoint}
use Rattle.consensus.specs.declared.State.{State}
use Rattle.consensus.specs.declared.State.TheVariants.{Undecided as undecided, Decided as decided, Crashed as crashed}
use Rattle.consensus.specs.Consensus.{IsProcess}
use Rattle.coordinator.specs.Message.{Reach, none, data_only, all, arriving, gets_data}
use Rattle.coordinator.specs.Transition.{sends}
use Rattle.coordinator.specs.Delivery.{reach, reach_in, reach_at}
use Rattle.coordinator.specs.Round.{sent_by, received}
use Rattle.coordinator.specs.Run.{last_round, end_of}
use Rattle.coordinator.specs.Reason.{reason_hearing, reason_of}
use Rattle.coordinator_laws.specs.TrueReasons.{end_round, ReasonsByEnds}
use Rattle.coordinator.specs.WellFormed.{WellFormed}
use Rattle.coordinator_laws.proofs.Pointwise.{state_at}
use Rattle.coordinator_laws.proofs.Rounds.{nothing_arrives}
use Rattle.coordinator_laws.proofs.History.{heard_at, decided_later, crashed_later, undecided_earlier}
use Rattle.coordinator_laws.proofs.Coordinator.{decided_since, waits_below, coordinator_crashed, committed_above}
use Rattle.coordinator_laws.proofs.Reason.{reason_crashed_before, reason_decided_before, reason_crash, reason_decision, reason_waiting_lem}
use Rattle.coordinator_laws.proofs.Reason.{crashed_since}
use Rattle.coordinator_laws.proofs.Faults.{struck_in, crashed_by_fault}
use Rattle.coordinator_laws.proofs.Ends.{end_at}
use Rattle.coordinator_laws.proofs.Settled.{none_ends_undecided}
use Rattle.coordinator_laws.proofs.TrueReasons.{reason_is, round_within}

module _ (x : Instance) (formed : WellFormed x) (p : ℕ) (process : IsProcess x p) where
  at_end_lem : (s : State) → end_of x p ≡ s → state_at x (last_round x) p ≡ s
  at_end_lem s e = sym (end_at x formed p process) ∙ e

  decision_reason : (r v : ℕ) → end_of x p ≡ decided r v → reason_of x p r ≡ cond (eqb p r) 1 2
  decision_reason r v e =
      let (q, u, same, within, waiting, since) = decided_since x _ p r v (at_end_lem _ e) in
      rw same (reason_is x formed q within p process ∙ (reason_decision x q p u r v waiting since).1)

  crash_reason : (r : ℕ) → end_of x p ≡ crashed r → reason_of x p r ≡ 6
  crash_reason r e =
      let (q, u, same, within, waiting, since) = crashed_since x _ p r (at_end_lem _ e) in
      rw same (reason_is x formed q within p process ∙ (reason_crash x q p u r waiting since).1)

  -- Behind the round in which it ends.
  later_reason : (q : ℕ) → suc q ≤ last_round x → (s : State) → end_of x p ≡ s → end_round s < suc q → reason_of x p (suc q) ≡ 7
  unfolding end_round
  later_reason q last (undecided v) e h = absurd (none_ends_undecided x formed p v process e)
  later_reason q last (decided i v) e h =
      let (k, u, same, within, waiting, since) = decided_since x _ p i v (at_end_lem _ e) in
      reason_is x formed q last p process ∙ reason_decided_before x q p i v (decided_later x (suc k) q p i v (omega arith) since)
  later_reason q last (crashed j) e h =
      let (k, u, same, within, waiting, since) = crashed_since x _ p j (at_end_lem _ e) in
      reason_is x formed q last p process ∙ reason_crashed_before x q p j (crashed_later x (suc k) q p j (omega arith) since)

  -- Until the round in which it ends it is undecided.
  waits_until : (r : ℕ) → (s : State) → end_of x p ≡ s → r < end_round s → (v : ℕ) × (state_at x r p ≡ undecided v)
  unfolding end_round
  waits_until r (undecided v) e h = absurd (none_ends_undecided x formed p v process e)
  waits_until r (decided i v) e h =
      let (k, u, same, within, waiting, since) = decided_since x _ p i v (at_end_lem _ e) in
      undecided_earlier x r k p u (omega arith) waiting
  waits_until r (crashed j) e h =
      let (k, u, same, within, waiting, since) = crashed_since x _ p j (at_end_lem _ e) in
      undecided_earlier x r k p u (omega arith) waiting

-- What is told by a coordinator that was up as the round began, where its commit does not arrive.
by_reach : (reached : Reach) (u : ℕ) → (reached ≡ all → ⊥) → reason_hearing (arriving reached (sent_by (undecided u))) (undecided u) ≡ cond (gets_data reached) 3 5
unfolding arriving sent_by sends reason_hearing gets_data
by_reach none u h = refl
by_reach data_only u h = refl
by_reach all u h = absurd (h refl)

-- A process that ends later than round q + 1: it stands above the coordinator of that round, which has crashed by its end.
module _ (x : Instance) (formed : WellFormed x) (p : ℕ) (process : IsProcess x p) (q : ℕ) (last : suc q ≤ last_round x)
    (far : suc q < end_round (end_of x p)) where
  began : (v : ℕ) × (state_at x q p ≡ undecided v)
  began = waits_until x formed p process q (end_of x p) refl (omega arith)

  waits : (w : ℕ) × (state_at x (suc q) p ≡ undecided w)
  waits = waits_until x formed p process (suc q) (end_of x p) refl far

  above : suc q < p
  above = waits_below x (suc q) p _ process.first waits.1

  coordinator_gone : (j : ℕ) × (state_at x (suc q) (suc q) ≡ crashed j)
  coordinator_gone = coordinator_crashed x (suc q) p _ (omega arith) above waits.1

  gone_in : end_round (end_of x (suc q)) ≡ coordinator_gone.0
  unfolding end_round
  gone_in =
      let (j, c) = coordinator_gone in
      let coordinator : IsProcess x (suc q) = omega (arith, formed.fewer_crashes) in
      ap end_round (end_at x formed (suc q) coordinator ∙ crashed_later x (suc q) (last_round x) (suc q) j last c)

  waiting_reason : reason_of x p (suc q) ≡ reason_hearing (heard_at x q p) (state_at x q (suc q))
  waiting_reason = reason_is x formed q last p process ∙ reason_waiting_lem x q p _ _ began.1 waits.1

  pub silent_reason : end_round (end_of x (suc q)) < suc q → reason_of x p (suc q) ≡ 4
  unfolding received sent_by reason_hearing
  silent_reason h =
      let (j, c) = coordinator_gone in
      let (k, u, same, within, waiting, since) = crashed_since x (suc q) (suc q) j c in
      let crash : state_at x q (suc q) ≡ crashed j = crashed_later x (suc k) q (suc q) j (omega (arith, gone_in)) since in
      waiting_reason ∙ rw (crash, nothing_arrives (reach x.processes (fault_of x (suc q)) (suc q) p))

  -- Its commit does not arrive, or the process would have decided.
  no_commit_lem : (u : ℕ) → state_at x q (suc q) ≡ undecided u → reach x.processes (fault_of x (suc q)) (suc q) p ≡ all → ⊥
  unfolding reach
  no_commit_lem u from e = committed_above x q p u _ above (sym (rw (lt-ltb (suc q) p above)) ∙ e) from waits.1

  -- The point at which it crashes says how far its messages get.
  crash_reach : (point : CrashPoint) → reach x.processes (crashes (suc q) point) (suc q) p ≡ reach_at x.processes point p
  unfolding reach reach_in
  crash_reach point = rw (lt-ltb (suc q) p above, eq-eqb (suc q) (suc q) refl)

  pub interrupted_reason : suc q ≤ end_round (end_of x (suc q))
      → (point : CrashPoint) × (fault_of x (suc q) ≡ crashes (suc q) point) × (reason_of x p (suc q) ≡ cond (gets_data (reach_at x.processes point p)) 3 5)
  unfolding received
  interrupted_reason h =
      let (j, c) = coordinator_gone in
      let (k, u, same, within, waiting, since) = crashed_since x (suc q) (suc q) j c in
      let now : k ≡ q = omega (arith, gone_in) in
      let up : state_at x q (suc q) ≡ undecided u = subst (λ (k : ℕ). state_at x k (suc q) ≡ undecided u) now waiting in
      let crash : state_at x (suc q) (suc q) ≡ crashed (suc q) = c ∙ ap crashed (same ∙ ap suc now) in
      let (point, fault) = struck_in (suc q) (fault_of x (suc q)) (crashed_by_fault x (suc q) (suc q) (suc q) crash) in (
        point,
        fault,
        waiting_reason ∙ rw up (by_reach (reach x.processes (fault_of x (suc q)) (suc q) p) u (no_commit_lem u up))
            ∙ ap (λ (far : Reach). cond (gets_data far) 3 5) (ap (λ (f : Fault). reach x.processes f (suc q) p) fault ∙ crash_reach point),
      )

pub reasons_by_ends : (x : Instance) → WellFormed x → ReasonsByEnds x
reasons_by_ends x formed =
    record {
      decision = λ p r v d. decision_reason x formed p d.process r v d.state;
      crash = λ p r process e. crash_reason x formed p process r e;
      later = λ p r process round h.
          let (q, same, last) = round_within x r round in
          rw same (later_reason x formed p process q last _ refl (omega arith));
      silent = λ p r process round far h.
          let (q, same, last) = round_within x r round in
          rw same (silent_reason x formed p process q last (omega arith) (rw same at h));
      interrupted = λ p r process round far h.
          let (q, same, last) = round_within x r round in
          rw same (interrupted_reason x formed p process q last (omega arith) (rw same at h));
    }
