-- The reason that is given is true, no other is, and what it has to do with how the process ends (document 02, Paper 7). For well-formed instances. Assumes
-- nothing else.
use mathlib.Core.Path.{◌≡◌, refl, sym, ap, ◌∙◌}
use mathlib.Core.Bool.{Bool, true, false, cond}
use Prim.Native.Nat.{ℕ, suc, ◌-◌, ◌≤◌, ◌<◌}
use native.Mathlib.Omega.{arith}
use lib.Dec.{eqb}
use borrow.Author.Tests.{eq-eqb, ne_eqb, le-leb}
use Rattle.general.proofs.Tests.{by_equal}
use Rattle.consensus.specs.Instance.{Instance, fault_of}
use Rattle.consensus.specs.declared.Fault.{Fault}
use Rattle.consensus.specs.State.{crashes_in}
use Rattle.consensus.specs.declared.State.{State}
use Rattle.consensus.specs.declared.State.TheVariants.{Undecided as undecided, Decided as decided, Crashed as crashed}
use Rattle.consensus.specs.Consensus.{IsProcess}
use Rattle.coordinator.specs.Message.{Messages, nothing, estimate, estimate_and_commit}
use Rattle.coordinator.specs.Run.{run_to, run_of, last_round}
use Rattle.coordinator.specs.Reason.{state_at_start, state_at_end, heard_in, reason_hearing, reason_from, reason_of}
use Rattle.coordinator_laws.specs.TrueReasons.{IsRound, StaysUp, Ended, has_crashed, has_decided, TrueReason, coordinated, heard_commit, heard_value}
use Rattle.coordinator_laws.specs.TrueReasons.{coordinator_crashed_before, coordinator_crashed_now, crashed_now, ended_before, ReasonsTrue}
use Rattle.coordinator.specs.Undecided.{any_undecided}
use Rattle.coordinator_laws.specs.RunRounds.{RunRounds}
use Rattle.coordinator.specs.WellFormed.{WellFormed}
use Rattle.coordinator_laws.proofs.Pointwise.{state_at, length-states}
use Rattle.coordinator_laws.proofs.Rounds.{received_below}
use Rattle.coordinator_laws.proofs.History.{heard_at, undecided_decided, undecided_crashed, decided_crashed, decided_later, crashed_later}
use Rattle.coordinator_laws.proofs.Coordinator.{decided_since, decided_above, waits_below, coordinator_crashed}
use Rattle.coordinator_laws.proofs.Reason.{reason_at, reason_crashed_before, reason_decided_before, reason_crash, reason_decision, reason_waiting_lem}
use Rattle.coordinator_laws.proofs.Reason.{crashed_since}
use Rattle.coordinator_laws.proofs.Counts.{rounds_le}
use Rattle.coordinator_laws.proofs.RunRounds.{run_rounds}
use Rattle.coordinator_laws.proofs.Undecided.{some_undecided}
use Rattle.coordinator_laws.proofs.Settled.{its_state}

-- No messages are of two kinds.
nothing_commit : (m : Messages) (v : ℕ) → m ≡ nothing → m ≡ estimate_and_commit v → ⊥
nothing_commit m v e d = let z : ◌≡◌ {A = ℕ} 0 1 = cc in omega arith

nothing_value : (m : Messages) (v : ℕ) → m ≡ nothing → m ≡ estimate v → ⊥
nothing_value m v e d = let z : ◌≡◌ {A = ℕ} 0 1 = cc in omega arith

-- Round q + 1, as far as there are processes to coordinate rounds.
module _ (x : Instance) (formed : WellFormed x) (q : ℕ) (within : suc q ≤ last_round x) where
  coordinator : IsProcess x (suc q)
  coordinator = omega (arith, formed.fewer_crashes)

  before_is : (p : ℕ) → IsProcess x p → state_at_start x (suc q) p ≡ state_at x q p
  unfolding state_at_start
  before_is p process =
      let place : suc q - 1 ≡ q = omega arith in
      rw place (its_state x formed q p (omega arith) process)

  after_is : (p : ℕ) → IsProcess x p → state_at_end x (suc q) p ≡ state_at x (suc q) p
  unfolding state_at_end
  after_is p process = its_state x formed (suc q) p within process

  heard_is : (p : ℕ) → heard_in x (suc q) p ≡ heard_at x q p
  unfolding heard_in
  heard_is p = rw (before_is (suc q) coordinator)

  pub reason_is : (p : ℕ) → IsProcess x p → reason_of x p (suc q) ≡ reason_at x q p
  unfolding reason_of
  reason_is p process = rw (heard_is p, before_is (suc q) coordinator, before_is p process)

  module _ (p : ℕ) (process : IsProcess x p) where
    -- Before and after the round, as the claims have it.
    begins : (s : State) → state_at x q p ≡ s → state_at_start x (suc q) p ≡ s
    begins s e = before_is p process ∙ e

    ends : (s : State) → state_at x (suc q) p ≡ s → state_at_end x (suc q) p ≡ s
    ends s e = after_is p process ∙ e

    stays : (v : ℕ) → state_at x q p ≡ undecided v → ((j : ℕ) → state_at x (suc q) p ≡ crashed j → ⊥) → StaysUp x p (suc q)
    stays v e up = record { held = v; began = begins _ e; up = λ j d. up j (sym (after_is p process) ∙ d) }

    given_by : (k : ℕ) → reason_at x q p ≡ k → TrueReason x p (suc q) k → TrueReason x p (suc q) (reason_of x p (suc q))
    given_by k e true-one = rw (reason_is p process ∙ e) true-one

    -- One that waits on has a coordinator above which it stands, and which has crashed.
    given_waiting : (v w : ℕ) → state_at x q p ≡ undecided v → state_at x (suc q) p ≡ undecided w → TrueReason x p (suc q) (reason_of x p (suc q))
    unfolding reason_hearing
    given_waiting v w d e = by_heard (heard_at x q p) refl
      where
        above : suc q < p
        above = waits_below x (suc q) p w process.first e

        up : StaysUp x p (suc q)
        up = stays v d (λ j c. undecided_crashed _ w j e c)

        by_coordinator : heard_at x q p ≡ nothing → (s : State) → state_at x q (suc q) ≡ s → TrueReason x p (suc q) (reason_of x p (suc q))
        by_coordinator h (undecided u) b =
            let (j, c) = coordinator_crashed x (suc q) p w (omega arith) above e in
            let now : j ≡ suc q = (reason_crash x q (suc q) u j b c).0 in
            given_by 5 (reason_waiting_lem x q p v w d e ∙ rw (h, b))
            (coordinator_crashed_now up (heard_is p ∙ h) (after_is (suc q) coordinator ∙ c ∙ ap crashed now))
        by_coordinator h (decided i u) b = absurd (decided_above x q (suc q) p i u v above b d)
        by_coordinator h (crashed j) b =
            given_by 4 (reason_waiting_lem x q p v w d e ∙ rw (h, b)) (coordinator_crashed_before up (heard_is p ∙ h) (before_is (suc q) coordinator ∙ b))

        by_heard : (m : Messages) → heard_at x q p ≡ m → TrueReason x p (suc q) (reason_of x p (suc q))
        by_heard nothing h = by_coordinator h (state_at x q (suc q)) refl
        by_heard (estimate u) h = given_by 3 (reason_waiting_lem x q p v w d e ∙ rw h) (heard_value up (heard_is p ∙ h))
        by_heard (estimate_and_commit u) h = given_by 2 (reason_waiting_lem x q p v w d e ∙ rw h) (heard_commit up (heard_is p ∙ h))

    given_decided : (v i w : ℕ) → state_at x q p ≡ undecided v → state_at x (suc q) p ≡ decided i w → TrueReason x p (suc q) (reason_of x p (suc q))
    given_decided v i w d e =
        let (now, reason, heard) = reason_decision x q p v i w d e in
        by_equal p (suc q)
        (λ same. given_by 1 (reason ∙ rw (eq-eqb p (suc q) same)) (coordinated same (ends _ (e ∙ ap (λ (r : ℕ). decided r w) now))))
        (λ other.
        given_by 2 (reason ∙ rw (ne_eqb p (suc q) other))
        (heard_commit (stays v d (λ j c. decided_crashed _ i w j e c)) (heard_is p ∙ heard other)))

    given_undecided : (v : ℕ) → state_at x q p ≡ undecided v → (s : State) → state_at x (suc q) p ≡ s → TrueReason x p (suc q) (reason_of x p (suc q))
    given_undecided v d (undecided w) e = given_waiting v w d e
    given_undecided v d (decided i w) e = given_decided v i w d e
    given_undecided v d (crashed j) e =
        let (now, reason) = reason_crash x q p v j d e in
        given_by 6 reason (crashed_now (ends _ (e ∙ ap crashed now)))

    given : (s : State) → state_at x q p ≡ s → TrueReason x p (suc q) (reason_of x p (suc q))
    given (undecided v) d = given_undecided v d (state_at x (suc q) p) refl
    given (decided i v) d = given_by 7 (reason_decided_before x q p i v d) (ended_before (rw (begins _ d) has_decided))
    given (crashed j) d = given_by 7 (reason_crashed_before x q p j d) (ended_before (rw (begins _ d) has_crashed))

    pub given_true : TrueReason x p (suc q) (reason_of x p (suc q))
    given_true = given (state_at x q p) refl

    -- No other is true: each clause gives the reason back.
    only_by : (k j : ℕ) → reason_at x q p ≡ j → k ≡ j → k ≡ reason_of x p (suc q)
    only_by k j e same = same ∙ sym e ∙ sym (reason_is p process)

    began : (s : State) → state_at_start x (suc q) p ≡ s → state_at x q p ≡ s
    began s e = sym (before_is p process) ∙ e

    became : (s : State) → state_at_end x (suc q) p ≡ s → state_at x (suc q) p ≡ s
    became s e = sym (after_is p process) ∙ e

    -- A process that ends in this round began it undecided.
    no_crash_before : (j : ℕ) → state_at x q p ≡ crashed j → state_at x (suc q) p ≡ crashed (suc q) → ⊥
    no_crash_before j b e =
        let (i, u, same, earlier, _, _) = crashed_since x q p j b in
        let stayed : state_at x (suc q) p ≡ crashed j = crashed_later x q (suc q) p j (omega arith) b in
        let now : suc q ≡ j = cc in
        omega arith

    no_decision_before : (i v w : ℕ) → state_at x q p ≡ decided i v → state_at x (suc q) p ≡ decided (suc q) w → ⊥
    no_decision_before i v w b e =
        let (k, u, same, earlier, _, _) = decided_since x q p i v b in
        let stayed : state_at x (suc q) p ≡ decided i v = decided_later x q (suc q) p i v (omega arith) b in
        let now : suc q ≡ i = cc in
        omega arith

    only_coordinated : (v : ℕ) → p ≡ suc q → state_at x (suc q) p ≡ decided (suc q) v → (s : State) → state_at x q p ≡ s → 1 ≡ reason_of x p (suc q)
    only_coordinated v same e (undecided u) b =
        only_by 1 _ (reason_decision x q p u (suc q) v b e).1 (rw (eq-eqb p (suc q) same))
    only_coordinated v same e (decided i u) b = absurd (no_decision_before i u v b e)
    only_coordinated v same e (crashed j) b = absurd (decided_crashed _ (suc q) v j e (crashed_later x q (suc q) p j (omega arith) b))

    only_crashed : state_at x (suc q) p ≡ crashed (suc q) → (s : State) → state_at x q p ≡ s → 6 ≡ reason_of x p (suc q)
    only_crashed e (undecided u) b = only_by 6 6 (reason_crash x q p u (suc q) b e).1 refl
    only_crashed e (decided i u) b = absurd (decided_crashed _ i u (suc q) (decided_later x q (suc q) p i u (omega arith) b) e)
    only_crashed e (crashed j) b = absurd (no_crash_before j b e)

    only_ended : (s : State) → Ended s → state_at x q p ≡ s → 7 ≡ reason_of x p (suc q)
    only_ended _ (has_crashed {q = j}) b = only_by 7 7 (reason_crashed_before x q p j b) refl
    only_ended _ (has_decided {q = i} {v = v}) b = only_by 7 7 (reason_decided_before x q p i v b) refl

    -- The coordinator hears nothing.
    own_round_silent : p ≡ suc q → heard_at x q p ≡ nothing
    own_round_silent same = received_below x.processes (suc q) (fault_of x (suc q)) p (state_at x q (suc q)) (omega arith)

    -- One that stays up and does not coordinate has its reason by what it hears: it has decided on a commit, or it waits on.
    by_hearing : StaysUp x p (suc q) → (p ≡ suc q → ⊥) → reason_at x q p ≡ reason_hearing (heard_at x q p) (state_at x q (suc q))
    unfolding reason_hearing
    by_hearing stayed other = by_state (state_at x (suc q) p) refl
      where
        by_state : (s : State) → state_at x (suc q) p ≡ s → reason_at x q p ≡ reason_hearing (heard_at x q p) (state_at x q (suc q))
        by_state (undecided w) e = reason_waiting_lem x q p _ w (began _ stayed.began) e
        by_state (decided i w) e =
            let (now, reason, heard) = reason_decision x q p _ i w (began _ stayed.began) e in
            reason ∙ rw (ne_eqb p (suc q) other, heard other)
        by_state (crashed j) e = absurd (stayed.up j (ends _ e))

    only_hearing : (k : ℕ) (m : Messages) → StaysUp x p (suc q) → (p ≡ suc q → ⊥) → heard_in x (suc q) p ≡ m → k ≡ reason_hearing m (state_at x q (suc q))
        → k ≡ reason_of x p (suc q)
    only_hearing k m stayed other heard e =
        only_by k _ (by_hearing stayed other) (e ∙ ap (λ (h : Messages). reason_hearing h (state_at x q (suc q))) (sym heard ∙ heard_is p))

    -- Reason 5 is the one where the coordinator began the round up.
    only_now : state_at x (suc q) (suc q) ≡ crashed (suc q) → (s : State) → state_at x q (suc q) ≡ s → 5 ≡ reason_hearing nothing s
    unfolding reason_hearing
    only_now c (undecided u) b = refl
    only_now c (decided i u) b = refl
    only_now c (crashed j) b =
        let (i, u, same, earlier, _, _) = crashed_since x q (suc q) j b in
        let there : state_at x (suc q) (suc q) ≡ crashed j = crashed_later x q (suc q) (suc q) j (omega arith) b in
        let now : suc q ≡ j = cc in
        absurd (let z : ⊥ = omega arith in z)

    pub only_true : (k : ℕ) → TrueReason x p (suc q) k → k ≡ reason_of x p (suc q)
    unfolding reason_hearing
    only_true _ (coordinated {v} same e) = only_coordinated v same (became _ e) (state_at x q p) refl
    only_true _ (heard_commit {v} stayed h) =
        only_hearing 2 (estimate_and_commit v) stayed (λ same. nothing_commit _ v (heard_is p ∙ own_round_silent same) h) h refl
    only_true _ (heard_value {v} stayed h) =
        only_hearing 3 (estimate v) stayed (λ same. nothing_value _ v (heard_is p ∙ own_round_silent same) h) h refl
    only_true _ (coordinator_crashed_before {q = j} stayed h c) =
        let crash : state_at x q (suc q) ≡ crashed j = sym (before_is (suc q) coordinator) ∙ c in
        only_hearing 4 nothing stayed
        (λ same. undecided_crashed _ _ j (began _ stayed.began) (ap (state_at x q) same ∙ crash)) h (rw crash)
    only_true _ (coordinator_crashed_now stayed h c) =
        let crash : state_at x (suc q) (suc q) ≡ crashed (suc q) = sym (after_is (suc q) coordinator) ∙ c in
        only_hearing 5 nothing stayed (λ same. stayed.up (suc q) (ends _ (ap (state_at x (suc q)) same ∙ crash))) h
        (only_now crash (state_at x q (suc q)) refl)
    only_true _ (crashed_now e) = only_crashed (became _ e) (state_at x q p) refl
    only_true _ (ended_before over) = only_ended _ over (sym (before_is p process))

-- A round of the run begins with a process undecided, so that its coordinator has not decided before: whoever is undecided stands above the coordinators that
-- have decided, or is the coordinator itself.
module _ (x : Instance) (formed : WellFormed x) (q : ℕ) (known : suc q ≤ (run_of x).rounds) where
  last_round_lem : suc q ≤ last_round x
  unfolding run_of
  last_round_lem = omega (arith, rounds_le x (last_round x))

  begins_open : any_undecided (run_to x q).states ≡ true
  unfolding run_of RunRounds
  begins_open = run_rounds x q (last_round x) last_round_lem ∙ le-leb (suc q) _ known

  pub none_decided_before_lem : (i v : ℕ) → state_at_start x (suc q) (suc q) ≡ decided i v → ⊥
  none_decided_before_lem i v d =
      let (p, one, many, w, open_state_lem) = some_undecided (run_to x q).states begins_open in
      let process : IsProcess x p = record { first = one; last = omega (arith, many, length-states x q, formed.all_propose) } in
      let waiting : state_at x q p ≡ undecided w = sym (its_state x formed q p (omega (arith, last_round_lem)) process) ∙ open_state_lem in
      let decision : state_at x q (suc q) ≡ decided i v = sym (before_is x formed q last_round_lem (suc q) (coordinator x formed q last_round_lem)) ∙ d in
      let below : q < p = waits_below x q p w one waiting in
      by_equal p (suc q) (λ same. undecided_decided _ _ i v waiting (ap (state_at x q) same ∙ decision))
      (λ other. let above : suc q < p = omega arith in decided_above x q (suc q) p i v w above decision waiting)

-- It is one of the seven.
heard_within : (m : Messages) (c : State) → (1 ≤ reason_hearing m c) × (reason_hearing m c ≤ 7)
unfolding reason_hearing
heard_within (estimate_and_commit v) c = (omega arith, omega arith)
heard_within (estimate v) c = (omega arith, omega arith)
heard_within nothing (crashed round) = (omega arith, omega arith)
heard_within nothing (undecided v) = (omega arith, omega arith)
heard_within nothing (decided round v) = (omega arith, omega arith)

choice_within : (b : Bool) (k l : ℕ) → (1 ≤ k) × (k ≤ 7) → (1 ≤ l) × (l ≤ 7) → (1 ≤ cond b k l) × (cond b k l ≤ 7)
choice_within true k l h g = h
choice_within false k l h g = g

from_within : (r p : ℕ) (own : Fault) (m : Messages) (c s : State) → (1 ≤ reason_from r p own m c s) × (reason_from r p own m c s ≤ 7)
unfolding reason_from
from_within r p own m c (undecided v) =
    choice_within (crashes_in r own) 6 _ (omega arith, omega arith) (choice_within (eqb p r) 1 _ (omega arith, omega arith) (heard_within m c))
from_within r p own m c (decided round v) = (omega arith, omega arith)
from_within r p own m c (crashed round) = (omega arith, omega arith)

pub reason_within : (x : Instance) (p r : ℕ) → (1 ≤ reason_of x p r) × (reason_of x p r ≤ 7)
unfolding reason_of
reason_within x p r = from_within r p _ _ _ _

-- A round of the run is one of rounds 1 to t + 1, that is q + 1 for some q.
pub round_within : (x : Instance) (r : ℕ) → IsRound x r → (q : ℕ) × (r ≡ suc q) × (suc q ≤ last_round x)
unfolding run_of
round_within x r round = (r - 1, omega (arith, round.first), omega (arith, round.first, round.last, rounds_le x (last_round x)))

pub reasons_true : (x : Instance) → WellFormed x → ReasonsTrue x
reasons_true x formed =
    record {
      given = λ p r process round.
          let (q, same, last) = round_within x r round in
          rw same (given_true x formed q last p process);
      only = λ p r k process round reason.
          let (q, same, last) = round_within x r round in
          rw same (only_true x formed q last p process k (rw same at reason));
      none_decided_before = λ r i v round decision.
          let (q, same, last) = round_within x r round in
          none_decided_before_lem x formed q (omega (arith, same, round.last)) i v (rw same at decision);
    }
