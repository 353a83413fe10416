-- The messages by the process that sent them: proved once, of either kind. For well-formed instances where it says so. Assumes nothing else.
use mathlib.Core.List.{List}
use mathlib.Core.Path.{◌≡◌, refl, sym, ap, ◌∙◌}
use mathlib.Core.Bool.{false, cond}
use Prim.Native.Nat.{ℕ, zero, suc, ◌+◌, ◌-◌, ◌≤◌, ◌<◌}
use native.Mathlib.Omega.{arith}
use native.Mathlib.Decide.{le_ind}
use borrow.Author.Tests.{le-leb, lt-leb}
use lib.Dec.{leb}
use lib.ListN.{length, replicate}
use Rattle.general.specs.Counts.{count_of, add_at}
use Rattle.general.proofs.Counts.{none_added, length-by, count_by, sum_by}
use Rattle.general.proofs.Tests.{by_order}
use Rattle.consensus.specs.Instance.{Instance}
use Rattle.consensus.specs.declared.State.{State}
use Rattle.consensus.specs.Consensus.{IsProcess}
use Rattle.coordinator.specs.Undecided.{any_undecided}
use Rattle.coordinator.specs.Count.{speaks, carried_in, data_in, commits_in}
use Rattle.coordinator.specs.Run.{Run, initial, with_round, run_to, run_of, last_round}
use Rattle.coordinator_laws.specs.RunRounds.{RunRounds}
use Rattle.coordinator.specs.WellFormed.{WellFormed}
use Rattle.coordinator.specs.SentBy.{sent_after, data_by, commits_by}
use Rattle.coordinator_laws.specs.MessagesBySender.{BySender, MessagesBySender}
use Rattle.coordinator_laws.proofs.Pointwise.{length-states}
use Rattle.coordinator_laws.proofs.Undecided.{none_undecided}
use Rattle.coordinator_laws.proofs.Ended.{run_ended}
use Rattle.coordinator_laws.proofs.Carried.{data_in_le, commits_in_le}
use Rattle.coordinator_laws.proofs.Settled.{run_over_lem}
use Rattle.coordinator_laws.proofs.RunRounds.{run_rounds}

-- A round that begins with no process up and undecided counts no message.
pub data_silent : (x : Instance) (r : ℕ) (states : List State) → any_undecided states ≡ false → data_in x r states ≡ 0
unfolding data_in carried_in speaks
data_silent x r states h = rw (none_undecided states r h)

pub commits_silent : (x : Instance) (r : ℕ) (states : List State) → any_undecided states ≡ false → commits_in x r states ≡ 0
unfolding commits_in carried_in speaks
commits_silent x r states h = rw (none_undecided states r h)

-- Messages of one kind.
module _ (counted : Instance → ℕ → List State → ℕ) (x : Instance) where
  -- What round p counts.
  abbrev in_round : ℕ → ℕ
  in_round p = counted x p (run_to x (p - 1)).states

  round_next : (r : ℕ) → counted x (suc r) (run_to x r).states ≡ in_round (suc r)
  round_next r = let before : r ≡ suc r - 1 = omega arith in ap (λ (q : ℕ). counted x (suc r) (run_to x q).states) before

  sent_first : sent_after counted x 0 ≡ replicate x.processes 0
  unfolding sent_after
  sent_first = refl

  sent_next : (r : ℕ) → sent_after counted x (suc r) ≡ add_at (suc r) (in_round (suc r)) (sent_after counted x r)
  unfolding sent_after
  sent_next r = ap (λ (k : ℕ). add_at (suc r) k (sent_after counted x r)) (round_next r)

  -- The same of round r and the one before.
  pub sent_round : (r : ℕ) → 1 ≤ r → sent_after counted x r ≡ add_at r (in_round r) (sent_after counted x (r - 1))
  sent_round zero h = absurd (let z : ⊥ = omega arith in z)
  sent_round (suc r) h = let before : r ≡ suc r - 1 = omega arith in sent_next r ∙ ap (λ (q : ℕ). add_at (suc r) (in_round (suc r)) (sent_after counted x q)) before

  pub length-sent : (r : ℕ) → length (sent_after counted x r) ≡ x.processes
  length-sent = length-by x.processes (sent_after counted x) in_round sent_first sent_next

  -- After rounds 1 to r process p has sent what round p counts, if that is one of them.
  pub count_sent : (r p : ℕ) → 1 ≤ p → p ≤ x.processes → count_of (sent_after counted x r) p ≡ cond (leb p r) (in_round p) 0
  count_sent = count_by x.processes (sent_after counted x) in_round sent_first sent_next

  module _ (silent : (r : ℕ) (states : List State) → any_undecided states ≡ false → counted x r states ≡ 0) where
    -- Rounds after the run's end add nothing.
    pub sent_ended : (r m : ℕ) → any_undecided (run_to x r).states ≡ false → r ≤ m → sent_after counted x m ≡ sent_after counted x r
    unfolding sent_after
    sent_ended r m h le =
        le_ind (λ (k : ℕ). sent_after counted x k ≡ sent_after counted x r) refl
        (λ k within same.
        let over = ap (λ (run : Run). any_undecided run.states) (run_ended x r k h within) ∙ h in
        rw (silent (suc k) (run_to x k).states over, none_added) same) m le

    module _ (formed : WellFormed x) where
      -- The round of a process above t + 1 begins after the run's end.
      of_round_lem : (p : ℕ) → IsProcess x p → count_of (sent_after counted x (last_round x)) p ≡ in_round p
      unfolding run_of
      of_round_lem p process = count_sent (last_round x) p process.first process.last ∙ by_order p (last_round x) within beyond
        where
          within : p ≤ last_round x → cond (leb p (last_round x)) (in_round p) 0 ≡ in_round p
          within h = rw (le-leb p (last_round x) h)

          beyond : suc (last_round x) ≤ p → cond (leb p (last_round x)) (in_round p) 0 ≡ in_round p
          beyond h =
              let over = run_over_lem x formed in
              let same = run_ended x (last_round x) (p - 1) over (omega arith) in
              rw (lt-leb p (last_round x) h) (sym (silent p (run_to x (p - 1)).states (ap (λ (run : Run). any_undecided run.states) same ∙ over)))

      -- A round that is none of the run's begins with no process up and undecided.
      after_run : (p : ℕ) → IsProcess x p → (run_of x).rounds < p → any_undecided (run_to x (p - 1)).states ≡ false
      unfolding run_of RunRounds
      after_run p process late = by_order p (last_round x) within beyond
        where
          within : p ≤ last_round x → any_undecided (run_to x (p - 1)).states ≡ false
          within h =
              let next : suc (p - 1) ≡ p = omega (arith, process.first) in
              run_rounds x (p - 1) (last_round x) (omega (arith, process.first)) ∙ rw next (lt-leb p _ late)

          beyond : suc (last_round x) ≤ p → any_undecided (run_to x (p - 1)).states ≡ false
          beyond h =
              let over = run_over_lem x formed in
              ap (λ (run : Run). any_undecided run.states) (run_ended x (last_round x) (p - 1) over (omega arith)) ∙ over

      module _ (total : Run → ℕ) (none : total (initial x) ≡ 0) (more : (r : ℕ) (run : Run) → total (with_round x r run) ≡ total run + counted x r run.states)
          (few : (r : ℕ) (states : List State) → counted x r states ≤ length states - r) where
        total_first : total (run_to x 0) ≡ 0
        unfolding run_to
        total_first = none

        total_next : (r : ℕ) → total (run_to x (suc r)) ≡ total (run_to x r) + in_round (suc r)
        unfolding run_to
        total_next r = more (suc r) (run_to x r) ∙ ap (λ (k : ℕ). total (run_to x r) + k) (round_next r)

        by_sender : BySender counted (sent_after counted x (last_round x)) (total (run_of x)) x
        unfolding run_of
        by_sender =
            record {
              each = length-sent (last_round x);
              add_up =
                  sum_by x.processes (sent_after counted x) in_round sent_first sent_next (λ q. total (run_to x q)) total_first total_next (last_round x)
                  (omega arith);
              of_round = of_round_lem;
              after_the_run = λ p process late. of_round_lem p process ∙ silent p _ (after_run p process late);
              to_those_above = λ p process.
                  rw (of_round_lem p process) (omega (arith, few p (run_to x (p - 1)).states, length-states x (p - 1), formed.all_propose));
            }

pub messages_by_sender : (x : Instance) → WellFormed x → MessagesBySender x
unfolding initial with_round data_by commits_by
messages_by_sender x formed =
    record {
      of_data = by_sender data_in x (data_silent x) formed (λ run. run.data_sent) refl (λ r run. refl) (data_in_le x);
      of_commits =
          by_sender commits_in x (commits_silent x) formed (λ run. run.commits_sent) refl (λ r run. refl) (commits_in_le x);
    }
