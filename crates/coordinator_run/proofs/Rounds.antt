-- The rounds one after the other: a round may be run, and one round more has been run after it, with what each process sends. Assumes nothing.
use mathlib.Core.List.{List}
use mathlib.Core.Path.{◌≡◌, refl, sym, ap, ap₂, ◌∙◌}
use mathlib.Core.Bool.{Bool, true, false, false≢true}
use Prim.Native.Nat.{ℕ, suc, ◌+◌, ◌-◌, ◌≤◌}
use native.Mathlib.Omega.{arith}
use borrow.Author.Tests.{lt-leb}
use lib.ListN.{length, get_or, set, take, length-take}
use lib.Seq.{get_or-take}
use Rattle.general.specs.Bits.{member}
use Rattle.general.specs.Counts.{count_of, add_at}
use Rattle.general.proofs.Counts.{stored_first}
use Rattle.general.proofs.Indexed.{length-map_from}
use Rattle.general.proofs.Sets.{member_none, member_set, set_empty}
use Rattle.consensus.specs.Instance.{Instance}
use Rattle.consensus.specs.WellFormed.{FaultAllowedBy}
use Rattle.consensus.specs.declared.Fault.{Fault}
use Rattle.consensus.specs.declared.Fault.TheVariants.{Crashes as crashes}
use Rattle.consensus.specs.declared.CrashPoint.{CrashPoint}
use Rattle.consensus.specs.declared.State.{State}
use Rattle.coordinator.specs.Undecided.{is_undecided, any_undecided}
use Rattle.coordinator.specs.Count.{data_in, commits_in}
use Rattle.coordinator.specs.Run.{Run, with_round, run_to, last_round}
use Rattle.coordinator.specs.SentBy.{sent_after}
use Rattle.coordinator.specs.WellFormed.{PointAllowed, WellFormed}
use Rattle.coordinator_laws.proofs.Pointwise.{length-states}
use Rattle.coordinator_laws.proofs.Undecided.{none_undecided, not_any}
use Rattle.coordinator_laws.proofs.Counts.{speakers_le, data_sent_le, commits_sent_le}
use Rattle.coordinator_laws.proofs.Carried.{data_in_le, commits_in_le}
use Rattle.coordinator_laws.proofs.MessagesBySender.{sent_round, length-sent, count_sent}
use Rattle.tables.specs.declared.run.RunTable.{RunTable}
use Rattle.tables.specs.declared.sent.SentCounts.{SentCounts}
use Rattle.tables.specs.code.RunOfTable.{state_over, states_over, states_in, run_over, run_from}
use Rattle.tables.proofs.Places.{length_states_over}
use Rattle.coordinator_round.specs.code.Round.{undecided_set, RoundAllowed, RoundOf, RoundRun}
use Rattle.coordinator_run.specs.code.Running.{RunTo}

-- What round r has done: the totals have grown by numbers that fit a byte, and these are the counts of its coordinator.
pub record RoundEnded (x : Instance) (r : ℕ) (run next : RunTable) (sent : SentCounts) : Type 0 where
  pub data_gained : (run.data_sent ≤ next.data_sent) × (next.data_sent ≤ run.data_sent + 64)
  pub commits_gained : (run.commits_sent ≤ next.commits_sent) × (next.commits_sent ≤ run.commits_sent + 64)
  pub ended : RunTo x r next
      (record {
        data_by = set sent.data_by (r - 1) (next.data_sent - run.data_sent);
        commits_by = set sent.commits_by (r - 1) (next.commits_sent - run.commits_sent);
      })

-- The table's set tells whether a process is up and undecided.
module _ (run : RunTable) (entries : run.n ≤ length run.ends) (kept : run.undecided ≡ undecided_set run) where
  nobody : run.undecided ≡ 0 → any_undecided (states_in run) ≡ false
  unfolding is_undecided
  nobody none =
      not_any (states_in run)
      λ p v h g e.
      let inside : p ≤ run.n = omega (arith, length_states_over run.n run.ends run.end_rounds run.values entries) in
      let out : member p run.undecided ≡ false = rw none (member_none p) in
      let within : member p run.undecided ≡ true = ap (member p) kept ∙ member_set run.n _ p h inside ∙ ap is_undecided e in
      false≢true (sym out ∙ within)

  somebody : (run.undecided ≡ 0 → ⊥) → any_undecided (states_in run) ≡ true
  somebody some = by_test (any_undecided (states_in run)) refl
    where
      by_test : (b : Bool) → any_undecided (states_in run) ≡ b → b ≡ true
      by_test true e = refl
      by_test false e = absurd (some (kept ∙ sym (set_empty run.n _ (λ p _ _. none_undecided (states_in run) p e))))

-- The run and the counts as round r begins.
module _ (x : Instance) (formed : WellFormed x) (r : ℕ) (run : RunTable) (sent : SentCounts) (now : RunTo x (r - 1) run sent) where
  as_many : length (run_to x (r - 1)).states ≡ run.n
  as_many = length-states x (r - 1) ∙ formed.all_propose ∙ sym now.processes

  -- The table has an end for each process, as the run has a state for each.
  entries : run.n ≤ length run.ends
  unfolding run_over states_over
  entries =
      let size : length (states_in run) ≡ run.n = ap (λ (known : Run). length known.states) now.run ∙ as_many in
      omega (arith, size, length-map_from (state_over run.end_rounds run.values) 1 (take run.n run.ends), length-take run.n run.ends)

  -- Whether a process is up and undecided.
  pub over : run.undecided ≡ 0 → any_undecided (run_to x (r - 1)).states ≡ false
  unfolding run_over
  over none = ap (λ (known : Run). any_undecided known.states) (sym now.run) ∙ nobody run entries now.kept none

  module _ (first : 1 ≤ r) (last : r ≤ last_round x) (fault : Fault) (faulty : ℕ) (of : RoundOf x run.n r fault faulty) where
    inside : r ≤ run.n
    inside = omega (arith, of.processes, formed.fewer_crashes)

    -- Where its coordinator crashes in it, this is at a point allowed there.
    point_allowed : (point : CrashPoint) → fault ≡ crashes r point → PointAllowed run.n r r point
    unfolding FaultAllowedBy
    point_allowed point crash =
        let allowed = formed.faults_allowed r first (rw of.processes inside) in (rw (of.coordinator, crash, of.processes) at allowed).2

    -- The round may be run on the table, as long as a process is up and undecided.
    pub round_allowed : (run.undecided ≡ 0 → ⊥) → RoundAllowed r fault faulty run
    unfolding run_over
    round_allowed some =
        let speakers : run.speakers ≡ (run_to x (r - 1)).speakers = ap (λ (known : Run). known.speakers) now.run in
        let data_sent : run.data_sent ≡ (run_to x (r - 1)).data_sent = ap (λ (known : Run). known.data_sent) now.run in
        let commits_sent : run.commits_sent ≡ (run_to x (r - 1)).commits_sent = ap (λ (known : Run). known.commits_sent) now.run in
        let below : r - 1 ≤ x.processes = omega (arith, of.processes) in
        let limit : run.n ≤ 64 = omega (arith, of.processes, formed.at_most_64) in
        record {
          sender = record { first = first; last = inside; at_most_64 = limit; point_allowed = point_allowed };
          instance = x;
          of_instance = of;
          some_undecided = somebody run entries now.kept some;
          kept = now.kept;
          speakers = omega (arith, speakers_le x (r - 1));
          data_sent = omega (arith, data_sent_le x formed (r - 1) below);
          commits_sent = omega (arith, commits_sent_le x formed (r - 1) below);
        }

    module _ (next : RunTable) (done : RoundRun r fault faulty run next) where
      gained : run_from next ≡ with_round x r (run_to x (r - 1))
      gained = done.round x of ∙ ap (with_round x r) now.run

      -- What it counts, of either kind, is what the totals gain, and at most 64.
      data_added : (next.data_sent ≡ run.data_sent + data_in x r (run_to x (r - 1)).states) × (data_in x r (run_to x (r - 1)).states ≤ 64)
      unfolding run_over with_round
      data_added =
          let after : next.data_sent ≡ (run_to x (r - 1)).data_sent + data_in x r (run_to x (r - 1)).states = ap (λ (known : Run). known.data_sent) gained in
          let before : run.data_sent ≡ (run_to x (r - 1)).data_sent = ap (λ (known : Run). known.data_sent) now.run in
          (omega (arith, after, before), omega (arith, data_in_le x r (run_to x (r - 1)).states, as_many, of.processes, formed.at_most_64))

      commits_added : (next.commits_sent ≡ run.commits_sent + commits_in x r (run_to x (r - 1)).states) × (commits_in x r (run_to x (r - 1)).states ≤ 64)
      unfolding run_over with_round
      commits_added =
          let after : next.commits_sent ≡ (run_to x (r - 1)).commits_sent + commits_in x r (run_to x (r - 1)).states =
          ap (λ (known : Run). known.commits_sent) gained
          in
          let before : run.commits_sent ≡ (run_to x (r - 1)).commits_sent = ap (λ (known : Run). known.commits_sent) now.run in
          (omega (arith, after, before), omega (arith, commits_in_le x r (run_to x (r - 1)).states, as_many, of.processes, formed.at_most_64))

      -- Stored for the round's coordinator, which had sent none, it is what that process has sent.
      stored : (counted : Instance → ℕ → List State → ℕ) (counts : List ℕ) → take run.n counts ≡ sent_after counted x (r - 1) → (d : ℕ)
          → d ≡ counted x r (run_to x (r - 1)).states → take next.n (set counts (r - 1) d) ≡ sent_after counted x r
      unfolding count_of
      stored counted counts before d adds =
          let places : length (take run.n counts) ≡ run.n = ap length before ∙ length-sent counted x (r - 1) ∙ of.processes in
          let unsent : get_or counts (r - 1) 0 ≡ 0 =
          sym (get_or-take run.n counts (r - 1) 0 (omega (arith, first, inside))) ∙ ap (λ (l : List ℕ). get_or l (r - 1) 0) before
          ∙ count_sent counted x (r - 1) r first (rw of.processes inside) ∙ rw (lt-leb r (r - 1) (omega (arith, first)))
          in
          rw done.processes
          (stored_first run.n r counts first inside (omega (arith, places, length-take run.n counts)) unsent d
          ∙ ap₂ (add_at r) adds before ∙ sym (sent_round counted x r first))

      pub after_round : RoundEnded x r run next sent
      unfolding run_to
      after_round =
          let same : suc (r - 1) ≡ r = omega (arith, first) in
          let ran : run_to x (suc (r - 1)) ≡ with_round x r (run_to x (r - 1)) = rw same in
          record {
            data_gained = (omega (arith, data_added), omega (arith, data_added));
            commits_gained = (omega (arith, commits_added), omega (arith, commits_added));
            ended =
                record {
                  processes = done.processes ∙ now.processes;
                  run = gained ∙ sym ran ∙ ap (run_to x) same;
                  kept = done.kept;
                  data_sent = stored data_in sent.data_by now.data_sent _ (omega (arith, data_added.0));
                  commits_sent = stored commits_in sent.commits_by now.commits_sent _ (omega (arith, commits_added.0));
                };
          }
