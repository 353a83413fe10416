-- Where the rounds stop: the run goes on as long as a process is up and undecided and, where it is to stop at the settling round, no round qualifies; the first
-- that does is that one. Assumes nothing.
use mathlib.Core.Path.{◌≡◌, refl, sym, ap, ◌∙◌}
use mathlib.Core.Bool.{Bool, true, false, true≢false, false≢true}
use Prim.Native.Nat.{ℕ, suc, ◌+◌, ◌-◌, ◌≤◌, ◌<◌}
use native.Mathlib.Omega.{arith}
use borrow.Author.Tests.{le-leb}
use Rattle.general.proofs.Tests.{by_equal}
use Rattle.consensus.specs.Instance.{Instance}
use Rattle.coordinator.specs.Undecided.{any_undecided}
use Rattle.coordinator.specs.Count.{data_in, commits_in}
use Rattle.coordinator.specs.Run.{Run, run_to, run_of, last_round}
use Rattle.coordinator.specs.Settling.{values_held, one_value, qualifies}
use Rattle.coordinator.specs.WellFormed.{WellFormed}
use Rattle.coordinator_laws.specs.RunRounds.{RunRounds}
use Rattle.coordinator_laws.proofs.Counts.{rounds_le}
use Rattle.coordinator_laws.proofs.Ended.{run_ended}
use Rattle.coordinator_laws.proofs.FirstSettling.{unsettled_within, settles_first}
use Rattle.coordinator_laws.proofs.MessagesBySender.{data_silent, commits_silent, sent_ended}
use Rattle.coordinator_laws.proofs.RunRounds.{run_rounds}
use Rattle.tables.specs.declared.run.RunTable.{RunTable}
use Rattle.tables.specs.declared.sent.SentCounts.{SentCounts}
use Rattle.tables.specs.code.RunOfTable.{states_in, run_over}
use Rattle.coordinator_run.specs.code.Running.{RunTo, RunOf}
use Rattle.coordinator_run.proofs.Rounds.{over}

-- Where the rounds are run until the run has settled, none before round r qualifies.
abbrev pub Unsettled : Instance → (until_settled : Bool) → (r : ℕ) → Type 0
Unsettled x until_settled r = until_settled ≡ true → (q : ℕ) → q < r → qualifies x q ≡ false

pub unsettled_first : (x : Instance) (until_settled : Bool) → Unsettled x until_settled 1
unfolding qualifies
unsettled_first x until_settled asked q h = let first : q ≡ 0 = omega arith in rw first refl

module _ (x : Instance) (formed : WellFormed x) (r : ℕ) (first : 1 ≤ r) (last : r ≤ last_round x) where
  -- A run that has not settled before round r has this round.
  in_run : ((q : ℕ) → q < r → qualifies x q ≡ false) → r ≤ (run_of x).rounds
  in_run none = unsettled_within x formed r none

  -- As round r begins no process is up and undecided: then the run is over, and was not to be stopped before.
  pub all_ended : (run : RunTable) (sent : SentCounts) → RunTo x (r - 1) run sent → (until_settled : Bool) → Unsettled x until_settled r
      → run.undecided ≡ 0 → RunOf x until_settled run sent
  unfolding RunRounds run_of
  all_ended run sent now until_settled so_far nobody = by_flag until_settled so_far
    where
      ended : any_undecided (run_to x (r - 1)).states ≡ false
      ended = over x formed r run sent now nobody

      by_flag : (b : Bool) → Unsettled x b r → RunOf x b run sent
      by_flag true none =
          let place : suc (r - 1) ≡ r = omega (arith, first) in
          let begins = run_rounds x (r - 1) (last_round x) (omega arith) in
          absurd (false≢true (sym ended ∙ begins ∙ rw place (le-leb r _ (in_run (none refl)))))
      by_flag false none =
          let within : r - 1 ≤ last_round x = omega arith in
          record {
            processes = now.processes;
            run = now.run ∙ sym (run_ended x (r - 1) (last_round x) ended within);
            kept = now.kept;
            data_sent = now.data_sent ∙ sym (sent_ended data_in x (data_silent x) (r - 1) (last_round x) ended within);
            commits_sent = now.commits_sent ∙ sym (sent_ended commits_in x (commits_silent x) (r - 1) (last_round x) ended within);
          }

  -- As it ends.
  module _ (next : RunTable) (sent : SentCounts) (after : RunTo x r next sent) (until_settled : Bool) where
    -- What is found then is whether it qualifies, if none before does.
    found_here : ((q : ℕ) → q < r → qualifies x q ≡ false) → (b : Bool) → b ≡ one_value (values_held (states_in next)) → qualifies x r ≡ b
    unfolding qualifies run_over
    found_here none b e =
        rw (le-leb 1 r first, le-leb r _ (in_run none)) (ap (λ (known : Run). one_value (values_held known.states)) (sym after.run) ∙ sym e)

    -- It was asked for and qualifies.
    pub settled : Unsettled x until_settled r → until_settled ≡ true → true ≡ one_value (values_held (states_in next)) → RunOf x until_settled next sent
    settled so_far asked e = let none = so_far asked in rw (asked, settles_first x formed r (found_here none true e) none) after

    -- It was asked for and does not qualify.
    pub unsettled_next : Unsettled x until_settled r → false ≡ one_value (values_held (states_in next)) → Unsettled x until_settled (r + 1)
    unsettled_next so_far e asked q h =
        let none = so_far asked in
        by_equal q r (λ same. ap (qualifies x) same ∙ found_here none false e) (λ other. none q (omega arith))

    -- It was the last: no run goes on after it, so that it has settled by then.
    pub all_run : Unsettled x until_settled (r + 1) → last_round x ≤ r → RunOf x until_settled next sent
    unfolding run_of
    all_run so_far least = by_flag until_settled so_far
      where
        by_flag : (b : Bool) → Unsettled x b (r + 1) → RunOf x b next sent
        by_flag true none =
            let lasts = unsettled_within x formed (r + 1) (none refl) in
            absurd (let z : ⊥ = omega (arith, lasts, rounds_le x (last_round x)) in z)
        by_flag false none = let same : last_round x ≡ r = omega arith in rw same after

-- What is not asked for is no reason to stop.
pub unasked : (x : Instance) (until_settled : Bool) (r : ℕ) → until_settled ≡ false → Unsettled x until_settled r
unasked x until_settled r not asked = absurd (true≢false (sym asked ∙ not))
