-- The worked runs are what the definitions give (document 01, 'Worked runs').
use Rattle.std.specs.Prelude.{List, [], ◌∷◌, ◌++◌, ◌≡◌, cond, ℕ, zero, suc, ◌+◌, ◌-◌, ◌*◌, ◌/◌, length}
use Rattle.general.specs.Bits.{ones64}
use Rattle.general.specs.Counts.{sum_to}
use Rattle.consensus.specs.Instance.{Instance, fault_of}
use Rattle.consensus.specs.declared.CrashPoint.{CrashPoint}
use Rattle.coordinator.specs.Undecided.{undecided_among}
use Rattle.coordinator.specs.Count.{speaks}
use Rattle.coordinator.specs.Run.{run_to, last_round, run_of, crashes_of, latest_of}
use Rattle.coordinator.specs.SentSets.{data_set_at, commit_set_at, sent_set, ones_in_common}
use Rattle.coordinator.specs.SentBy.{data_by, commits_by}
use Rattle.coordinator.specs.Settling.{qualifies, first_settling}
use Rattle.coordinator.specs.Reason.{reasons_of}
use Rattle.coordinator.specs.SpeakerLimits.{most_messages, most_commits}
use Rattle.consensus.specs.FourProcesses.{after_one_commit, idle_besides}
use Rattle.coordinator.specs.WithoutIdle.{without_idle}
use Rattle.coordinator.specs.WorkedTable.{WorkedRun, ten_processes, set_partly_counted, commits_partly_counted, worked_runs}

-- The rounds that qualify, of rounds 0 to r.
unfoldable pub qualifying_to : Instance → ℕ → List ℕ
qualifying_to x zero = cond (qualifies x zero) (zero ∷ []) []
qualifying_to x (suc r) = qualifying_to x r ++ cond (qualifies x (suc r)) (suc r ∷ []) []

-- The rounds that qualify in the instance's run. Rounds 0 and t + 2, which no run has, are looked at too.
unfoldable pub qualifying_rounds : Instance → List ℕ
qualifying_rounds x = qualifying_to x (suc (last_round x))

-- What the definitions give for an instance.
unfoldable pub worked : Instance → WorkedRun
worked x =
    record {
      run = x;
      ends = (run_of x).states;
      counts = (run_of x).rounds ∷ crashes_of x ∷ (run_of x).speakers ∷ (run_of x).data_sent ∷ (run_of x).commits_sent ∷ [];
      data_by = data_by x;
      commits_by = commits_by x;
      limits = latest_of x ∷ most_messages x ∷ most_commits x ∷ [];
      qualifying = qualifying_rounds x;
      settling = first_settling x;
      reasons = reasons_of x;
    }

-- Each run of a list is what the definitions give for its instance.
unfoldable pub AsWorked : List WorkedRun → Type 0
AsWorked [] = Unit {0}
AsWorked (w ∷ runs) = (worked w.run ≡ w) × AsWorked runs

-- Round r by sets: those to whom its coordinator sends, the undecided as it begins, and how many ones these have in common. (Process p is bit p - 1.)
unfoldable pub sets_in : (at : (n r : ℕ) → CrashPoint → ℕ) → Instance → (r : ℕ) → List ℕ
sets_in at x r =
    sent_set at x.processes r (fault_of x r) ∷ undecided_among x.processes (run_to x (r - 1)).states ∷ ones_in_common at x r (run_to x (r - 1)).states ∷ []

-- What the speakers of the run send, whoever gets it: the messages as document 01 counted them before document 02's Paper 4 ("counted as sent").
unfoldable pub sent_in_round : (at : (n r : ℕ) → CrashPoint → ℕ) → Instance → (r : ℕ) → ℕ
sent_in_round at x r = cond (speaks r (run_to x (r - 1)).states) (ones64 (sent_set at x.processes r (fault_of x r))) 0

unfoldable pub all_sent : (at : (n r : ℕ) → CrashPoint → ℕ) → Instance → ℕ
all_sent at x = sum_to (sent_in_round at x) (run_of x).rounds

-- Document 001's Theorem 2: (f + 1)(2n − 1 − 3f/2).
unfoldable pub theorem2 : (n f : ℕ) → ℕ
theorem2 n f = (f + 1) * (2 * n - 1) - (f + 1) * (3 * f) / 2

-- The claim: so are the 18 runs of the table.
pub record WorkedRuns : Type 0 where
  pub number : length worked_runs ≡ 18
  pub as_worked : AsWorked worked_runs
  -- case 7 without its idle line is case 1, and the line of case 1 is not idle
  pub idle_taken_out : without_idle idle_besides ≡ after_one_commit
  pub other_left : without_idle after_one_commit ≡ after_one_commit
  -- rounds by sets, in which some of those that are sent to have ended: of a coordinator that crashes at step 01 the data and the commits, of one at step
  -- 02 the commits, and of one that does not crash the data
  pub data_at_step1 : sets_in data_set_at set_partly_counted.run 2 ≡ 60 ∷ 14 ∷ 2 ∷ []
  pub commits_at_step1 : sets_in commit_set_at set_partly_counted.run 2 ≡ 0 ∷ 14 ∷ 0 ∷ []
  pub commits_at_step2 : sets_in commit_set_at commits_partly_counted.run 2 ≡ 48 ∷ 30 ∷ 1 ∷ []
  pub data_of_correct : sets_in data_set_at commits_partly_counted.run 3 ≡ 56 ∷ 12 ∷ 1 ∷ []
  -- case 9: "data 42, commits 21, sum 63, the bound exactly; document 001 gives 55"
  pub sent_in_case9 : all_sent data_set_at ten_processes ∷ all_sent commit_set_at ten_processes ∷ most_messages ten_processes ∷ theorem2 10 9 ∷ []
      ≡ 42 ∷ 21 ∷ 63 ∷ 55 ∷ []
