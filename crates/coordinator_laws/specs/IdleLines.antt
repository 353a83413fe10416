-- Idle failure lines (document 01, 'A round': "A failure line whose station decided in an earlier round is idle: it changes nothing, and its station counts
-- as decided, not dark").
use Rattle.std.specs.Prelude.{◌≡◌, ℕ, ◌≤◌}
use Rattle.consensus.specs.Instance.{Instance}
use Rattle.consensus.specs.Consensus.{IsProcess}
use Rattle.coordinator.specs.Run.{run_to, run_of, last_round, crashes_of}
use Rattle.coordinator.specs.SentBy.{data_by, commits_by}
use Rattle.coordinator.specs.Settling.{first_settling}
use Rattle.coordinator.specs.Reason.{reason_of}
use Rattle.coordinator.specs.WellFormed.{WellFormed}
use Rattle.coordinator.specs.WithoutIdle.{without_idle}

-- The claim, of a well-formed instance ("it changes nothing").
pub record IdleLinesChangeNothing (x : Instance) : Type 0 where
  -- without them it is well-formed again
  pub formed : WellFormed (without_idle x)
  -- the states and the counts are the same after every round
  pub rounds : (r : ℕ) → r ≤ last_round x → run_to (without_idle x) r ≡ run_to x r
  -- so is the whole run: the ends, the rounds, the speakers, the data and the commit messages
  pub run : run_of (without_idle x) ≡ run_of x
  -- and what counts of what each process sends
  pub data_sent : data_by (without_idle x) ≡ data_by x
  pub commits_sent : commits_by (without_idle x) ≡ commits_by x
  -- and f
  pub crashes : crashes_of (without_idle x) ≡ crashes_of x
  -- and the settling round (document 02, Paper 6)
  pub settling : first_settling (without_idle x) ≡ first_settling x
  -- and every process's reason in every round (document 02, Paper 7)
  pub reasons : (p r : ℕ) → IsProcess x p → 1 ≤ r → r ≤ last_round x → reason_of (without_idle x) p r ≡ reason_of x p r
