-- What is true of the messages by the process that sent them (document 02, Paper 2: "The counts over all stations add up to line 12").
use Rattle.std.specs.Prelude.{List, ◌≡◌, ℕ, ◌-◌, ◌≤◌, ◌<◌, length}
use Rattle.general.specs.Counts.{count_of, sum_to}
use Rattle.consensus.specs.Instance.{Instance}
use Rattle.consensus.specs.declared.State.{State}
use Rattle.consensus.specs.Consensus.{IsProcess}
use Rattle.coordinator.specs.Count.{data_in, commits_in}
use Rattle.coordinator.specs.Run.{run_to, run_of}
use Rattle.coordinator.specs.SentBy.{data_by, commits_by}

-- Messages of one kind of an instance's run: `counted` in each round, `sent` by each process, and in `total`.
pub record BySender (counted : Instance → ℕ → List State → ℕ) (sent : List ℕ) (total : ℕ) (x : Instance) : Type 0 where
  -- there is a count for each process
  pub each : length sent ≡ x.processes
  -- they add up to the total
  pub add_up : sum_to (count_of sent) x.processes ≡ total
  -- the count of process p is that of round p, the only one that it coordinates
  pub of_round : (p : ℕ) → IsProcess x p → count_of sent p ≡ counted x p (run_to x (p - 1)).states
  -- of a process whose round is none of the run's none counts
  pub after_the_run : (p : ℕ) → IsProcess x p → (run_of x).rounds < p → count_of sent p ≡ 0
  -- the count is at most as many as there are processes above p
  pub to_those_above : (p : ℕ) → IsProcess x p → count_of sent p ≤ x.processes - p

-- The claim, of a well-formed instance: so it is with the data messages and with the commit messages.
pub record MessagesBySender (x : Instance) : Type 0 where
  pub of_data : BySender data_in (data_by x) (run_of x).data_sent x
  pub of_commits : BySender commits_in (commits_by x) (run_of x).commits_sent x
