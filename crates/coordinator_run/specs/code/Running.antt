-- For the code alone: what the run's table and the counts of each process's messages hold after the rounds.
use Rattle.std.specs.Prelude.{◌≡◌, ℕ, Bool, cond, take}
use Rattle.consensus.specs.Instance.{Instance}
use Rattle.coordinator.specs.Count.{data_in, commits_in}
use Rattle.coordinator.specs.Run.{run_to, last_round}
use Rattle.coordinator.specs.SentBy.{sent_after}
use Rattle.coordinator.specs.Settling.{first_settling}
use Rattle.tables.specs.declared.run.RunTable.{RunTable}
use Rattle.tables.specs.declared.sent.SentCounts.{SentCounts}
use Rattle.tables.specs.code.RunOfTable.{run_from}
use Rattle.coordinator_round.specs.code.Round.{undecided_set}

-- The table is that of the run after rounds 1 to r, with its set of the undecided, and the counts of its processes are those of what they sent.
pub record RunTo (x : Instance) (r : ℕ) (table : RunTable) (sent : SentCounts) : Type 0 where
  pub processes : table.n ≡ x.processes
  pub run : run_from table ≡ run_to x r
  pub kept : table.undecided ≡ undecided_set table
  pub data_sent : take table.n sent.data_by ≡ sent_after data_in x r
  pub commits_sent : take table.n sent.commits_by ≡ sent_after commits_in x r

-- The round that is run last: t + 1; where the run is to stop as soon as it has settled, the settling round, which is no later (document 02, Paper 6).
abbrev pub stops_at : Instance → (until_settled : Bool) → ℕ
stops_at x until_settled = cond until_settled (first_settling x) (last_round x)

-- The table and the counts are those after that round: they are `run_of`, `data_by` and `commits_by`, or what these are as far as the settling round.
abbrev pub RunOf : Instance → (until_settled : Bool) → RunTable → SentCounts → Type 0
RunOf x until_settled table sent = RunTo x (stops_at x until_settled) table sent
