-- The messages by the process that sent them (document 02, Paper 2: "data, then commits, sent by that station. The counts over all stations add up to line
-- 12"), as far as they count (Paper 4, by Count).
use Rattle.std.specs.Prelude.{List, ℕ, zero, suc, replicate}
use Rattle.general.specs.Counts.{add_at}
use Rattle.consensus.specs.Instance.{Instance}
use Rattle.consensus.specs.declared.State.{State}
use Rattle.coordinator.specs.Count.{data_in, commits_in}
use Rattle.coordinator.specs.Run.{run_to, last_round}

-- The messages of one kind that count of what each process has sent in rounds 1 to r: what a round counts by `counted` is sent by its coordinator.
unfoldable pub sent_after : (counted : Instance → ℕ → List State → ℕ) → Instance → (r : ℕ) → List ℕ
sent_after counted x zero = replicate x.processes 0
sent_after counted x (suc r) = add_at (suc r) (counted x (suc r) (run_to x r).states) (sent_after counted x r)

-- The data messages that count of what each process sends in the whole run, and the commit messages.
unfoldable pub data_by : Instance → List ℕ
data_by x = sent_after data_in x (last_round x)

unfoldable pub commits_by : Instance → List ℕ
commits_by x = sent_after commits_in x (last_round x)
