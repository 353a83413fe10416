-- What a round counts by whom its messages reach (Count) it counts by sets too (SentSets).
use Rattle.std.specs.Prelude.{List, ◌≡◌, ℕ, ◌≤◌, length}
use Rattle.consensus.specs.Instance.{Instance}
use Rattle.consensus.specs.declared.CrashPoint.{CrashPoint}
use Rattle.consensus.specs.declared.State.{State}
use Rattle.coordinator.specs.Count.{data_in, commits_in}
use Rattle.coordinator.specs.SentSets.{data_set_at, commit_set_at, ones_in_common}

-- So many messages are counted in a round, whatever the states of the n processes as it began.
unfoldable pub CountedBySet : (counted : Instance → ℕ → List State → ℕ) → (at : (n r : ℕ) → CrashPoint → ℕ) → Instance → Type 0
CountedBySet counted at x =
    (r : ℕ) (states : List State) → 1 ≤ r → r ≤ x.processes → length states ≡ x.processes → counted x r states ≡ ones_in_common at x r states

-- The claim, of a well-formed instance: so it is with the data messages and with the commit messages.
pub record CountsBySets (x : Instance) : Type 0 where
  pub of_data : CountedBySet data_in data_set_at x
  pub of_commits : CountedBySet commits_in commit_set_at x
