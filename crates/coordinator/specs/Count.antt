-- The speakers and the messages of a round, from the states as it began (document 01, 'A round', second paragraph, for speakers; document 02, Paper 4, for
-- messages: "Bills count carried frames only. A frame counts if its addressee was up and undecided when the round began, even if it goes dark in that
-- round"). Who hears what (Delivery, Round) does not look at it, nor do the rounds (Run) or f (CrashCount).
use Rattle.std.specs.Prelude.{List, ℕ, Bool, cond, ◌&&◌}
use Rattle.general.specs.Indexed.{count_from}
use Rattle.consensus.specs.Instance.{Instance, fault_of}
use Rattle.consensus.specs.State.{state_of}
use Rattle.consensus.specs.declared.State.{State}
use Rattle.coordinator.specs.Message.{Reach, gets_data, gets_commit}
use Rattle.coordinator.specs.Delivery.{reach}
use Rattle.coordinator.specs.Undecided.{is_undecided}

-- The coordinator of round r is a speaker if it begins the round up and undecided, even if it crashes in it.
unfoldable pub speaks : ℕ → List State → Bool
speaks r states = is_undecided (state_of states r)

-- A message of coordinator r to process p, which began the round in the state `s`, is carried: it is sent, and p was up and undecided. `gets` tells whether
-- one of its kind is sent to p, by how far the messages to p get.
unfoldable pub carries : (gets : Reach → Bool) → Instance → (r p : ℕ) → State → Bool
carries gets x r p s = is_undecided s && gets (reach x.processes (fault_of x r) r p)

-- The messages of a kind that are carried in round r: none if its coordinator is no speaker.
unfoldable pub carried_in : (gets : Reach → Bool) → Instance → (r : ℕ) → List State → ℕ
carried_in gets x r states = cond (speaks r states) (count_from (carries gets x r) 1 states) 0

-- The data messages of round r that count.
unfoldable pub data_in : Instance → ℕ → List State → ℕ
data_in x r states = carried_in gets_data x r states

-- The commit messages of round r that count.
unfoldable pub commits_in : Instance → ℕ → List State → ℕ
commits_in x r states = carried_in gets_commit x r states
