-- What one process does in one round, from its own estimate and what it receives (document 001, Figure 1; document 01, 'A round' and 'The desk part').
-- The rounds of a run and the process part rest on these two definitions alike.
use Rattle.std.specs.Prelude.{ℕ, Bool, true, false}
use Rattle.coordinator.specs.Message.{Messages, nothing, estimate, estimate_and_commit}

-- What an undecided process sends to each process above it: in its own round its estimate and a commit, and nothing in any other (lines 4 and 5).
-- The first argument says whether it coordinates this round.
unfoldable pub sends : Bool → ℕ → Messages
sends true v = estimate_and_commit v
sends false v = nothing

-- An undecided process at the end of a round: it goes on with an estimate, or decides a value.
pub data Outcome : Type 0 where
  continues : ℕ → Outcome
  decides : ℕ → Outcome

-- The coordinator decides its estimate (line 6); any other process adopts the estimate that it receives, and decides it if the commit comes too (lines 7
-- and 8).
unfoldable pub receives : Bool → ℕ → Messages → Outcome
receives true v m = decides v
receives false v nothing = continues v
receives false v (estimate w) = continues w
receives false v (estimate_and_commit w) = decides w
