-- The messages of a round (document 001, section 3.2, Figure 1; document 01, 'A round'). Only the coordinator sends in a round: to each process
-- above it the data message with its estimate, and then the commit message. So the messages between two processes in one round are one of three.
use Rattle.std.specs.Prelude.{ℕ, Bool, true, false}

-- What a process sends to another, or receives from it, in one round. (Document 01: what was heard.)
pub data Messages : Type 0 where
  nothing : Messages
  estimate : (v : ℕ) → Messages
  estimate_and_commit : (v : ℕ) → Messages

-- How far the messages of a round get from one process to another: none of them, the data alone, or all that were sent.
pub data Reach : Type 0 where
  none data_only all : Reach

-- What arrives of messages that reach so far.
unfoldable pub arriving : Reach → Messages → Messages
arriving none m = nothing
arriving data_only nothing = nothing
arriving data_only (estimate v) = estimate v
arriving data_only (estimate_and_commit v) = estimate v
arriving all m = m

-- Whether the data message gets there, and whether the commit message does.
unfoldable pub gets_data : Reach → Bool
gets_data none = false
gets_data data_only = true
gets_data all = true

unfoldable pub gets_commit : Reach → Bool
gets_commit none = false
gets_commit data_only = false
gets_commit all = true
