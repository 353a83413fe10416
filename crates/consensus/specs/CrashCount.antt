-- f, which bounds the rounds (document 01, 'A round', second paragraph: 'A failure line whose station decided in an earlier round is idle', 'f counts the
-- lines that are not idle'; and the crashed processes, of which it is proved that f is their number).
use Rattle.std.specs.Prelude.{List, [], ◌∷◌, Bool, false, cond, ℕ, ◌+◌, ltb}
use Rattle.consensus.specs.declared.Fault.{Fault}
use Rattle.consensus.specs.declared.Fault.TheVariants.{Correct as correct, Crashes as crashes}
use Rattle.consensus.specs.declared.State.{State}
use Rattle.consensus.specs.declared.State.TheVariants.{Undecided as undecided, Decided as decided, Crashed as crashed}

-- A failure line of this round is idle if its process decided in an earlier one.
unfoldable pub is_idle : (round : ℕ) → State → Bool
is_idle round (undecided v) = false
is_idle round (decided r v) = ltb r round
is_idle round (crashed r) = false

-- 1 for a failure line that is not idle, given its process's last state.
unfoldable pub counts_as_crash : Fault → State → ℕ
counts_as_crash correct s = 0
counts_as_crash (crashes round point) s = cond (is_idle round s) 0 1

-- f: how many failure lines are not idle, given the fault and the last state of each process.
unfoldable pub crash_count : List Fault → List State → ℕ
crash_count [] states = 0
crash_count (fault ∷ faults) [] = 0
crash_count (fault ∷ faults) (s ∷ states) = counts_as_crash fault s + crash_count faults states

-- 1 for a process that has crashed.
unfoldable pub has_crashed : State → ℕ
has_crashed (undecided v) = 0
has_crashed (decided round v) = 0
has_crashed (crashed round) = 1

-- How many processes have crashed.
unfoldable pub crashed_count : List State → ℕ
crashed_count [] = 0
crashed_count (s ∷ states) = has_crashed s + crashed_count states
