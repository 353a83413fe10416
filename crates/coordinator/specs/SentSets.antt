-- The messages counted in a round, by the set and the count of its coordinator's failure line (document 01, 'A round', third paragraph: data "n − r, or, in
-- step 01, the number of ones in its set, or 0 in step 00. Commits are n − r, or the count"; 'The forms we use': by the count of ones, 'tied to the list of
-- reached stations'; document 02, Paper 4: of these only those to processes up and undecided as the round began). Count speaks of who is reached, this of
-- sets.
use Rattle.std.specs.Prelude.{List, cond, ℕ, ◌-◌, eqb, ltb}
use Rattle.std.specs.Int.Bits.{bit_and}
use Rattle.general.specs.Bits.{ones64, set_of}
use Rattle.consensus.specs.Instance.{Instance, fault_of}
use Rattle.consensus.specs.declared.Fault.{Fault}
use Rattle.consensus.specs.declared.Fault.TheVariants.{Correct as correct, Crashes as crashes}
use Rattle.consensus.specs.declared.CrashPoint.{CrashPoint}
use Rattle.consensus.specs.declared.CrashPoint.TheVariants.{BeforeSending as before_sending, DuringData as during_data, DuringCommits as during_commits}
use Rattle.consensus.specs.declared.State.{State}
use Rattle.coordinator.specs.Undecided.{undecided_among}
use Rattle.coordinator.specs.Count.{speaks}

-- The set of the processes above p, of n.
abbrev pub above_set : (n p : ℕ) → ℕ
above_set n p = set_of n (λ q. ltb p q)

-- The set of those to whom coordinator r, of n, sends data if it crashes at this point, and of those to whom it sends commits: n, n - 1 and so on downward.
unfoldable pub data_set_at : (n r : ℕ) → CrashPoint → ℕ
data_set_at n r before_sending = 0
data_set_at n r (during_data reached) = reached
data_set_at n r (during_commits sent) = above_set n r

unfoldable pub commit_set_at : (n r : ℕ) → CrashPoint → ℕ
commit_set_at n r before_sending = 0
commit_set_at n r (during_data reached) = 0
commit_set_at n r (during_commits sent) = above_set n (n - sent)

-- The set of those to whom a coordinator r with this fault sends, where `at` tells it for a crash point: all above it, unless it crashes in its round.
unfoldable pub sent_set : (at : (n r : ℕ) → CrashPoint → ℕ) → (n r : ℕ) → Fault → ℕ
sent_set at n r correct = above_set n r
sent_set at n r (crashes round point) = cond (eqb round r) (at n r point) (above_set n r)

-- The ones that this set and that of the undecided have in common, in round r that began with these states; none if its coordinator is no speaker.
unfoldable pub ones_in_common : (at : (n r : ℕ) → CrashPoint → ℕ) → Instance → (r : ℕ) → List State → ℕ
ones_in_common at x r states =
    cond (speaks r states) (ones64 (bit_and (sent_set at x.processes r (fault_of x r)) (undecided_among x.processes states))) 0
