-- What a coordinator sends, as the code finds it: nothing, if it doesn't speak; to all above it; or by the point at which it crashes. Assumes nothing.
use mathlib.Core.Path.{◌≡◌, refl}
use mathlib.Core.Bool.{true, false}
use Prim.Native.Nat.{ℕ, ◌+◌, ◌-◌, ◌^◌, ◌≤◌}
use Rattle.general.proofs.Sets.{only_set}
use Rattle.consensus.specs.declared.Fault.{Fault}
use Rattle.consensus.specs.declared.Fault.TheVariants.{Crashes as crashes}
use Rattle.consensus.specs.declared.CrashPoint.{CrashPoint}
use Rattle.consensus.specs.declared.CrashPoint.TheVariants.{BeforeSending as before_sending, DuringData as during_data, DuringCommits as during_commits}
use Rattle.consensus.specs.State.{crashes_in}
use Rattle.coordinator.specs.WellFormed.{PointAllowed}
use Rattle.coordinator.specs.SentSets.{above_set, data_set_at, commit_set_at}
use Rattle.coordinator_laws.proofs.SentSets.{data_to_all, commits_to_all, data_at_crash, commits_at_crash}
use Rattle.coordinator_sending.specs.declared.Sent.{Sent}
use Rattle.coordinator_sending.specs.code.Sending.{sending_by}

-- What it sends to these, by data and by commits.
abbrev sent_to : (r reached committed : ℕ) → Sent
sent_to r reached committed = record { coordinator = 2 ^ (r - 1); reached = reached; committed = committed }

pub silent : (n r : ℕ) (fault : Fault) → record { coordinator = 0; reached = 0; committed = 0 } ≡ sending_by n r fault false
unfolding sending_by
silent n r fault = refl

module _ (n r : ℕ) (first : 1 ≤ r) (last : r ≤ n) where
  -- One that does not crash in its round.
  pub sent_up : (fault : Fault) → crashes_in r fault ≡ false → sent_to r (above_set n r) (above_set n r) ≡ sending_by n r fault true
  unfolding sending_by
  sent_up fault up = rw (only_set n r first last, ← data_to_all n r fault up, ← commits_to_all n r fault up)

  -- One that does.
  sent_at : (point : CrashPoint) → PointAllowed n r r point
      → sent_to r (data_set_at n r point) (commit_set_at n r point) ≡ sending_by n r (crashes r point) true
  unfolding sending_by
  sent_at point allowed = rw (only_set n r first last, data_at_crash n r point allowed, commits_at_crash n r point allowed)

  pub sent_before : sent_to r 0 0 ≡ sending_by n r (crashes r before_sending) true
  unfolding data_set_at commit_set_at PointAllowed
  sent_before = sent_at before_sending tt

  pub sent_data : (set : ℕ) → PointAllowed n r r (during_data set) → sent_to r set 0 ≡ sending_by n r (crashes r (during_data set)) true
  unfolding data_set_at commit_set_at
  sent_data set allowed = sent_at (during_data set) allowed

  pub sent_commits : (sent : ℕ) → PointAllowed n r r (during_commits sent)
      → sent_to r (above_set n r) (above_set n (n - sent)) ≡ sending_by n r (crashes r (during_commits sent)) true
  unfolding data_set_at commit_set_at
  sent_commits sent allowed = sent_at (during_commits sent) allowed

-- So many commits are no more than the processes above it.
pub count_allowed : (n r sent : ℕ) → PointAllowed n r r (during_commits sent) → r + sent ≤ n
unfolding PointAllowed
count_allowed n r sent allowed = allowed.1

-- For `interrupted`, and for `sending`.
pub ruleset by_point = (sent_before, sent_data, sent_commits, count_allowed)

pub ruleset by_fault = (silent, sent_up)
