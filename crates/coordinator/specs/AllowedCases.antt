-- Which crash points a failure line may give, at the limits (document 01, 'The ticket', the line 03).
use Rattle.consensus.specs.declared.CrashPoint.TheVariants.{BeforeSending as before_sending, DuringData as during_data, DuringCommits as during_commits}
use Rattle.coordinator.specs.WellFormed.{PointAllowed}

-- Of process 2 of four.
pub record AllowedCases : Type 0 where
  -- before sending: in any round
  pub silent : PointAllowed 4 2 3 before_sending
  -- while sending data or commits: in its own round alone
  pub data_elsewhere : PointAllowed 4 2 1 (during_data 12) → ⊥
  pub commits_elsewhere : PointAllowed 4 2 1 (during_commits 2) → ⊥
  -- the data reach processes above it alone, process 4 too and none past it
  pub data_above : PointAllowed 4 2 2 (during_data 12)
  pub data_to_itself : PointAllowed 4 2 2 (during_data 2) → ⊥
  pub data_past_the_last : PointAllowed 4 2 2 (during_data 16) → ⊥
  -- at most as many commits as processes above it
  pub most_commits : PointAllowed 4 2 2 (during_commits 2)
  pub one_commit_more : PointAllowed 4 2 2 (during_commits 3) → ⊥
