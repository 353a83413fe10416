-- The bound by speakers (document 01, 'A round', third paragraph): with k speakers and f crashes among n processes, k ≤ f + 1, and data and commits
-- together are at most k(2n − k − 1) − k(k − 1)/2; and that on commits (document 02, Paper 4: "The bound by speakers must still hold, and line 12's commits
-- are at most n less its speakers").
use Rattle.std.specs.Prelude.{suc, ◌+◌, ◌≤◌}
use Rattle.consensus.specs.Instance.{Instance}
use Rattle.coordinator.specs.Run.{run_of, crashes_of}
use Rattle.coordinator.specs.SpeakerLimits.{most_messages, most_commits}

pub record SpeakerBound (x : Instance) : Type 0 where
  pub speakers : (run_of x).speakers ≤ suc (crashes_of x)
  pub speakers_fit : (run_of x).speakers ≤ x.processes
  pub messages : (run_of x).data_sent + (run_of x).commits_sent ≤ most_messages x
  pub commits : (run_of x).commits_sent ≤ most_commits x
