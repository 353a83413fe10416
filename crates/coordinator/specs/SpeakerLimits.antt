-- The limits by speakers (document 01, 'A round', third paragraph; document 02, Paper 4); that a run keeps them is SpeakerBound.
use Rattle.std.specs.Prelude.{ℕ, ◌-◌, ◌*◌, ◌/◌}
use Rattle.consensus.specs.Instance.{Instance}
use Rattle.coordinator.specs.Run.{run_of}

-- Document 01's bound: since k ≤ n (`speakers_fit` of SpeakerBound), no difference in it is cut off at 0, unless k is 0, and there what is cut off is multiplied by k.
abbrev pub bound_by_speakers : (n k : ℕ) → ℕ
bound_by_speakers n k = k * (2 * n - k - 1) - k * (k - 1) / 2

-- Document 02's bound on commits alone.
abbrev pub commits_by_speakers : (n k : ℕ) → ℕ
commits_by_speakers n k = n - k

-- The most messages that may count in an instance's run, by its speakers, and the most commits.
abbrev pub most_messages : Instance → ℕ
most_messages x = bound_by_speakers x.processes (run_of x).speakers

abbrev pub most_commits : Instance → ℕ
most_commits x = commits_by_speakers x.processes (run_of x).speakers
