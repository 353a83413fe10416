-- For the code alone: what the counts of each process's messages hold before the rounds.
use Rattle.std.specs.Prelude.{◌≡◌, ℕ, replicate}
use Rattle.tables.specs.declared.sent.SentCounts.{SentCounts}

-- No message has been counted for any process.
abbrev pub NoneSent : SentCounts → Type 0
NoneSent sent = (sent.data_by ≡ replicate {A = ℕ} 64 0) × (sent.commits_by ≡ replicate {A = ℕ} 64 0)
