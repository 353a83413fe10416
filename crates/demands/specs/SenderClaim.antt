-- The messages by sender, of every accepted text and of the lines of every result (document 02, Paper 2: "Each line 11 gains two bytes after the value:
-- data, then commits, sent by that station. The counts over all stations add up to line 12").
use Rattle.std.specs.Prelude.{List, ◌≡◌, ℕ, ◌-◌}
use Rattle.std.proofs.Math.Option.{some}
use Rattle.general.specs.Counts.{sum_to}
use Rattle.consensus.specs.Instance.{Instance}
use Rattle.consensus.specs.Consensus.{IsProcess}
use Rattle.coordinator.specs.Count.{data_in, commits_in}
use Rattle.coordinator.specs.Run.{run_to}
use Rattle.coordinator_laws.specs.MessagesBySender.{MessagesBySender}
use Rattle.demands.specs.OfAccepted.{OfAccepted}
use Rattle.demands.specs.OutputSays.{Sent, Counts, sent_said, counts_said}
use Rattle.demands.specs.Written.{Wrote}

-- The station lines say that so much counts of what the processes of the instance sent, and the last line what was counted in all.
pub record MessagesSaid (x : Instance) (out : List ℕ) (sent : ℕ → Sent) (counts : Counts) : Type 0 where
  pub each : (p : ℕ) → IsProcess x p → sent_said out p ≡ some (sent p)
  pub all : counts_said out x.processes ≡ some counts

-- What counts of what n processes sent adds up to the counts of a last line.
pub record AddsUp (n : ℕ) (sent : ℕ → Sent) (counts : Counts) : Type 0 where
  pub data_sent : sum_to (λ p. (sent p).data_sent) n ≡ counts.data_sent
  pub commits_sent : sum_to (λ p. (sent p).commits_sent) n ≡ counts.commits_sent

-- What round r counts, by the states as it begins.
unfoldable pub sent_in_round : Instance → (r : ℕ) → Sent
sent_in_round x r = record { data_sent = data_in x r (run_to x (r - 1)).states; commits_sent = commits_in x r (run_to x (r - 1)).states }

pub record SenderClaim : Type 0 where
  pub rounds : OfAccepted MessagesBySender
  -- what the n station lines of a result say adds up to what its last line says
  pub add_up : (text : List ℕ) (x : Instance) (out : List ℕ) (sent : ℕ → Sent) (counts : Counts) → Wrote text x out → MessagesSaid x out sent counts
      → AddsUp x.processes sent counts
  -- and what the line of process p says is what round p counts, the only one that p coordinates
  pub of_round : (text : List ℕ) (x : Instance) (out : List ℕ) (sent : ℕ → Sent) (counts : Counts) → Wrote text x out → MessagesSaid x out sent counts
      → (p : ℕ) → IsProcess x p → sent p ≡ sent_in_round x p
