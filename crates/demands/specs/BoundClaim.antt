-- The bound by speakers and that on commits, of every accepted text and of the last line of every result (document 01, 'A round', third paragraph; document
-- 02, Paper 4: "The bound by speakers must still hold, and line 12's commits are at most n less its speakers"). They are no part of demand 3.
use Rattle.std.specs.Prelude.{List, ◌≡◌, ℕ, suc, ◌+◌, ◌≤◌}
use Rattle.std.proofs.Math.Option.{some}
use Rattle.consensus.specs.Instance.{Instance}
use Rattle.coordinator.specs.SpeakerLimits.{bound_by_speakers, commits_by_speakers}
use Rattle.coordinator_laws.specs.SpeakerBound.{SpeakerBound}
use Rattle.coordinator_laws.specs.CountsBySets.{CountsBySets}
use Rattle.demands.specs.OfAccepted.{OfAccepted}
use Rattle.demands.specs.OutputSays.{Counts, counts_said}
use Rattle.demands.specs.Written.{Wrote}

-- Of the counts of a last line, among n processes.
pub record CountsBounded (n : ℕ) (counts : Counts) : Type 0 where
  pub speakers : counts.speakers ≤ suc counts.crashes
  pub speakers_fit : counts.speakers ≤ n
  pub messages : counts.data_sent + counts.commits_sent ≤ bound_by_speakers n counts.speakers
  pub commits : counts.commits_sent ≤ commits_by_speakers n counts.speakers

pub record BoundClaim : Type 0 where
  pub rounds : OfAccepted SpeakerBound
  -- a round counts as many messages as the set of those to whom they are sent and that of the undecided have ones in common
  pub by_sets : OfAccepted CountsBySets
  pub said : (text : List ℕ) (x : Instance) (out : List ℕ) (counts : Counts) → Wrote text x out → counts_said out x.processes ≡ some counts
      → CountsBounded x.processes counts
