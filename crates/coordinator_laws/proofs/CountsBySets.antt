-- The messages counted in a round are as many as the ones that two sets have in common, those to whom they are sent and the undecided. For well-formed
-- instances. Assumes nothing else.
use mathlib.Core.Path.{◌≡◌, ◌∙◌}
use Prim.Native.Nat.{ℕ, ◌≤◌}
use Rattle.consensus.specs.Instance.{Instance, fault_of}
use Rattle.consensus.specs.declared.Fault.TheVariants.{Crashes as crashes}
use Rattle.consensus.specs.declared.CrashPoint.{CrashPoint}
use Rattle.consensus.specs.WellFormed.{FaultAllowedBy}
use Rattle.coordinator.specs.Message.{gets_data, gets_commit}
use Rattle.coordinator.specs.Count.{data_in, commits_in}
use Rattle.coordinator.specs.WellFormed.{WellFormed, PointAllowed}
use Rattle.coordinator.specs.SentSets.{ones_in_common}
use Rattle.coordinator_laws.specs.CountsBySets.{CountedBySet, CountsBySets}
use Rattle.coordinator_laws.proofs.SentSets.{data_sent_set, commits_sent_set}
use Rattle.coordinator_laws.proofs.Carried.{carried_size}

module _ (x : Instance) (formed : WellFormed x) where
  point_allowed : (r : ℕ) → 1 ≤ r → r ≤ x.processes → (point : CrashPoint) → fault_of x r ≡ crashes r point → PointAllowed x.processes r r point
  unfolding FaultAllowedBy
  point_allowed r h g point e = (rw e at (formed.faults_allowed r h g)).2

  pub counts_by_sets : CountsBySets x
  unfolding CountedBySet ones_in_common data_in commits_in
  counts_by_sets =
      record {
        of_data = λ r states h g as_many.
            carried_size gets_data x r states as_many formed.at_most_64 ∙ rw (data_sent_set _ r (fault_of x r) (point_allowed r h g));
        of_commits = λ r states h g as_many.
            carried_size gets_commit x r states as_many formed.at_most_64 ∙ rw (commits_sent_set _ r (fault_of x r) (point_allowed r h g));
      }
