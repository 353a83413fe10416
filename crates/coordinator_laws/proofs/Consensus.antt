-- Demand 3, first half, about every well-formed instance: the coordinator protocol solves uniform consensus, and none decides after round f + 1.
-- Assumes nothing else.
use Rattle.consensus.specs.Instance.{Instance}
use Rattle.coordinator.specs.WellFormed.{WellFormed}
use Rattle.consensus.specs.Consensus.{Agreement, UniformConsensus}
use Rattle.coordinator.specs.Run.{end_of, latest_of}
use Rattle.coordinator_laws.proofs.CrashCount.{crashes_as_said_lem, crashes_no_other_lem}
use Rattle.coordinator_laws.proofs.Ends.{decided_at}
use Rattle.coordinator_laws.proofs.Locking.{agreement_at}
use Rattle.coordinator_laws.proofs.Validity.{decides_proposed}
use Rattle.coordinator_laws.proofs.Termination.{terminates, decides_early}

module _ (x : Instance) (formed : WellFormed x) where
  agrees : Agreement x (end_of x)
  unfolding Agreement
  agrees p q r s v w d e =
      agreement_at x _ p q r s v w d.process.first e.process.first (decided_at x formed d) (decided_at x formed e)

  pub uniform_consensus : UniformConsensus (latest_of x) x (end_of x)
  uniform_consensus =
      record {
        agreement = agrees;
        validity = decides_proposed x formed;
        termination = terminates x formed;
        early_decision = decides_early x formed;
        crashes_as_said = crashes_as_said_lem x formed;
        crashes_no_other = crashes_no_other_lem x formed;
      }
