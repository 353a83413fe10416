-- Demand 2, second half, and demand 3 of separate parts, of every accepted text (`parts_claim`): an accepted text states a well-formed instance.
-- Assumes nothing.
use Rattle.ticket_laws.proofs.WellFormed.{accepted_well_formed}
use Rattle.part_host.proofs.Calls.{output_yielded_lem}
use Rattle.part_host.proofs.DecideAlike.{parts_decide_alike, none_refused_lem}
use Rattle.part_host.proofs.PartsConsensus.{parts_consensus, parts_no_later_lem}
use Rattle.demands.specs.PartsClaim.{PartsClaim}

pub parts_claim : PartsClaim
parts_claim =
    record {
      decide_alike = λ text x read. parts_decide_alike x (accepted_well_formed text x read);
      none_refused = λ text x read. none_refused_lem x (accepted_well_formed text x read);
      consensus = λ text x read. parts_consensus x (accepted_well_formed text x read);
      no_later = λ a b x y read read' paired.
          parts_no_later_lem x y (accepted_well_formed a x read) (accepted_well_formed b y read') paired;
      output_yielded = output_yielded_lem;
    }
