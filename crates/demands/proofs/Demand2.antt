-- Demand 2: of the bytes of every result, and of separate parts. Assumes nothing.
use Rattle.ticket_laws.proofs.WellFormed.{accepted_well_formed}
use Rattle.demands.specs.Demand2.{Demand2}
use Rattle.demands.proofs.EndsFit.{result_says, result_sent}
use Rattle.demands.proofs.Written.{writes_results}
use Rattle.demands.proofs.PartsClaim.{parts_claim}

pub demand_2 : Demand2
demand_2 =
    record {
      written = writes_results;
      result = λ text x out wrote. rw wrote.front (result_says x (accepted_well_formed text x wrote.read) wrote.behind);
      sent = λ text x out wrote. rw wrote.front (result_sent x (accepted_well_formed text x wrote.read) wrote.behind);
      parts = parts_claim;
    }
