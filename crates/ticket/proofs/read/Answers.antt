-- `read` meets its contract: what is accepted is well-formed. Assumes nothing.
use Rattle.std.proofs.Common.{sym}
use Rattle.refusals.specs.Answered.{answer_of}
use Rattle.ticket_laws.proofs.WellFormed.{accepted_well_formed}
use Rattle.ticket.proofs.read.Goals as goal

pub invariant_of-result : goal.invariant_of-result
unfolding answer_of
invariant_of-result c = record { well_formed = accepted_well_formed _ _ (sym c.in_ok-read_into.ensures) }
