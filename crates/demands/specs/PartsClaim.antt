-- Demand 2, second half, and demand 3 of separate process parts, closed over texts (document 00, demands 2 and 3; document 01, 'A round', last paragraph,
-- and 'The desk part').
use Rattle.std.specs.Prelude.{List, ◌≡◌, ℕ}
use Rattle.consensus.specs.Instance.{Instance}
use Rattle.consensus.specs.Consensus.{UniformConsensus, NoLater}
use Rattle.coordinator_laws.specs.Pairing.{Paired}
use Rattle.general.specs.Answer.{accepted}
use Rattle.ticket_format.specs.Ticket.{read_ticket}
use Rattle.part_host.specs.DecideAlike.{DecideAlike, NoneRefused}
use Rattle.part_host.specs.Output.{OutputYielded}
use Rattle.part_host.specs.PartEnds.{end_by_part, latest_by_parts}
use Rattle.demands.specs.OfAccepted.{OfAccepted}

-- Of the parts of every accepted text, and of every two that describe paired instances.
pub record PartsClaim : Type 0 where
  -- they decide and crash as the processes of the run
  pub decide_alike : OfAccepted DecideAlike
  -- none of their calls is refused while they are open
  pub none_refused : OfAccepted NoneRefused
  -- demand 3, by their own bytes
  pub consensus : OfAccepted (λ x. UniformConsensus (latest_by_parts x) x (end_by_part x))
  pub no_later : (a b : List ℕ) (x y : Instance) → read_ticket a ≡ accepted x → read_ticket b ≡ accepted y
      → Paired x y → NoLater x (end_by_part x) y (end_by_part y)
  -- what these definitions take a part to yield is what its host finds in its buffer, of 8 bytes or more
  pub output_yielded : OutputYielded
