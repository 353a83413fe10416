-- Idle failure lines of every accepted text change nothing (document 01, 'A round': "A failure line whose station decided in an earlier round is idle: it
-- changes nothing"): in the rounds, and in what is answered and written. It is no part of demand 3.
use Rattle.std.specs.Prelude.{List, ◌≡◌, ℕ}
use Rattle.consensus.specs.Instance.{Instance}
use Rattle.coordinator.specs.WithoutIdle.{without_idle}
use Rattle.coordinator_laws.specs.IdleLines.{IdleLinesChangeNothing}
use Rattle.general.specs.Answer.{accepted}
use Rattle.ticket_format.specs.Ticket.{read_ticket}
use Rattle.ticket_laws.specs.TicketText.{ticket_text}
use Rattle.demands.specs.OfAccepted.{OfAccepted}
use Rattle.demands.specs.LettersClaim.{RunAlike, SettledAlike}

pub record IdleClaim : Type 0 where
  pub rounds : OfAccepted IdleLinesChangeNothing
  -- the ticket without its idle lines is accepted, and is run and settled as with them
  pub left_out : OfAccepted (λ x. read_ticket (ticket_text (without_idle x)) ≡ accepted (without_idle x))
  pub run : (text : List ℕ) (x : Instance) → read_ticket text ≡ accepted x → RunAlike text (ticket_text (without_idle x))
  pub settle : (text : List ℕ) (x : Instance) → read_ticket text ≡ accepted x → SettledAlike text (ticket_text (without_idle x))
