-- Which texts are accepted (document 01, 'The ticket').
use Rattle.std.specs.Prelude.{List, map, ◌≡◌, ℕ, ◌≤◌, length}
use Rattle.consensus.specs.Instance.{Instance}
use Rattle.coordinator.specs.WellFormed.{WellFormed}
use Rattle.text.specs.Capitals.{capital}
use Rattle.general.specs.Answer.{accepted}
use Rattle.ticket_format.specs.Ticket.{read_ticket}
use Rattle.ticket_laws.specs.TicketText.{ticket_text}

-- A text is the ticket of an instance, but for the case of its letters.
pub record TicketOf (x : Instance) (text : List ℕ) : Type 0 where
  pub well_formed : WellFormed x
  pub written : map capital text ≡ ticket_text x

-- The most bytes that a ticket has: of 64 processes, 63 of which have a failure line. (`fullest` of ticket_format/specs/ReadingCases has as many.)
abbrev pub longest_ticket : ℕ
longest_ticket = 2543

-- A text is accepted with an instance exactly if it is its ticket. So no ticket comes near 4,096 bytes, above which refusal 1 is due.
pub record AcceptedTexts : Type 0 where
  pub complete : (text : List ℕ) (x : Instance) → TicketOf x text → read_ticket text ≡ accepted x
  pub exact : (text : List ℕ) (x : Instance) → read_ticket text ≡ accepted x → TicketOf x text
  pub short : (text : List ℕ) (x : Instance) → TicketOf x text → length text ≤ longest_ticket
