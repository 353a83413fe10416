-- Settling a ticket (document 01, 'The result', last paragraph, and 'Refused calls', "Settling"; document 02, Paper 6: "It is then decided by a definition
-- too").
use Rattle.std.specs.Prelude.{List, ℕ}
use Rattle.coordinator.specs.Settling.{first_settling}
use Rattle.general.specs.Answer.{Answer, accepted, and_then}
use Rattle.ticket_format.specs.Ticket.{read_ticket}

-- What settling answers on a text: the lowest round that qualifies, or a refusal, 1 to 8, with its line.
unfoldable pub settling : (text : List ℕ) → Answer ℕ
settling text = and_then (read_ticket text) (λ x. accepted (first_settling x))
