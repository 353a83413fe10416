-- The form in which a claim speaks of every accepted text.
use Rattle.std.specs.Prelude.{List, ◌≡◌, ℕ}
use Rattle.general.specs.Answer.{accepted}
use Rattle.consensus.specs.Instance.{Instance}
use Rattle.ticket_format.specs.Ticket.{read_ticket}

-- P holds of the instance that an accepted text describes, whatever the text.
abbrev pub OfAccepted : (Instance → Type 0) → Type 0
OfAccepted P = (text : List ℕ) (x : Instance) → read_ticket text ≡ accepted x → P x
