-- A text is read as its capitals are: its lines are the same, and with them all that is made of lines. Assumes nothing.
use mathlib.Core.List.{List, map}
use mathlib.Core.Path.{◌≡◌, refl, sym, ap, ◌∙◌}
use Prim.Native.Nat.{ℕ}
use lib.ListN.{length-map}
use Rattle.text.specs.Capitals.{capital, EqualUpToCase}
use Rattle.ticket_format.specs.Ticket.{read_ticket}
use Rattle.text.proofs.Capitals.{lines_capitals}

-- A text is read as its capitals are: one instance, or one refusal with its number and its line.
pub read_capitals : (text : List ℕ) → read_ticket (map capital text) ≡ read_ticket text
unfolding read_ticket
read_capitals text = rw (length-map text capital, lines_capitals text) refl

-- So are two texts that have the same capitals.
pub read_alike : (a b : List ℕ) → EqualUpToCase a b → read_ticket a ≡ read_ticket b
unfolding EqualUpToCase
read_alike a b same = sym (read_capitals a) ∙ ap read_ticket same ∙ read_capitals b
