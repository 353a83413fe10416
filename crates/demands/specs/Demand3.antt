-- Demand 3 (document 01, 'A round', last paragraph): "The claim holds of the rounds, and of the station lines and the f of the last line wherever running
-- writes a result."
-- Accepted means that refusals 1 to 8 let the text pass; the room for a result, refusal 9, plays no part in the rounds' claim.
use Rattle.std.specs.Prelude.{List, ◌≡◌, ℕ, suc}
use Rattle.consensus.specs.Instance.{Instance}
use Rattle.consensus.specs.declared.State.{State}
use Rattle.coordinator.specs.Run.{crashes_of, end_of, latest_of}
use Rattle.consensus.specs.CrashCount.{crashed_count}
use Rattle.consensus.specs.Consensus.{UniformConsensus, CountsCrashes, NoLater, ends_of}
use Rattle.coordinator.specs.WellFormed.{WellFormed}
use Rattle.coordinator_laws.specs.Pairing.{Paired}
use Rattle.ticket_laws.specs.TicketText.{ticket_text}
use Rattle.general.specs.Answer.{accepted}
use Rattle.ticket_format.specs.Ticket.{read_ticket}
use Rattle.demands.specs.OfAccepted.{OfAccepted}
use Rattle.demands.specs.OutputSays.{Counts, OutputSays}
use Rattle.demands.specs.Written.{Wrote}
use Rattle.demands.specs.PairedTexts.{PairedTexts}

-- Of the rounds of every accepted text, and of every two whose instances are paired.
pub record RoundsClaim : Type 0 where
  pub consensus : OfAccepted (λ x. UniformConsensus (latest_of x) x (end_of x))
  pub crashes : OfAccepted (λ x. CountsCrashes (crashes_of x) x (end_of x))
  -- f, so counted by failure lines, is the number of processes that end crashed
  pub crashed : OfAccepted (λ x. crashes_of x ≡ crashed_count (ends_of x (end_of x)))
  pub no_later : (a b : List ℕ) (x y : Instance) → read_ticket a ≡ accepted x → read_ticket b ≡ accepted y → Paired x y → NoLater x (end_of x) y (end_of y)

-- Texts that are paired line by line describe paired instances.
abbrev pub TextsPaired : Type 0
TextsPaired = (a b : List ℕ) (x y : Instance) → read_ticket a ≡ accepted x → read_ticket b ≡ accepted y → PairedTexts a b → Paired x y

-- The tickets of two well-formed instances that are paired are paired line by line.
unfoldable pub TicketsPaired : Type 0
TicketsPaired = (x y : Instance) → WellFormed x → WellFormed y → Paired x y → PairedTexts (ticket_text x) (ticket_text y)

-- Of the ends and the f that the bytes of a result say, wherever running writes one; and of every two results whose texts describe paired instances.
pub record OutputClaim : Type 0 where
  pub consensus : (text : List ℕ) (x : Instance) (out : List ℕ) (ends : ℕ → State) (counts : Counts) → Wrote text x out → OutputSays x out ends counts
      → UniformConsensus (suc counts.crashes) x ends
  pub crashes : (text : List ℕ) (x : Instance) (out : List ℕ) (ends : ℕ → State) (counts : Counts) → Wrote text x out → OutputSays x out ends counts
      → CountsCrashes counts.crashes x ends
  -- and f of the last line is the number of station lines with end 02
  pub crashed : (text : List ℕ) (x : Instance) (out : List ℕ) (ends : ℕ → State) (counts : Counts) → Wrote text x out → OutputSays x out ends counts
      → counts.crashes ≡ crashed_count (ends_of x ends)
  pub no_later : (a b : List ℕ) (x y : Instance) (out out' : List ℕ) (ends ends' : ℕ → State) (counts counts' : Counts)
      → Wrote a x out → Wrote b y out' → OutputSays x out ends counts → OutputSays y out' ends' counts' → Paired x y → NoLater x ends y ends'

-- Demand 3: these claims.
pub record Demand3 : Type 0 where
  pub rounds : RoundsClaim
  pub texts : TextsPaired
  pub tickets : TicketsPaired
  pub outputs : OutputClaim
