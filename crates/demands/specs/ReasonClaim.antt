-- The reason beside each process, of every accepted text and in what the calls answer and write (document 02, Paper 7: "For an accepted coordinator ticket, a
-- station and a round, give one reason"; "The reason given is the true one, and exactly one applies. (Refusal 13, after 1 to 8: station outside 1 to n, or
-- round outside 1 to the run's rounds.)").
use Rattle.std.specs.Prelude.{List, ◌++◌, ◌≡◌, ℕ, ◌+◌, ◌-◌, ◌*◌, ◌≤◌, ◌<◌, length, drop, get_or}
use Rattle.consensus.specs.Instance.{Instance}
use Rattle.consensus.specs.Consensus.{IsProcess}
use Rattle.coordinator.specs.Reason.{reason_of, reasons_of}
use Rattle.coordinator_laws.specs.TrueReasons.{IsRound, TrueReason, ReasonsTrue, ReasonsByEnds}
use Rattle.general.specs.Answer.{accepted}
use Rattle.ticket_format.specs.Ticket.{read_ticket}
use Rattle.ticket_laws.specs.FirstWrong.{FirstWrong}
use Rattle.answers.specs.Reason.{reason, reasons_size}
use Rattle.answers.specs.Code.{refusals_from, refusal_code, number_code, ReasonsCall}
use Rattle.answers.specs.Reply.{answer_by, Explained}
use Rattle.answers.specs.Reply.{Reply}
use Rattle.answers.specs.Reply.{Given}
use Rattle.demands.specs.OfAccepted.{OfAccepted}

-- Given k is true of process p in round r, and no other is.
pub record OnlyReason (x : Instance) (p r k : ℕ) : Type 0 where
  pub holds : TrueReason x p r k
  pub only : (j : ℕ) → TrueReason x p r j → j ≡ k

-- What the call answers that is asked for one process in one round: the reason; 13, of no line, where there is no such process or no such round; or, before
-- that, the refusal of the text's first wrong line.
pub data ReasonAnswered (text : List ℕ) (p r code : ℕ) : Type 0 where
  known : (x : Instance) → read_ticket text ≡ accepted x → IsProcess x p → IsRound x r → code ≡ reason_of x p r → code < refusals_from
      → ReasonAnswered text p r code
  outside : (x : Instance) → read_ticket text ≡ accepted x → (IsProcess x p → IsRound x r → ⊥) → code ≡ refusal_code 13 0 → ReasonAnswered text p r code
  refusal : (number line : ℕ) → FirstWrong text number line → code ≡ refusal_code number line → refusals_from ≤ code → ReasonAnswered text p r code

-- What the call answers that is asked for all of them, and what the buffer holds afterwards: the reasons at its front, and behind them what stood there; or a
-- refusal, and all as it was.
pub data ReasonsAnswered (text before after : List ℕ) (code : ℕ) : Type 0 where
  written : (x : Instance) → read_ticket text ≡ accepted x → reasons_size x ≤ length before → code ≡ reasons_size x → code < refusals_from
      → after ≡ reasons_of x ++ drop (reasons_size x) before → ReasonsAnswered text before after code
  too_short : (x : Instance) → read_ticket text ≡ accepted x → length before < reasons_size x → code ≡ refusal_code 9 0 → after ≡ before
      → ReasonsAnswered text before after code
  refusal : (number line : ℕ) → FirstWrong text number line → code ≡ refusal_code number line → refusals_from ≤ code → after ≡ before
      → ReasonsAnswered text before after code

-- The place of process p in round r among the reasons of n processes.
abbrev pub place_of : (n p r : ℕ) → ℕ
place_of n p r = (r - 1) * n + (p - 1)

-- The bytes of a buffer are the reasons, each the only true one of its process in its round.
unfoldable pub AllReasons : Instance → (out : List ℕ) → Type 0
AllReasons x out = (p r : ℕ) → IsProcess x p → IsRound x r → OnlyReason x p r (get_or out (place_of x.processes p r) 0)

pub record ReasonClaim : Type 0 where
  -- every text, process and round gets its answer, and every text and buffer
  pub answered : (text : List ℕ) (p r code : ℕ) → code ≡ number_code (reason text p r) → ReasonAnswered text p r code
  pub all_answered : (text before after : List ℕ) (code : ℕ) → ReasonsCall text before after code → ReasonsAnswered text before after code
  -- what is given is the only true reason, by the library's own contract and by the C call's
  pub given : (text : List ℕ) (x : Instance) (p r : ℕ) (answer : Reply) → read_ticket text ≡ accepted x → IsProcess x p → IsRound x r
      → answer_by answer ≡ reason text p r → (k : ℕ) × (answer ≡ Given k) × OnlyReason x p r k
  pub called : (text : List ℕ) (x : Instance) (p r code : ℕ) → read_ticket text ≡ accepted x → IsProcess x p → IsRound x r
      → code ≡ number_code (reason text p r) → OnlyReason x p r code
  -- so is every byte that is written where all are asked for
  pub all_given : (text before after : List ℕ) (size : ℕ) → Explained text before after (Given size)
      → (x : Instance) × (read_ticket text ≡ accepted x) × AllReasons x after
  pub all_called : (text before after : List ℕ) (code : ℕ) → ReasonsCall text before after code → code < refusals_from
      → (x : Instance) × (read_ticket text ≡ accepted x) × AllReasons x after
  -- and it is what the other call answers
  pub alike : (text before after : List ℕ) (x : Instance) (p r code single : ℕ) → read_ticket text ≡ accepted x → IsProcess x p → IsRound x r
      → ReasonsCall text before after code → code < refusals_from → single ≡ number_code (reason text p r) → get_or after (place_of x.processes p r) 0 ≡ single
  -- what is claimed of the rounds, and what the reasons have to do with how the processes end
  pub rounds : OfAccepted (λ x. ReasonsTrue x × ReasonsByEnds x)
