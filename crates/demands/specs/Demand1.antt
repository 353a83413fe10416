-- Demand 1 (document 00): "A ticket, well formed or damaged, gets a result, or the number of its refusal and its first wrong line (0 if no line is wrong).
-- A refusal writes nothing to the output buffer. Desk state and frames are checked in the same way, and a refused call changes no state."
use Rattle.std.specs.Prelude.{List, ◌++◌, ◌≡◌, ℕ, ◌≤◌, ◌<◌, length, drop}
use Rattle.std.proofs.Math.Option.{some}
use Rattle.consensus.specs.Instance.{Instance}
use Rattle.coordinator.specs.Settling.{first_settling}
use Rattle.ticket_laws.specs.FirstWrong.{FirstWrong}
use Rattle.answers.specs.ResultLine.{result_text, result_size, refusal_line}
use Rattle.answers.specs.Running.{program_writes}
use Rattle.answers.specs.Settle.{settling}
use Rattle.demands.specs.OutputSays.{refusal_said}
use Rattle.text.specs.Split.{LinesSplit}
use Rattle.ticket_laws.specs.AcceptedTexts.{TicketOf, AcceptedTexts}
use Rattle.ticket_laws.specs.RefusedTexts.{RefusedTexts}
use Rattle.ticket_laws.specs.TextsJudged.{TextsJudged}
use Rattle.part_format.specs.Refused.{RefusedCallsChangeNothing, SpeakAnswersApart}
use Rattle.part_laws.specs.PartCalls.{PartCalls}
use Rattle.answers.specs.Reason.{reason}
use Rattle.answers.specs.Reply.{answer_by, Ran, Explained}
use Rattle.answers.specs.Reply.{Reply}
use Rattle.answers.specs.Reply.{Refused}
use Rattle.answers.specs.Code.{refusals_from, refusal_code, RunCall, number_code}
use Rattle.pricing_format.specs.Quoting.{quoting}

-- Running a text into a buffer of `room` bytes is refused with this number and line. The cause is its first wrong line; or, with 9 and no line, want of room.
pub data RunRefused (text : List ℕ) (room : ℕ) : (refusal line : ℕ) → Type 0 where
  wrong : {refusal line : ℕ} → FirstWrong text refusal line → RunRefused text room refusal line
  too_short : (x : Instance) → TicketOf x text → room < result_size x.processes → RunRefused text room 9 0

-- What the call of running answers, and what the buffer holds afterwards. It is the size of the result, which stands at the front, and after it what stood
-- there; or a refusal, and all as it was.
pub data RunAnswered (text before after : List ℕ) (code : ℕ) : Type 0 where
  result : (x : Instance) → TicketOf x text → result_size x.processes ≤ length before → code ≡ result_size x.processes → code < refusals_from
      → after ≡ result_text x ++ drop (result_size x.processes) before → RunAnswered text before after code
  refusal : (number line : ℕ) → RunRefused text (length before) number line → code ≡ refusal_code number line → refusals_from ≤ code → after ≡ before
      → RunAnswered text before after code

-- What the call of settling answers: the settling round (document 02, Paper 6; what is claimed of it: `SettlingClaim`), or the refusal of the text's first
-- wrong line.
pub data SettleAnswered (text : List ℕ) (code : ℕ) : Type 0 where
  round : (x : Instance) → TicketOf x text → code ≡ first_settling x → code < refusals_from → SettleAnswered text code
  refusal : (number line : ℕ) → FirstWrong text number line → code ≡ refusal_code number line → refusals_from ≤ code → SettleAnswered text code

-- What the library's own operations reply to a text that is refused with this number and line; those that write leave the buffer as it was.
pub record Replied (text : List ℕ) (number line : ℕ) : Type 0 where
  pub ran : (before after : List ℕ) (reply : Reply) → Ran text before after reply → (reply ≡ Refused number line) × (after ≡ before)
  pub settled : (reply : Reply) → answer_by reply ≡ settling text → reply ≡ Refused number line
  pub reasoned : (p r : ℕ) (reply : Reply) → answer_by reply ≡ reason text p r → reply ≡ Refused number line
  pub explained : (before after : List ℕ) (reply : Reply) → Explained text before after reply → (reply ≡ Refused number line) × (after ≡ before)
  pub quoted : (costs : List ℕ) (p : ℕ) (reply : Reply) → answer_by reply ≡ quoting text costs p → reply ≡ Refused number line

-- Of tickets: every text and every buffer gets its answer.
pub record TicketsAnswered : Type 0 where
  pub run : (text before after : List ℕ) (code : ℕ) → RunCall text before after code → RunAnswered text before after code
  pub settle : (text : List ℕ) (code : ℕ) → code ≡ number_code (settling text) → SettleAnswered text code
  pub replied : (text : List ℕ) (number line : ℕ) → FirstWrong text number line → Replied text number line
  -- the program writes the refusal's line, which says its number and its line
  pub program : (text : List ℕ) (number line : ℕ) → FirstWrong text number line
      → (program_writes text ≡ refusal_line number line) × (refusal_said (program_writes text) ≡ some (record { refusal = number; line = line }))

-- Demand 1: of tickets, and of the calls of the process part, where a refused one changes no byte.
pub record Demand1 : Type 0 where
  pub tickets : TicketsAnswered
  pub parts : RefusedCallsChangeNothing
  -- speaking's answer tells its refusal from what it yields
  pub speaking : SpeakAnswersApart
  -- in document 01's words: which texts are accepted, which are refused and with what, and that each is one of the two; which bytes are lines; and what each
  -- call of the process part answers and leaves
  pub texts : TextsJudged
  pub accepts : AcceptedTexts
  pub refuses : RefusedTexts
  pub lines : LinesSplit
  pub calls : PartCalls
