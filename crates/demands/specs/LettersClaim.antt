-- The case of letters (document 02, Paper 1): "Digits of either case are accepted, mixed too; output keeps capitals. Two tickets that differ in the case of
-- letters alone, run into equal buffers, get equal output bytes." It is claimed of every text, accepted or refused, of every buffer, and of what the calls
-- answer and leave.
use Rattle.std.specs.Prelude.{List, map, ◌≡◌, ℕ, take}
use Rattle.consensus.specs.Instance.{Instance}
use Rattle.text.specs.Capitals.{capital, EqualUpToCase, InCapitals}
use Rattle.ticket_format.specs.Ticket.{read_ticket}
use Rattle.answers.specs.ResultLine.{result_size}
use Rattle.answers.specs.Running.{program_writes}
use Rattle.answers.specs.Settle.{settling}
use Rattle.answers.specs.Reason.{reason}
use Rattle.answers.specs.Code.{RunCall, ReasonsCall, number_code}
use Rattle.answers.specs.Reply.{answer_by, Ran, Explained}
use Rattle.answers.specs.Reply.{Reply}
use Rattle.pricing_format.specs.Quoting.{quoting}
use Rattle.pricing_format.specs.QuoteCall.{QuoteCall}
use Rattle.demands.specs.Written.{Wrote}

-- Of running: equal buffers get equal answers, a refusal's number and line included, and are left with equal bytes; by the library's own contract, by the C
-- call's, and in what the program writes.
pub record RunAlike (a b : List ℕ) : Type 0 where
  pub ran : (before out out' : List ℕ) (answer answer' : Reply) → Ran a before out answer → Ran b before out' answer' → (answer ≡ answer') × (out ≡ out')
  pub called : (before out out' : List ℕ) (code code' : ℕ) → RunCall a before out code → RunCall b before out' code' → (code ≡ code') × (out ≡ out')
  pub program : program_writes a ≡ program_writes b

-- Of settling: equal answers, the round or the refusal's number and line; by the library's own contract and by the C call's.
pub record SettledAlike (a b : List ℕ) : Type 0 where
  pub settled : (answer answer' : Reply) → answer_by answer ≡ settling a → answer_by answer' ≡ settling b → answer ≡ answer'
  pub called : (code code' : ℕ) → code ≡ number_code (settling a) → code' ≡ number_code (settling b) → code ≡ code'

-- Of the reasons (Paper 7): equal answers, and equal bytes in equal buffers; by the library's own contract and by the C call's.
pub record ExplainedAlike (a b : List ℕ) : Type 0 where
  pub given : (p r : ℕ) (answer answer' : Reply) → answer_by answer ≡ reason a p r → answer_by answer' ≡ reason b p r → answer ≡ answer'
  pub called : (p r code code' : ℕ) → code ≡ number_code (reason a p r) → code' ≡ number_code (reason b p r) → code ≡ code'
  pub all_given : (before out out' : List ℕ) (answer answer' : Reply) → Explained a before out answer → Explained b before out' answer'
      → (answer ≡ answer') × (out ≡ out')
  pub all_called : (before out out' : List ℕ) (code code' : ℕ) → ReasonsCall a before out code → ReasonsCall b before out' code' → (code ≡ code') × (out ≡ out')

-- Of quotes (Paper 9): equal answers, and equal pence in places that held the same; by the library's own contract and by the C call's.
pub record QuotedAlike (a b : List ℕ) : Type 0 where
  pub given : (costs : List ℕ) (p : ℕ) (answer answer' : Reply) → answer_by answer ≡ quoting a costs p → answer_by answer' ≡ quoting b costs p
      → answer ≡ answer'
  pub called : (costs : List ℕ) (p before after after' code code' : ℕ) → QuoteCall a costs p before after code → QuoteCall b costs p before after' code'
      → (code ≡ code') × (after ≡ after')

pub record LettersClaim : Type 0 where
  -- every text is read as its capitals are: one instance, or one refusal with its number and its line
  pub capitals : (text : List ℕ) → read_ticket (map capital text) ≡ read_ticket text
  -- and so are two texts that differ in the case of letters alone
  pub read : (a b : List ℕ) → EqualUpToCase a b → read_ticket a ≡ read_ticket b
  pub run : (a b : List ℕ) → EqualUpToCase a b → RunAlike a b
  pub settle : (a b : List ℕ) → EqualUpToCase a b → SettledAlike a b
  pub explain : (a b : List ℕ) → EqualUpToCase a b → ExplainedAlike a b
  pub quote : (a b : List ℕ) → EqualUpToCase a b → QuotedAlike a b
  -- a result that stands in a buffer has no small letter, nor has anything that the program writes
  pub result : (text : List ℕ) (x : Instance) (out : List ℕ) → Wrote text x out → InCapitals (take (result_size x.processes) out)
  pub written : (text : List ℕ) → InCapitals (program_writes text)
