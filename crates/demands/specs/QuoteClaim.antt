-- Quotes from the agreed rate set, of every accepted text and in what the calls answer and leave (document 02, Paper 9: "Any two desks that decided under one
-- ticket quote the same penny for the same lines. (After 1 to 8, in this order: 14, no lines or more than 200; 15, a direct cost above 1,000,000,000; 16, a
-- desk outside 1 to n or dark.)").
use Rattle.std.specs.Prelude.{List, ◌≡◌, ℕ, ◌≤◌}
use Rattle.consensus.specs.Instance.{Instance}
use Rattle.consensus.specs.declared.State.{State}
use Rattle.consensus.specs.Consensus.{IsProcess, Decides, CrashesUndecided}
use Rattle.coordinator.specs.Run.{last_round, end_of}
use Rattle.general.specs.Answer.{accepted}
use Rattle.ticket_format.specs.Ticket.{read_ticket}
use Rattle.ticket_laws.specs.FirstWrong.{FirstWrong}
use Rattle.answers.specs.Code.{refusal_code}
use Rattle.answers.specs.Reply.{answer_by}
use Rattle.answers.specs.Reply.{Given}
use Rattle.pricing.specs.Price.{price_of}
use Rattle.pricing.specs.PricedLines.{Priced, Unpriced}
use Rattle.pricing.specs.Largest.{largest_quote}
use Rattle.pricing.specs.UniformQuotes.{UniformQuotes}
use Rattle.pricing.specs.Quote.{quote_by}
use Rattle.part_format.specs.PartState.{ValidBytes}
use Rattle.part_laws.specs.ValidState.{mark_of, value_of, ValidState}
use Rattle.part_host.specs.Part.{part_of, bytes_kept}
use Rattle.part_host.specs.Host.{parts_to, end_part_of}
use Rattle.part_host.specs.PartEnds.{end_by_part}
use Rattle.pricing_format.specs.Quoting.{quoted_or16, of_lines, quoting}
use Rattle.pricing_format.specs.OwnQuote.{own_quote}
use Rattle.pricing_format.specs.QuoteCall.{QuoteCall, PriceCall}
use Rattle.demands.specs.OfAccepted.{OfAccepted}
use Rattle.demands.specs.OutputSays.{Counts, OutputSays}
use Rattle.demands.specs.Written.{Wrote}

-- What the call answers, and what its place holds afterwards: of a process that decided the price by its decided value; else a refusal, in the paper's order,
-- and the place as it was.
pub data QuoteAnswered (text costs : List ℕ) (p before after code : ℕ) : Type 0 where
  quoted : (x : Instance) (r v : ℕ) → read_ticket text ≡ accepted x → Priced costs → Decides x (end_of x) p r v → code ≡ 0 → after ≡ price_of v costs
      → QuoteAnswered text costs p before after code
  -- 16: no such process, or one that crashes undecided (document 02: dark)
  no_process : (x : Instance) → read_ticket text ≡ accepted x → Priced costs → (IsProcess x p → ⊥) → code ≡ refusal_code 16 0 → after ≡ before
      → QuoteAnswered text costs p before after code
  crashes : (x : Instance) (r : ℕ) → read_ticket text ≡ accepted x → Priced costs → CrashesUndecided x (end_of x) p r → code ≡ refusal_code 16 0
      → after ≡ before → QuoteAnswered text costs p before after code
  -- 14 and 15
  lines : (x : Instance) (number : ℕ) → read_ticket text ≡ accepted x → Unpriced costs number → code ≡ refusal_code number 0 → after ≡ before
      → QuoteAnswered text costs p before after code
  -- 1 to 8
  refusal : (number line : ℕ) → FirstWrong text number line → code ≡ refusal_code number line → after ≡ before → QuoteAnswered text costs p before after code

-- The same of the call that takes nine bytes: of a state that has decided the price by its value; else a refusal, 10 where they are no valid state, 14 and 15 for
-- the lines, and 16 where the state has not decided.
pub data PriceAnswered (state costs : List ℕ) (before after code : ℕ) : Type 0 where
  quoted : ValidState state → Priced costs → mark_of state ≡ 1 → code ≡ 0 → after ≡ price_of (value_of state) costs
      → PriceAnswered state costs before after code
  not_decided : ValidState state → Priced costs → (mark_of state ≡ 1 → ⊥) → code ≡ 16 → after ≡ before
      → PriceAnswered state costs before after code
  lines : (number : ℕ) → ValidState state → Unpriced costs number → code ≡ number → after ≡ before → PriceAnswered state costs before after code
  no_state : (ValidState state → ⊥) → code ≡ 10 → after ≡ before → PriceAnswered state costs before after code

pub record QuoteClaim : Type 0 where
  -- every text, list of costs, process and place gets its answer
  pub answered : (text costs : List ℕ) (p before after code : ℕ) → QuoteCall text costs p before after code → QuoteAnswered text costs p before after code
  pub priced : (state costs : List ℕ) (before after code : ℕ) → PriceCall state costs before after code → PriceAnswered state costs before after code
  -- any two that decided quote the same penny for the same lines: in the rounds, by the library's own contract and by the C call's
  pub rounds : OfAccepted (λ x. UniformQuotes x (end_of x))
  pub given : (text costs : List ℕ) (p q a b : ℕ) → answer_by (Given a) ≡ quoting text costs p → answer_by (Given b) ≡ quoting text costs q → a ≡ b
  pub called : (text costs : List ℕ) (p q before before' after after' : ℕ) → QuoteCall text costs p before after 0 → QuoteCall text costs q before' after' 0
      → after ≡ after'
  -- by the bytes of a result, wherever running writes one; and by what they say of a process the call answers, a quote or a refusal
  pub outputs : (text : List ℕ) (x : Instance) (out : List ℕ) (ends : ℕ → State) (counts : Counts) → Wrote text x out → OutputSays x out ends counts
      → UniformQuotes x ends
  pub by_output : (text : List ℕ) (x : Instance) (out : List ℕ) (ends : ℕ → State) (counts : Counts) (costs : List ℕ) (p : ℕ)
      → Wrote text x out → OutputSays x out ends counts → IsProcess x p → quoting text costs p ≡ of_lines costs (quoted_or16 (quote_by (ends p) costs))
  -- by the nine bytes of the process parts
  pub parts : OfAccepted (λ x. UniformQuotes x (end_by_part x))
  -- a part that prices by its own nine bytes when the run is over answers what the ticket's call does for its process, a quote or a refusal
  pub own : (text : List ℕ) (x : Instance) (costs : List ℕ) (p : ℕ) → read_ticket text ≡ accepted x → IsProcess x p
      → own_quote (bytes_kept (end_part_of x p)) costs ≡ quoting text costs p
  -- one that prices before, after whichever rounds, and gets a quote, has the one that the ticket's call gives; and so any two, whenever they price, quote alike
  pub meanwhile : (text : List ℕ) (x : Instance) (costs : List ℕ) (r p before after : ℕ) → read_ticket text ≡ accepted x → IsProcess x p
      → r ≤ last_round x → PriceCall (bytes_kept (part_of (parts_to x r) p)) costs before after 0 → QuoteCall text costs p before after 0
  pub own_called : (text : List ℕ) (x : Instance) (costs : List ℕ) (r s p q before before' after after' : ℕ) → read_ticket text ≡ accepted x
      → IsProcess x p → IsProcess x q → r ≤ last_round x → s ≤ last_round x → PriceCall (bytes_kept (part_of (parts_to x r) p)) costs before after 0
      → PriceCall (bytes_kept (part_of (parts_to x s) q)) costs before' after' 0 → after ≡ after'
  -- no quote is above the largest, of a ticket or of nine bytes
  pub most : (text costs : List ℕ) (p before after : ℕ) → QuoteCall text costs p before after 0 → after ≤ largest_quote
  pub most_priced : (state costs : List ℕ) (before after : ℕ) → ValidBytes state → PriceCall state costs before after 0 → after ≤ largest_quote
