-- What the call answers that quotes, by cases, and that any two processes that decided quote alike. Assumes nothing.
use mathlib.Core.List.{List}
use mathlib.Core.Path.{◌≡◌, refl, sym, ap, ◌∙◌}
use mathlib.Core.Bool.{Bool, true, false, cond, ◌&&◌, true≢false}
use Prim.Native.Nat.{ℕ, ◌-◌, ◌^◌, ◌≤◌, ◌<◌}
use native.Mathlib.Omega.{arith}
use borrow.Author.Tests.{ne_eqb, eqb-true, eqb-false, leb-true, le-leb}
use lib.Dec.{eqb, leb}
use Rattle.general.specs.BigEndian.{number}
use Rattle.general.proofs.Tests.{both}
use Rattle.consensus.specs.Instance.{Instance, proposal_of}
use Rattle.consensus.specs.declared.State.{State}
use Rattle.consensus.specs.declared.State.TheVariants.{Undecided as undecided, Decided as decided, Crashed as crashed}
use Rattle.consensus.specs.Consensus.{IsProcess, Decides, Validity, CrashesNoOther, CrashesUndecided}
use Rattle.coordinator.specs.Run.{last_round, end_of, latest_of}
use Rattle.coordinator.specs.WellFormed.{WellFormed}
use Rattle.consensus.proofs.SameEnds.{SameEnds}
use Rattle.coordinator_laws.proofs.Consensus.{uniform_consensus}
use Rattle.coordinator_laws.proofs.Settled.{none_ends_undecided}
use Rattle.general.specs.Answer.{Answer, accepted, refused, and_then}
use Rattle.ticket_format.specs.Ticket.{read_ticket}
use Rattle.answers.specs.Code.{code_of}
use Rattle.answers.specs.Reply.{answer_by}
use Rattle.ticket_laws.proofs.WellFormed.{accepted_well_formed}
use Rattle.ticket_laws.proofs.RefusedTexts.{refused_wrong}
use Rattle.pricing.specs.Price.{price_of}
use Rattle.pricing.specs.Quote.{lines_refusal, quote_by}
use Rattle.pricing.specs.PricedLines.{Priced, Unpriced}
use Rattle.pricing.specs.Largest.{highest_rates, largest_quote}
use Rattle.pricing.specs.UniformQuotes.{Quotes, UniformQuotes, QuotesOfConsensus}
use Rattle.pricing.proofs.PricedLines.{priced_lines}
use Rattle.pricing.proofs.Largest.{largest}
use Rattle.pricing.proofs.UniformQuotes.{uniform_quotes}
use Rattle.part_format.specs.PartState.{state_refusal, ValidBytes}
use Rattle.part_format.proofs.ValidBytes.{valid_taken}
use Rattle.part_host.specs.Part.{up, part_of, bytes_kept}
use Rattle.part_host.specs.Host.{parts_to, end_part_of}
use Rattle.part_host.specs.PartEnds.{state_by_part, end_by_part}
use Rattle.part_host.proofs.PartsConsensus.{parts_consensus}
use Rattle.part_host.proofs.Kept.{kept_decided, kept_crashed, kept_since}
use Rattle.pricing_format.specs.Quoting.{quoted_or16, of_lines, quote_in, quoting}
use Rattle.pricing_format.specs.OwnQuote.{own_quote}
use Rattle.pricing_format.specs.QuoteCall.{place_after, quote_code, QuoteCall}
use Rattle.pricing_format.proofs.QuotesApart.{quotes_apart}
use Rattle.demands.specs.QuoteClaim.{QuoteAnswered, no_process, QuoteClaim}
use Rattle.demands.proofs.PriceAnswered.{price_answered, not_accepted, own_decision, price_quoted, price_most}
use Rattle.demands.proofs.Demand3.{demand_3, ends_said}

-- The answers.
pub data QuoteCase (text costs : List ℕ) (p : ℕ) : Answer ℕ → Type 0 where
  quote : (x : Instance) (r v : ℕ) → read_ticket text ≡ accepted x → Priced costs → Decides x (end_of x) p r v → QuoteCase text costs p (accepted (price_of v costs))
  absent : (x : Instance) → read_ticket text ≡ accepted x → Priced costs → (IsProcess x p → ⊥) → QuoteCase text costs p (refused 16 0)
  dark : (x : Instance) (r : ℕ) → read_ticket text ≡ accepted x → Priced costs → CrashesUndecided x (end_of x) p r → QuoteCase text costs p (refused 16 0)
  unpriced : (x : Instance) (number : ℕ) → read_ticket text ≡ accepted x → Unpriced costs number → QuoteCase text costs p (refused number 0)
  unread : (number line : ℕ) → read_ticket text ≡ refused number line → QuoteCase text costs p (refused number line)

module _ (text costs : List ℕ) (p : ℕ) where
  module _ (x : Instance) (read : read_ticket text ≡ accepted x) where
    by_end : Priced costs → IsProcess x p → (s : State) → end_of x p ≡ s → QuoteCase text costs p (quoted_or16 (quote_by s costs))
    unfolding quoted_or16 quote_by CrashesNoOther
    by_end lines process (undecided v) e = absurd (none_ends_undecided x (accepted_well_formed text x read) p v process e)
    by_end lines process (decided r v) e = quote x r v read lines (record { process = process; state = e })
    by_end lines process (crashed r) e = dark x r read lines ((uniform_consensus x (accepted_well_formed text x read)).crashes_no_other p r process e)

    by_process : Priced costs → (b : Bool) → (leb 1 p && leb p x.processes) ≡ b
        → QuoteCase text costs p (cond b (quoted_or16 (quote_by (end_of x p) costs)) (refused 16 0))
    by_process lines true e =
        let (one, last) = both (leb 1 p) (leb p x.processes) e in
        by_end lines (record { first = leb-true 1 p one; last = leb-true p x.processes last }) (end_of x p) refl
    by_process lines false e =
        absent x read lines (λ process. true≢false (sym (rw (le-leb 1 p process.first, le-leb p _ process.last) refl) ∙ e))

    by_lines : (b : Bool) → eqb (lines_refusal costs) 0 ≡ b
        → QuoteCase text costs p (cond b (cond (leb 1 p && leb p x.processes) (quoted_or16 (quote_by (end_of x p) costs)) (refused 16 0)) (refused (lines_refusal costs) 0))
    by_lines true e = by_process (priced_lines.priced costs (eqb-true (lines_refusal costs) 0 e)) (leb 1 p && leb p x.processes) refl
    by_lines false e = unpriced x (lines_refusal costs) read (priced_lines.unpriced costs (eqb-false (lines_refusal costs) 0 e))

  pub quote_case : QuoteCase text costs p (quoting text costs p)
  unfolding quoting quote_in of_lines
  quote_case = by_reading (read_ticket text) refl
    where
      by_reading : (reading : Answer Instance) → read_ticket text ≡ reading → QuoteCase text costs p (and_then reading (quote_in costs p))
      by_reading (accepted x) e = by_lines x e (eqb (lines_refusal costs) 0) refl
      by_reading (refused number line) e = unread number line e

  quote_answered : (before after code : ℕ) → QuoteCall text costs p before after code → QuoteAnswered text costs p before after code
  unfolding code_of place_after
  quote_answered before after code call = by_case (quoting text costs p) quote_case call.answered call.place
    where
      by_case : (a : Answer ℕ) → QuoteCase text costs p a → code ≡ quote_code a → after ≡ place_after a before → QuoteAnswered text costs p before after code
      by_case _ (quote x r v read lines decides) e f = QuoteAnswered.quoted x r v read lines decides e f
      by_case _ (absent x read lines outside) e f = no_process x read lines outside e f
      by_case _ (dark x r read lines crash) e f = QuoteAnswered.crashes x r read lines crash e f
      by_case _ (unpriced x number read wrong) e f = QuoteAnswered.lines x number read wrong e f
      by_case _ (unread number line read) e f = QuoteAnswered.refusal number line (refused_wrong text number line read) e f

-- What a quote rests on.
record Decision (text costs : List ℕ) (p pence : ℕ) : Type 0 where
  pub instance : Instance
  pub round : ℕ
  pub value : ℕ
  pub read : read_ticket text ≡ accepted instance
  pub lines : Priced costs
  pub decides : Decides instance (end_of instance) p round value
  pub price : price_of value costs ≡ pence

decision : (text costs : List ℕ) (p pence : ℕ) → quoting text costs p ≡ accepted pence → Decision text costs p pence
decision text costs p pence e = by_case (quoting text costs p) (quote_case text costs p) e
  where
    by_case : (a : Answer ℕ) → QuoteCase text costs p a → a ≡ accepted pence → Decision text costs p pence
    by_case _ (quote x r v read lines decides) e =
        record { instance = x; round = r; value = v; read = read; lines = lines; decides = decides; price = cc }
    by_case _ (absent x read lines outside) e = absurd (not_accepted _ _ _ e)
    by_case _ (dark x r read lines crash) e = absurd (not_accepted _ _ _ e)
    by_case _ (unpriced x number read wrong) e = absurd (not_accepted _ _ _ e)
    by_case _ (unread number line read) e = absurd (not_accepted _ _ _ e)

accepted_same : {x y : Instance} → ◌≡◌ {A = Answer Instance} (accepted x) (accepted y) → x ≡ y
accepted_same e = cc

-- A text that is accepted, and a quote for it.
module _ (text : List ℕ) (x : Instance) (read : read_ticket text ≡ accepted x) where
  formed : WellFormed x
  formed = accepted_well_formed text x read

  rounds : UniformQuotes x (end_of x)
  unfolding QuotesOfConsensus
  rounds = uniform_quotes (latest_of x) x (end_of x) (uniform_consensus x formed)

  module _ (costs : List ℕ) (p : ℕ) where
    quotes : (pence : ℕ) → quoting text costs p ≡ accepted pence → Quotes x (end_of x) costs p pence
    quotes pence e =
        let known = decision text costs p pence e in
        let same : known.instance ≡ x = accepted_same (sym known.read ∙ read) in
        rw (← known.price) (rounds.by_decision costs p _ _ known.lines (rw same at known.decides))

    -- By the nine bytes of its part a process quotes as by its end.
    kept_quote : IsProcess x p → (s : State) → end_of x p ≡ s
        → ValidBytes (bytes_kept (end_part_of x p)) × (quote_by (state_by_part (up (bytes_kept (end_part_of x p)))) costs ≡ quote_by s costs)
    unfolding quote_by
    kept_quote process (undecided v) e = absurd (none_ends_undecided x formed p v process e)
    kept_quote process (decided r v) e =
        let (valid, says) = kept_decided x formed p r v (record { is_process = process; state = e }) in
        (valid, rw says refl)
    kept_quote process (crashed r) e =
        let (valid, (v, says)) = kept_crashed x formed p r (record { is_process = process; state = e }) in
        (valid, rw says refl)

    quoting_in : IsProcess x p → quoting text costs p ≡ of_lines costs (quoted_or16 (quote_by (end_of x p) costs))
    unfolding quoting quote_in
    quoting_in process = rw (read, le-leb 1 p process.first, le-leb p x.processes process.last) refl

    own : IsProcess x p → own_quote (bytes_kept (end_part_of x p)) costs ≡ quoting text costs p
    unfolding own_quote
    own process =
        let (valid, same) = kept_quote process (end_of x p) refl in
        rw (ne_eqb (state_refusal (bytes_kept (end_part_of x p))) 10 (valid_taken (bytes_kept (end_part_of x p)) valid), same) (sym (quoting_in process))

-- Two quotes for one text.
module _ (text costs : List ℕ) (p q a b : ℕ) (first : quoting text costs p ≡ accepted a) (second : quoting text costs q ≡ accepted b) where
  same_penny_lem : a ≡ b
  unfolding quoting quote_in
  same_penny_lem = by_reading (read_ticket text) refl
    where
      by_reading : (reading : Answer Instance) → read_ticket text ≡ reading → a ≡ b
      by_reading (accepted x) read = (rounds text x read).same_penny costs p q a b (quotes text x read costs p a first) (quotes text x read costs q b second)
      by_reading (refused number line) read =
          absurd (not_accepted number line a (rw read at first))

-- A call that answers 0 has left a quote.
call_quoted : (text costs : List ℕ) (p before after : ℕ) → QuoteCall text costs p before after 0 → quoting text costs p ≡ accepted after
unfolding place_after
call_quoted text costs p before after call =
    let (pence, e, told, within) = (quotes_apart.of_tickets text costs p).is_accepted (rw (← call.answered) (omega arith)) in
    let left : after ≡ pence = rw e at call.place in
    e ∙ ap accepted (sym left)

called_quote : (text costs : List ℕ) (p before after : ℕ) → quoting text costs p ≡ accepted after → QuoteCall text costs p before after 0
unfolding code_of place_after
called_quote text costs p before after e = record { answered = rw e refl; place = rw e refl }

-- A part that prices after some rounds.
module _ (text : List ℕ) (x : Instance) (read : read_ticket text ≡ accepted x) (costs : List ℕ) (r p pence : ℕ) (process : IsProcess x p) (within : r ≤ last_round x) where
  meanwhile : own_quote (bytes_kept (part_of (parts_to x r) p)) costs ≡ accepted pence → quoting text costs p ≡ accepted pence
  unfolding quoting quote_in of_lines quoted_or16 quote_by
  meanwhile e =
      let known = own_decision (bytes_kept (part_of (parts_to x r) p)) costs pence e in
      let ended = kept_since x (formed text x read) r p _ _ within process known.says in
      rw (read, priced_lines.taken costs known.lines, le-leb 1 p process.first, le-leb p x.processes process.last, ended, known.price) refl

-- A decided value is a rate set of four bytes, so that no quote is above the largest.
rates_low : (x : Instance) → WellFormed x → (p r v : ℕ) → Decides x (end_of x) p r v → v ≤ highest_rates
unfolding Validity proposal_of
rates_low x formed p r v d =
    let (q, process, proposed) = (uniform_consensus x formed).validity p r v d in
    let low : v < 2 ^ 32 = rw proposed at (formed.values_fit (q - 1)) in
    omega arith

quote_most : (text costs : List ℕ) (p pence : ℕ) → quoting text costs p ≡ accepted pence → pence ≤ largest_quote
quote_most text costs p pence e =
    let known = decision text costs p pence e in
    let rates = rates_low known.instance (accepted_well_formed text known.instance known.read) p _ _ known.decides in
    omega (arith, known.price, largest.quote known.value costs rates (priced_lines.taken costs known.lines))

pub quote_claim : QuoteClaim
unfolding answer_by QuotesOfConsensus SameEnds
quote_claim =
    record {
      answered = quote_answered;
      priced = price_answered;
      rounds = rounds;
      given = λ text costs p q a b first second. same_penny_lem text costs p q a b (sym first) (sym second);
      called = λ text costs p q before before' after after' first second.
          same_penny_lem text costs p q after after' (call_quoted text costs p before after first) (call_quoted text costs q before' after' second);
      outputs = λ text x out ends counts wrote says. uniform_quotes _ x ends (demand_3.outputs.consensus text x out ends counts wrote says);
      by_output = λ text x out ends counts costs p wrote says process.
          quoting_in text x wrote.read costs p process
          ∙ ap (λ (s : State). of_lines costs (quoted_or16 (quote_by s costs))) (ends_said text x out ends counts wrote says p process);
      parts = λ text x read. uniform_quotes _ x (end_by_part x) (parts_consensus x (accepted_well_formed text x read));
      own = λ text x costs p read process. own text x read costs p process;
      meanwhile = λ text x costs r p before after read process within call. called_quote text costs p before after
          (meanwhile text x read costs r p after process within (price_quoted (bytes_kept (part_of (parts_to x r) p)) costs before after call));
      own_called = λ text x costs r s p q before before' after after' read process process' within within' first second.
          same_penny_lem text costs p q after after'
          (meanwhile text x read costs r p after process within (price_quoted (bytes_kept (part_of (parts_to x r) p)) costs before after first))
          (meanwhile text x read costs s q after' process' within' (price_quoted (bytes_kept (part_of (parts_to x s) q)) costs before' after' second));
      most_priced = λ state costs before after valid call. price_most state costs after valid (price_quoted state costs before after call);
      most = λ text costs p before after call. quote_most text costs p after (call_quoted text costs p before after call);
    }
