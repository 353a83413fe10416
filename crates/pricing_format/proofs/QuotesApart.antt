-- A C caller can tell quotes from refusals (`quotes_apart`). Assumes nothing.
use mathlib.Core.List.{List}
use mathlib.Core.Logic.{inl, inr}
use mathlib.Core.Option.{Option, some, none}
use mathlib.Core.Path.{◌≡◌, refl}
use mathlib.Core.Bool.{Bool, true, false, cond, ◌&&◌}
use Prim.Native.Nat.{ℕ}
use native.Mathlib.Omega.{arith}
use lib.Dec.{eqb, leb}
use borrow.Author.Tests.{eqb-false}
use Rattle.coordinator.specs.Run.{end_of}
use Rattle.general.specs.Answer.{Answer, accepted, refused}
use Rattle.answers.specs.CodesApart.{Within, ReadOff}
use Rattle.answers.proofs.CodesApart.{accepted_read, refused_read, of_ticket_lem}
use Rattle.pricing.specs.Quote.{lines_refusal, quote_by}
use Rattle.pricing.proofs.Lines.{lines_refused}
use Rattle.part_format.specs.PartState.{state_refusal}
use Rattle.part_host.specs.Part.{up}
use Rattle.part_host.specs.PartEnds.{state_by_part}
use Rattle.pricing_format.specs.Quoting.{quoted_or16, of_lines, quote_in, quoting}
use Rattle.pricing_format.specs.OwnQuote.{own_quote}
use Rattle.pricing_format.specs.QuoteCall.{refusal_number}
use Rattle.pricing_format.specs.QuotesApart.{of_quoting, NumberReadOff, QuotesApart}

-- A quote, or a refusal of no line that is one of 14 to 16.
pub data QuoteOr : Answer ℕ → Type 0 where
  quote : (pence : ℕ) → QuoteOr (accepted pence)
  refusal : (number : ℕ) → Within 14 16 number → QuoteOr (refused number 0)

quoted_or : (known : Option ℕ) → QuoteOr (quoted_or16 known)
unfolding quoted_or16
quoted_or (some pence) = quote pence
quoted_or none = refusal 16 (omega arith, omega arith)

process_or : (b : Bool) (known : Option ℕ) → QuoteOr (cond b (quoted_or16 known) (refused 16 0))
process_or true known = quoted_or known
process_or false known = refusal 16 (omega arith, omega arith)

of_lines_or : (costs : List ℕ) (answer : Answer ℕ) → QuoteOr answer → QuoteOr (of_lines costs answer)
unfolding of_lines
of_lines_or costs answer h = by_test (eqb (lines_refusal costs) 0) refl
  where
    by_test : (b : Bool) → eqb (lines_refusal costs) 0 ≡ b → QuoteOr (cond b answer (refused (lines_refusal costs) 0))
    by_test true e = h
    by_test false e =
        let (least, most) = lines_refused costs (eqb-false (lines_refusal costs) 0 e) in
        refusal (lines_refusal costs) (least, omega arith)

-- Of a ticket.
abbrev Told : Answer ℕ → Type 0
Told answer = ReadOff (λ (pence : ℕ). 0) 0 0 of_quoting answer

told : {answer : Answer ℕ} → QuoteOr answer → Told answer
told (quote pence) = accepted_read _ _ _ _ (omega arith) pence (omega arith, omega arith)
told (refusal number within) =
    refused_read _ _ _ _ number 0 (omega (arith, within.0)) (omega (arith, within.1)) (omega arith) (inr within)

quote_told : (text costs : List ℕ) (p : ℕ) → Told (quoting text costs p)
unfolding quoting quote_in
quote_told text costs p =
    of_ticket_lem _ _ _ _ text _ (λ _ h. inl h)
    (λ x e. told (of_lines_or costs _ (process_or (leb 1 p && leb p x.processes) (quote_by (end_of x p) costs))))

-- Of a state.
number_told : {answer : Answer ℕ} → QuoteOr answer → NumberReadOff answer
unfolding refusal_number
number_told (quote pence) = record { is_quoted = λ _. (pence, refl); is_refused = λ h. absurd (omega (arith, h)) }
number_told (refusal number within) =
    record { is_quoted = λ e. absurd (omega (arith, e, within.0)); is_refused = λ _. (refl, inr within) }

by_refusal_10 : (b : Bool) (answer : Answer ℕ) → QuoteOr answer → NumberReadOff (cond b (refused 10 0) answer)
unfolding refusal_number
by_refusal_10 true answer h = record { is_quoted = λ e. absurd (omega (arith, e)); is_refused = λ _. (refl, inl refl) }
by_refusal_10 false answer h = number_told h

state_told : (state costs : List ℕ) → NumberReadOff (own_quote state costs)
unfolding own_quote
state_told state costs =
    by_refusal_10 (eqb (state_refusal state) 10) _ (of_lines_or costs _ (quoted_or (quote_by (state_by_part (up state)) costs)))

pub quotes_apart : QuotesApart
quotes_apart = record { of_tickets = quote_told; of_states = state_told }
