-- What the call answers that prices by nine bytes, by cases, and what a quote from them rests on. Assumes nothing.
use mathlib.Core.List.{List}
use mathlib.Core.Path.{◌≡◌, refl, sym, ap, ◌∙◌}
use mathlib.Core.Bool.{Bool, true, false, cond}
use Prim.Native.Nat.{ℕ, ◌^◌, ◌≤◌, ◌<◌}
use native.Mathlib.Omega.{arith}
use borrow.Author.Tests.{eq-eqb, eqb-true, eqb-false}
use lib.Dec.{eqb}
use lib.ListN.{length, drop, length-drop}
use Rattle.general.specs.BigEndian.{number}
use Rattle.general.proofs.Bytes.{drop-bytes}
use Rattle.general.proofs.BigEndian.{number_below}
use Rattle.consensus.specs.declared.State.TheVariants.{Decided as decided}
use Rattle.general.specs.Answer.{Answer, accepted, refused}
use Rattle.pricing.specs.Price.{price_of}
use Rattle.pricing.specs.Quote.{lines_refusal, quote_by}
use Rattle.pricing.specs.PricedLines.{Priced, Unpriced}
use Rattle.pricing.specs.Largest.{highest_rates, largest_quote}
use Rattle.pricing.proofs.PricedLines.{priced_lines}
use Rattle.pricing.proofs.Largest.{largest}
use Rattle.part_format.specs.PartState.{state_from, mark_decided, state_refusal, ValidBytes}
use Rattle.part_laws.specs.ValidState.{mark_of, value_of}
use Rattle.part_laws.proofs.ValidState.{valid_state, no_state_lem}
use Rattle.part_host.specs.Part.{up}
use Rattle.part_host.specs.PartEnds.{state_by_part}
use Rattle.pricing_format.specs.Quoting.{quoted_or16, of_lines}
use Rattle.pricing_format.specs.OwnQuote.{own_quote}
use Rattle.pricing_format.specs.QuoteCall.{place_after, refusal_number, PriceCall}
use Rattle.pricing_format.proofs.QuotesApart.{quotes_apart}
use Rattle.pricing_format.proofs.ByState.{price_if, quote_by_state}
use Rattle.demands.specs.QuoteClaim.{PriceAnswered}

-- The answers for nine bytes.
data PriceCase (state costs : List ℕ) : Answer ℕ → Type 0 where
  price : (state_refusal state ≡ 10 → ⊥) → Priced costs → (state_from state).mark ≡ mark_decided → PriceCase state costs (accepted (price_of (state_from state).value costs))
  waits : (state_refusal state ≡ 10 → ⊥) → Priced costs → ((state_from state).mark ≡ mark_decided → ⊥) → PriceCase state costs (refused 16 0)
  wrong_lines : (number : ℕ) → (state_refusal state ≡ 10 → ⊥) → Unpriced costs number → PriceCase state costs (refused number 0)
  wrong_state : state_refusal state ≡ 10 → PriceCase state costs (refused 10 0)

module _ (state costs : List ℕ) where
  module _ (valid : state_refusal state ≡ 10 → ⊥) where
    by_mark : Priced costs → (b : Bool) → eqb (state_from state).mark mark_decided ≡ b
        → PriceCase state costs (quoted_or16 (price_if b (state_from state).value costs))
    unfolding quoted_or16
    by_mark lines true e = price valid lines (eqb-true (state_from state).mark mark_decided e)
    by_mark lines false e = waits valid lines (eqb-false (state_from state).mark mark_decided e)

    by_priced : (b : Bool) → eqb (lines_refusal costs) 0 ≡ b
        → PriceCase state costs (cond b (quoted_or16 (quote_by (state_by_part (up state)) costs)) (refused (lines_refusal costs) 0))
    by_priced true e =
        rw (quote_by_state state costs) (by_mark (priced_lines.priced costs (eqb-true (lines_refusal costs) 0 e)) (eqb (state_from state).mark mark_decided) refl)
    by_priced false e = wrong_lines (lines_refusal costs) valid (priced_lines.unpriced costs (eqb-false (lines_refusal costs) 0 e))

  price_case : PriceCase state costs (own_quote state costs)
  unfolding own_quote of_lines
  price_case = by_state (eqb (state_refusal state) 10) refl
    where
      by_state : (b : Bool) → eqb (state_refusal state) 10 ≡ b
          → PriceCase state costs (cond b (refused 10 0) (cond (eqb (lines_refusal costs) 0) (quoted_or16 (quote_by (state_by_part (up state)) costs)) (refused (lines_refusal costs) 0)))
      by_state true e = wrong_state (eqb-true (state_refusal state) 10 e)
      by_state false e = by_priced (eqb-false (state_refusal state) 10 e) (eqb (lines_refusal costs) 0) refl

  pub price_answered : (before after code : ℕ) → PriceCall state costs before after code → PriceAnswered state costs before after code
  unfolding refusal_number place_after state_from mark_of value_of
  price_answered before after code call = by_case (own_quote state costs) price_case call.answered call.place
    where
      by_case : (a : Answer ℕ) → PriceCase state costs a → code ≡ refusal_number a → after ≡ place_after a before → PriceAnswered state costs before after code
      by_case _ (price valid lines marked) e f = PriceAnswered.quoted (valid_state state valid) lines marked e f
      by_case _ (waits valid lines other) e f = PriceAnswered.not_decided (valid_state state valid) lines other e f
      by_case _ (wrong_lines number valid wrong) e f = PriceAnswered.lines number (valid_state state valid) wrong e f
      by_case _ (wrong_state wrong) e f = PriceAnswered.no_state (no_state_lem state wrong) e f

pub not_accepted : (number line pence : ℕ) → ◌≡◌ {A = Answer ℕ} (refused number line) (accepted pence) → ⊥
not_accepted number line pence e = let z : ◌≡◌ {A = ℕ} 0 1 = cc in let w : ⊥ = omega arith in w

-- What a quote from nine bytes rests on.
pub record OwnDecision (state costs : List ℕ) (pence : ℕ) : Type 0 where
  pub lines : Priced costs
  pub says : state_by_part (up state) ≡ decided (state_from state).round (state_from state).value
  pub price : price_of (state_from state).value costs ≡ pence

pub own_decision : (state costs : List ℕ) (pence : ℕ) → own_quote state costs ≡ accepted pence → OwnDecision state costs pence
unfolding state_by_part
own_decision state costs pence e = by_case (own_quote state costs) (price_case state costs) e
  where
    by_case : (a : Answer ℕ) → PriceCase state costs a → a ≡ accepted pence → OwnDecision state costs pence
    by_case _ (price valid lines marked) e =
        record { lines = lines; says = rw (eq-eqb (state_from state).mark mark_decided marked) refl; price = cc }
    by_case _ (waits valid lines other) e = absurd (not_accepted _ _ _ e)
    by_case _ (wrong_lines number valid wrong) e = absurd (not_accepted _ _ _ e)
    by_case _ (wrong_state wrong) e = absurd (not_accepted _ _ _ e)

-- A call that answers 0 has left a quote.
pub price_quoted : (state costs : List ℕ) (before after : ℕ) → PriceCall state costs before after 0 → own_quote state costs ≡ accepted after
unfolding place_after
price_quoted state costs before after call =
    let (pence, e) = (quotes_apart.of_states state costs).is_quoted (sym call.answered) in
    let left : after ≡ pence = rw e at call.place in
    e ∙ ap accepted (sym left)

-- The value of four bytes is a rate set, so that no quote is above the largest.
value_low : (state : List ℕ) → ValidBytes state → (state_from state).value ≤ highest_rates
unfolding state_from
value_low state valid =
    let four : length (drop 5 state) ≡ 4 = length-drop 5 state ∙ omega (arith, valid.nine) in
    let low : number (drop 5 state) < 256 ^ length (drop 5 state) = number_below (drop 5 state) (drop-bytes 5 state valid.bytes) in
    let least : number (drop 5 state) < 256 ^ 4 = rw four at low in
    omega arith

pub price_most : (state costs : List ℕ) (pence : ℕ) → ValidBytes state → own_quote state costs ≡ accepted pence → pence ≤ largest_quote
price_most state costs pence valid e =
    let known = own_decision state costs pence e in
    omega (arith, known.price, largest.quote (state_from state).value costs (value_low state valid) (priced_lines.taken costs known.lines))
