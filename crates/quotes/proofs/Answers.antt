-- One law for each reply of the operations that quote, over plain variables. Assumes nothing.
use mathlib.Core.List.{List}
use mathlib.Core.Path.{◌≡◌, refl, ap, ◌∙◌}
use mathlib.Core.Bool.{Bool, true, false, cond, ◌&&◌}
use Prim.Native.Nat.{ℕ}
use native.Mathlib.Omega.{arith}
use borrow.Author.Tests.{eq-eqb, ne_eqb}
use lib.Dec.{leb}
use Rattle.std.specs.Prelude.{Option, Some, None, Result, Ok, Err, IsErrAnd, ok_or}
use Rattle.refusals.specs.Answered.{answer_of}
use Rattle.refusals.specs.Number.{number_of}
use Rattle.refusals.proofs.Positive.{number_positive}
use Rattle.refusals.specs.declared.Refusal.{Refusal}
use Rattle.refusals.specs.declared.Refusal.TheVariants.{NoQuote}
use Rattle.refusals.specs.declared.Refused.{Refused}
use Rattle.answers.specs.Reply.{answer_by, reply_of}
use Rattle.general.specs.Answer.{Answer, accepted, refused, and_then}
use Rattle.consensus.specs.Instance.{Instance}
use Rattle.consensus.specs.declared.State.{State}
use Rattle.consensus.specs.declared.State.TheVariants.{Undecided as undecided, Decided as decided, Crashed as crashed}
use Rattle.coordinator.specs.Run.{end_of}
use Rattle.ticket_format.specs.Ticket.{read_ticket}
use Rattle.run_ends.specs.code.Decision.{value_decided, decided_in, deciding}
use Rattle.pricing.specs.Price.{price_of}
use Rattle.pricing.specs.Quote.{lines_refusal, quote_by}
use Rattle.pricing_format.specs.Quoting.{quoted_or16, of_lines, quote_in, quoting}
use Rattle.quotes.specs.code.ByDecision.{price_by}

module _ (costs : List ℕ) (k : ℕ) (e : k ≡ lines_refusal costs) where
  -- Lines that are refused, and lines that are priced.
  pub lines_refused : (k ≡ 0 → ⊥) → (answer : Answer ℕ) → refused k 0 ≡ of_lines costs answer
  unfolding of_lines
  lines_refused wrong answer = rw (← e, ne_eqb k 0 wrong) refl

  pub lines_taken : k ≡ 0 → (answer : Answer ℕ) → answer ≡ of_lines costs answer
  unfolding of_lines
  lines_taken priced answer = rw (← e, eq-eqb k 0 priced) refl

-- What is quoted by a decision.
abbrev pub quote_for : (costs : List ℕ) → Option ℕ → Answer ℕ
quote_for costs decision = of_lines costs (quoted_or16 (price_by costs decision))

module _ (costs : List ℕ) (decided : Option ℕ) where
  -- Lines that are refused have that refusal, whatever was decided.
  pub lines_told : (r : Refusal) → number_of r ≡ lines_refusal costs → (result : Result ℕ Refused)
      → IsErrAnd result (λ e. e ≡ record { refusal = r; line = 0 }) → answer_by (reply_of result) ≡ quote_for costs decided
  unfolding answer_by reply_of
  lines_told r e (Ok _) told = elim told [ ]
  lines_told r e (Err _) told = rw told (lines_refused costs (number_of r) e (λ z. omega (arith, z, number_positive r)) (quoted_or16 (price_by costs decided)))

  module _ (taken : 0 ≡ lines_refusal costs) where
    -- Where none was decided, 16.
    pub none_told : (r : Refusal) → ok_or decided NoQuote ≡ Err r → (result : Result ℕ Refused)
        → IsErrAnd result (λ e. e ≡ record { refusal = r; line = 0 }) → answer_by (reply_of result) ≡ quote_for costs decided
    unfolding answer_by reply_of quoted_or16 price_by number_of
    none_told r e (Ok _) told = elim told [ ]
    none_told r e (Err x) told = by_decision decided e
      where
        by_decision : (d : Option ℕ) → ok_or d NoQuote ≡ Err r → answer_by (reply_of (Err x)) ≡ quote_for costs d
        by_decision (Some v) f = absurd (let z : ◌≡◌ {A = ℕ} 0 1 = cc in omega arith)
        by_decision None f = let same : NoQuote ≡ r = cc in rw (told, ← same) (lines_taken costs 0 taken refl (refused 16 0))

    pub priced : (v : ℕ) → ok_or decided NoQuote ≡ Ok v → (pence : ℕ) → pence ≡ price_of v costs
        → answer_by (reply_of (Ok pence)) ≡ quote_for costs decided
    unfolding answer_by reply_of quoted_or16 price_by
    priced v e pence price = by_decision decided e
      where
        by_decision : (d : Option ℕ) → ok_or d NoQuote ≡ Ok v → accepted pence ≡ quote_for costs d
        by_decision (Some w) f = let same : w ≡ v = cc in rw (price, ← same) (lines_taken costs 0 taken refl (accepted (price_of w costs)))
        by_decision None f = absurd (let z : ◌≡◌ {A = ℕ} 0 1 = cc in omega arith)

-- A quote rests on what the process decides alone.
of_state : (s : State) (costs : List ℕ) → quote_for costs (value_decided s) ≡ of_lines costs (quoted_or16 (quote_by s costs))
unfolding value_decided quote_by price_by
of_state (undecided v) costs = refl
of_state (decided round v) costs = refl
of_state (crashed round) costs = refl

of_instance : (p : ℕ) (costs : List ℕ) (x : Instance) → quote_for costs (decided_in p x) ≡ quote_in costs p x
unfolding decided_in quote_in quoted_or16 price_by
of_instance p costs x = by_test (leb 1 p && leb p x.processes)
  where
    by_test : (b : Bool) → quote_for costs (cond b (value_decided (end_of x p)) None)
        ≡ of_lines costs (cond b (quoted_or16 (quote_by (end_of x p) costs)) (refused 16 0))
    by_test true = of_state (end_of x p) costs
    by_test false = refl

of_decision : (text : List ℕ) (p : ℕ) (costs : List ℕ) → and_then (deciding text p) (quote_for costs) ≡ quoting text costs p
unfolding deciding quoting
of_decision text p costs = by_reading (read_ticket text)
  where
    by_reading : (a : Answer Instance) → and_then (and_then a (λ x. accepted (decided_in p x))) (quote_for costs) ≡ and_then a (quote_in costs p)
    by_reading (accepted x) = of_instance p costs x
    by_reading (refused number line) = refl

-- Where the ticket is accepted, by what the process decides; and where it is not.
module _ (text : List ℕ) (p : ℕ) (costs : List ℕ) where
  pub by_decision : (decision : Option ℕ) → answer_of (λ d. d) (Ok decision) ≡ deciding text p → quote_for costs decision ≡ quoting text costs p
  unfolding answer_of
  by_decision decision e = ap (λ (a : Answer (Option ℕ)). and_then a (quote_for costs)) e ∙ of_decision text p costs

  pub refused_told : (e : Refused) → answer_of (λ d. d) (Err e) ≡ deciding text p → (result : Result ℕ Refused)
      → IsErrAnd result (λ given. given ≡ e) → answer_by (reply_of result) ≡ quoting text costs p
  unfolding answer_of answer_by reply_of
  refused_told e read (Ok _) told = elim told [ ]
  refused_told e read (Err _) told = rw told (ap (λ (a : Answer (Option ℕ)). and_then a (quote_for costs)) read ∙ of_decision text p costs)
