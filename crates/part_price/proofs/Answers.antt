-- One law for each reply to a process part that prices, over plain variables. Assumes nothing.
use mathlib.Core.List.{List}
use mathlib.Core.Path.{◌≡◌, refl, ap, ◌∙◌}
use mathlib.Core.Bool.{Bool, true, false, cond, not, ◌&&◌}
use Prim.Native.Nat.{ℕ}
use borrow.Author.Tests.{eq-eqb, ne_eqb, eqb-true}
use lib.Dec.{eqb}
use lib.ListN.{length, get_or, take, drop}
use Rattle.std.specs.Prelude.{Option as Optional, Some, None, ◌⊎◌}
use Rattle.std.proofs.Common.{inl, inr}
use Rattle.general.specs.Answer.{Answer, refused}
use Rattle.general.specs.BigEndian.{number}
use Rattle.general.proofs.Tests.{both}
use Rattle.part_format.specs.PartState.{state_from, state_valid, state_refusal}
use Rattle.part_format.proofs.Bytes.{value_from}
use Rattle.pricing_format.specs.Quoting.{quoted_or16, of_lines}
use Rattle.quotes.specs.code.ByDecision.{price_by}
use Rattle.pricing_format.specs.OwnQuote.{own_quote}
use Rattle.pricing_format.proofs.ByState.{price_if, quote_by_state}

-- A state that is not refused with 10 has nine bytes.
by_nine : (b marked : Bool) → (◌≡◌ {A = ℕ} (cond (not b) 10 (cond (not marked) 11 0)) 10 → ⊥) → b ≡ true
by_nine true marked h = refl
by_nine false marked h = absurd (h refl)

pub nine_bytes : (state : List ℕ) (k : ℕ) → k ≡ state_refusal state → (k ≡ 10 → ⊥) → length state ≡ 9
unfolding state_refusal
nine_bytes state k known not-ten =
    let valid = by_nine (eqb (length state) 9 && state_valid (state_from state)) (eqb (state_from state).mark 0) (λ e. not-ten (known ∙ e)) in
    eqb-true (length state) 9 (both (eqb (length state) 9) (state_valid (state_from state)) valid).0

-- The price of what the mark says is decided.
module _ (state costs : List ℕ) where
  priced : (v : ℕ) (decided : Optional ℕ) → ((get_or state 4 0 ≡ 1) × (decided ≡ Some v)) ⊎ ((get_or state 4 0 ≡ 1 → ⊥) × (decided ≡ None))
      → price_by costs decided ≡ price_if (eqb (get_or state 4 0) 1) v costs
  unfolding price_by
  priced v decided (inl (one, e)) = rw (e, eq-eqb (get_or state 4 0) 1 one) refl
  priced v decided (inr (other, e)) = rw (e, ne_eqb (get_or state 4 0) 1 other) refl

module _ (state costs : List ℕ) (k : ℕ) (known : k ≡ state_refusal state) where
  pub no_state : k ≡ 10 → refused 10 0 ≡ own_quote state costs
  unfolding own_quote
  no_state ten = rw (← known, eq-eqb k 10 ten) refl

  pub own_given : (k ≡ 10 → ⊥) → (answer : Answer ℕ) (v : ℕ) → v ≡ number (take 4 (drop 5 state))
      → (decided : Optional ℕ) → ((get_or state 4 0 ≡ 1) × (decided ≡ Some v)) ⊎ ((get_or state 4 0 ≡ 1 → ⊥) × (decided ≡ None))
      → answer ≡ of_lines costs (quoted_or16 (price_by costs decided)) → answer ≡ own_quote state costs
  unfolding own_quote state_from
  own_given not-ten answer v read decided by-mark given =
      let value : v ≡ number (drop 5 state) = read ∙ ap number (value_from state (nine_bytes state k known not-ten)) in
      given ∙ ap (λ p. of_lines costs (quoted_or16 p)) (priced state costs v decided by-mark) ∙ rw (← known, ne_eqb k 10 not-ten, value, quote_by_state state costs) refl
