-- Uniform consensus makes quotes uniform. Assumes nothing.
use mathlib.Core.List.{List}
use mathlib.Core.Option.{some}
use mathlib.Core.Path.{◌≡◌, refl, sym, ap, ◌∙◌}
use Prim.Native.Nat.{ℕ}
use native.Mathlib.Omega.{arith}
use Rattle.consensus.specs.Instance.{Instance}
use Rattle.consensus.specs.declared.State.{State}
use Rattle.consensus.specs.declared.State.TheVariants.{Undecided as undecided, Decided as decided, Crashed as crashed}
use Rattle.consensus.specs.Consensus.{Decides, Agreement, Validity, Termination}
use Rattle.pricing.specs.Price.{price_of}
use Rattle.pricing.specs.Quote.{quote_by}
use Rattle.pricing.specs.PricedLines.{Priced}
use Rattle.pricing.specs.UniformQuotes.{Quotes, QuotesOfConsensus}

-- Whose end gives a quote has decided.
pub quote_decided : (s : State) (costs : List ℕ) (pence : ℕ) → quote_by s costs ≡ some pence → (r : ℕ) × (v : ℕ) × (s ≡ decided r v) × (pence ≡ price_of v costs)
unfolding quote_by
quote_decided (undecided v) costs pence e = absurd (let z : ◌≡◌ {A = ℕ} 0 1 = cc in let w : ⊥ = omega arith in w)
quote_decided (decided r v) costs pence e = (r, v, refl, cc)
quote_decided (crashed r) costs pence e = absurd (let z : ◌≡◌ {A = ℕ} 0 1 = cc in let w : ⊥ = omega arith in w)

module _ (x : Instance) (ends : ℕ → State) (costs : List ℕ) where
  decider_quotes : Priced costs → (p r v : ℕ) → Decides x ends p r v → Quotes x ends costs p (price_of v costs)
  unfolding quote_by
  decider_quotes lines p r v d = record { process = d.process; lines = lines; quoted = rw d.state refl }

  quoter_decides : (p pence : ℕ) → Quotes x ends costs p pence → (r : ℕ) × (v : ℕ) × Decides x ends p r v × (pence ≡ price_of v costs)
  quoter_decides p pence q =
      let (r, v, state, price) = quote_decided (ends p) costs pence q.quoted in
      (r, v, record { process = q.process; state = state }, price)

pub uniform_quotes : QuotesOfConsensus
unfolding QuotesOfConsensus Agreement Validity Termination
uniform_quotes latest x ends solved =
    record {
      same_penny = λ costs p q a b first second.
          let (r, v, decides, price) = quoter_decides x ends costs p a first in
          let (s, w, decides', price') = quoter_decides x ends costs q b second in
          price ∙ ap (λ (value : ℕ). price_of value costs) (solved.agreement p q r s v w decides decides') ∙ sym price';
      by_decision = λ costs p r v lines decides. decider_quotes x ends costs lines p r v decides;
      only_deciders = λ costs p pence quotes. quoter_decides x ends costs p pence quotes;
      by_proposal = λ costs p pence quotes.
          let (r, v, decides, price) = quoter_decides x ends costs p pence quotes in
          let (q, process, proposed) = solved.validity p r v decides in
          (q, process, price ∙ ap (λ (value : ℕ). price_of value costs) (sym proposed));
      unless_crashed = λ costs p lines process stays.
          let (r, v, decides) = solved.termination p process stays in
          (price_of v costs, decider_quotes x ends costs lines p r v decides);
    }
