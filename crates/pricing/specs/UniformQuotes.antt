-- What the quotes of processes have in common, by whatever protocol they agree (document 02, Paper 9: "Any two desks that decided under one ticket quote the
-- same penny for the same lines."). `ends` gives the end of each process.
use Rattle.std.specs.Prelude.{List, ◌≡◌, ℕ}
use Rattle.std.proofs.Math.Option.{some}
use Rattle.consensus.specs.Instance.{Instance, proposal_of}
use Rattle.consensus.specs.declared.State.{State}
use Rattle.consensus.specs.Consensus.{IsProcess, Decides, CrashesUndecided, UniformConsensus}
use Rattle.pricing.specs.Price.{price_of}
use Rattle.pricing.specs.Quote.{quote_by}
use Rattle.pricing.specs.PricedLines.{Priced}

-- Process p quotes so many pence for these costs, which are those of lines that are priced.
pub record Quotes (x : Instance) (ends : ℕ → State) (costs : List ℕ) (p pence : ℕ) : Type 0 where
  pub process : IsProcess x p
  pub lines : Priced costs
  pub quoted : quote_by (ends p) costs ≡ some pence

pub record UniformQuotes (x : Instance) (ends : ℕ → State) : Type 0 where
  -- any two that decided quote the same penny for the same lines
  pub same_penny : (costs : List ℕ) (p q a b : ℕ) → Quotes x ends costs p a → Quotes x ends costs q b → a ≡ b
  -- who decides quotes by its decided value, and nobody else quotes
  pub by_decision : (costs : List ℕ) (p r v : ℕ) → Priced costs → Decides x ends p r v → Quotes x ends costs p (price_of v costs)
  pub only_deciders : (costs : List ℕ) (p pence : ℕ) → Quotes x ends costs p pence → (r : ℕ) × (v : ℕ) × Decides x ends p r v × (pence ≡ price_of v costs)
  -- it is the price by a rate set that a process proposed
  pub by_proposal : (costs : List ℕ) (p pence : ℕ) → Quotes x ends costs p pence → (q : ℕ) × IsProcess x q × (pence ≡ price_of (proposal_of x q) costs)
  -- and everybody quotes who does not crash undecided
  pub unless_crashed : (costs : List ℕ) (p : ℕ) → Priced costs → IsProcess x p → ((r : ℕ) → CrashesUndecided x ends p r → ⊥) → (pence : ℕ) × Quotes x ends costs p pence

-- The claim: it follows from uniform consensus.
unfoldable pub QuotesOfConsensus : Type 0
QuotesOfConsensus = (latest : ℕ) (x : Instance) (ends : ℕ → State) → UniformConsensus latest x ends → UniformQuotes x ends
