-- What a C caller reads off the numbers that the calls answer that quote, so that a quote is told from a refusal.
use Rattle.std.specs.Prelude.{List, ◌⊎◌, ◌≡◌, ℕ, ◌<◌}
use Rattle.general.specs.Answer.{Answer, accepted, refused}
use Rattle.answers.specs.CodesApart.{Within, ReadOff, of_ticket}
use Rattle.pricing_format.specs.Quoting.{quoting}
use Rattle.pricing_format.specs.OwnQuote.{own_quote}
use Rattle.pricing_format.specs.QuoteCall.{refusal_number}

-- The numbers of refusals: of a ticket 1 to 8 and then 14 to 16; of a state 10, and then 14 to 16.
abbrev pub of_quoting : ℕ → Type 0
of_quoting number = of_ticket number ⊎ Within 14 16 number

abbrev pub of_state : ℕ → Type 0
of_state number = (number ≡ 10) ⊎ Within 14 16 number

-- What is read off the number by which a state is answered: 0 where there is a quote, else the refusal, of no line.
pub record NumberReadOff (answer : Answer ℕ) : Type 0 where
  pub is_quoted : refusal_number answer ≡ 0 → (pence : ℕ) × (answer ≡ accepted pence)
  pub is_refused : 0 < refusal_number answer → (answer ≡ refused (refusal_number answer) 0) × of_state (refusal_number answer)

pub record QuotesApart : Type 0 where
  -- of a ticket: the code is 0 where there is a quote, and from 65536 on the refusal, whose number and line are read off by division
  pub of_tickets : (text costs : List ℕ) (p : ℕ) → ReadOff (λ (pence : ℕ). 0) 0 0 of_quoting (quoting text costs p)
  pub of_states : (state costs : List ℕ) → NumberReadOff (own_quote state costs)
