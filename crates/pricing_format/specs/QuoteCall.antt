-- The two calls that quote, as a C caller sees them: the number that each answers, and what stands afterwards in the place that is lent for the quote
-- (include/agreement.h; docs/DECISIONS.md, P9.1).
use Rattle.std.specs.Prelude.{List, ◌≡◌, ℕ}
use Rattle.general.specs.Answer.{Answer, accepted, refused}
use Rattle.answers.specs.Code.{code_of}
use Rattle.pricing_format.specs.Quoting.{quoting}
use Rattle.pricing_format.specs.OwnQuote.{own_quote}

-- What the place holds afterwards: the quote; after a refusal what it held.
unfoldable pub place_after : Answer ℕ → (before : ℕ) → ℕ
place_after (accepted pence) before = pence
place_after (refused number line) before = before

-- 0, or the refusal with its line as every call with a ticket answers it.
abbrev pub quote_code : Answer ℕ → ℕ
quote_code answer = code_of (λ pence. 0) answer

-- 0, or the number of the refusal, as starting and closing answer it.
unfoldable pub refusal_number : Answer ℕ → ℕ
refusal_number (accepted pence) = 0
refusal_number (refused number line) = number

-- A call that quotes, with a place that held `before`, answers this code and leaves `after`, where `tells` is how its answer is told as a number.
pub record QuotingCall (tells : Answer ℕ → ℕ) (answer : Answer ℕ) (before after code : ℕ) : Type 0 where
  pub answered : code ≡ tells answer
  pub place : after ≡ place_after answer before

-- The contract of `uc_quote`, and that of `uc_price`.
abbrev pub QuoteCall : (text costs : List ℕ) → (p before after code : ℕ) → Type 0
QuoteCall text costs p before after code = QuotingCall quote_code (quoting text costs p) before after code

abbrev pub PriceCall : (state costs : List ℕ) → (before after code : ℕ) → Type 0
PriceCall state costs before after code = QuotingCall refusal_number (own_quote state costs) before after code
