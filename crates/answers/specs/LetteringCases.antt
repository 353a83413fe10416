-- Texts in two letterings (document 02, Paper 1): the premises of its claim (`LettersClaim`, demands/specs) can be met, by two texts that are accepted and by
-- two that are refused.
use Rattle.std.specs.Prelude.{List, [], ◌∷◌, ◌≡◌, ℕ}
use Rattle.text.specs.Capitals.{EqualUpToCase, InCapitals}
use Rattle.answers.specs.Settle.{settling}
use Rattle.answers.specs.Reason.{reason}
use Rattle.answers.specs.Code.{refusal_code, RunCall, ReasonsCall, number_code}
use Rattle.text.specs.TextOf.{text_of}
use Rattle.answers.specs.Table.{case1}
use Rattle.answers.specs.LetterRuns.{case1_mixed}

-- Two different texts, equal up to the case of letters. Run into equal buffers both answer `code` and leave the same bytes; settling answers `settled` of
-- both; of process 4 in round 1 both answer `reason_code`, and all reasons `explain_code`, with the same bytes.
pub record TwoLetterings (a b : List ℕ) (code settled reason_code explain_code : ℕ) : Type 0 where
  pub differ : a ≡ b → ⊥
  pub same : EqualUpToCase a b
  pub before : List ℕ
  pub after : List ℕ
  pub first : RunCall a before after code
  pub second : RunCall b before after code
  pub first_settles : settled ≡ number_code (settling a)
  pub second_settles : settled ≡ number_code (settling b)
  pub first_reason : reason_code ≡ number_code (reason a 4 1)
  pub second_reason : reason_code ≡ number_code (reason b 4 1)
  pub explained : List ℕ
  pub first_explains : ReasonsCall a before explained explain_code
  pub second_explains : ReasonsCall b before explained explain_code

pub record LetteringCases : Type 0 where
  -- case 1 and its text in mixed letters: the 101 bytes of its result, settled in round 1, reason 2, eight reasons
  pub accepted_texts : TwoLetterings (text_of case1.ticket) (text_of case1_mixed.ticket) 101 1 2 8
  -- G and g, which are no digits: refusal 2 at line 1
  pub refused_texts : TwoLetterings (text_of ("01040G" ∷ [])) (text_of ("01040g" ∷ [])) (refusal_code 2 1) (refusal_code 2 1) (refusal_code 2 1) (refusal_code 2 1)
  -- a small letter is seen
  pub not_in_capitals : InCapitals (text_of case1_mixed.ticket) → ⊥
