-- Quotes from nine bytes: which states have one, and which refusal comes first.
use Rattle.std.specs.Prelude.{List, [], ◌∷◌, map, ◌≡◌, ℕ, replicate}
use Rattle.general.specs.Answer.{Answer, accepted, refused}
use Rattle.pricing_format.specs.OwnQuote.{own_quote}

-- Nine bytes of process 2, of four, of which two may crash, in this round, with this mark and with 03E801F4 for its value.
unfoldable pub second : (round mark : ℕ) → List ℕ
second round mark = 2 ∷ 4 ∷ 2 ∷ round ∷ mark ∷ 3 ∷ 232 ∷ 1 ∷ 244 ∷ []

-- The same of process 4, which alone may be over its rounds.
unfoldable pub fourth : (round mark : ℕ) → List ℕ
fourth round mark = 4 ∷ 4 ∷ 2 ∷ round ∷ mark ∷ 3 ∷ 232 ∷ 1 ∷ 244 ∷ []

-- What is answered to states on these costs.
abbrev pub quotes_on : (costs : List ℕ) → (states : List (List ℕ)) → List (Answer ℕ)
quotes_on costs states = map (λ (state : List ℕ). own_quote state costs) states

pub record OwnCases : Type 0 where
  -- decided in either round; still open; its rounds over
  pub quoted : quotes_on (12345 ∷ 5 ∷ []) (second 1 1 ∷ second 2 1 ∷ second 2 0 ∷ fourth 3 0 ∷ fourth 3 2 ∷ [])
      ≡ accepted 14265 ∷ accepted 14265 ∷ refused 16 0 ∷ refused 16 0 ∷ refused 16 0 ∷ []
  -- no state: none at all, eight bytes, ten, a mark above 02, a round above its process, and rounds that are not over
  pub no_state : quotes_on (5 ∷ []) ([] ∷ (2 ∷ 4 ∷ 2 ∷ 1 ∷ 1 ∷ 3 ∷ 232 ∷ 1 ∷ []) ∷ (2 ∷ 4 ∷ 2 ∷ 1 ∷ 1 ∷ 3 ∷ 232 ∷ 1 ∷ 244 ∷ 0 ∷ [])
      ∷ second 2 3 ∷ second 3 1 ∷ fourth 2 2 ∷ [])
      ≡ refused 10 0 ∷ refused 10 0 ∷ refused 10 0 ∷ refused 10 0 ∷ refused 10 0 ∷ refused 10 0 ∷ []
  -- 10 comes before 14 and 15, be it for the length or for a mark
  pub state_first : own_quote [] [] ∷ own_quote [] (1000000001 ∷ []) ∷ own_quote (second 2 3) [] ∷ own_quote (second 2 3) (1000000001 ∷ []) ∷ []
      ≡ refused 10 0 ∷ refused 10 0 ∷ refused 10 0 ∷ refused 10 0 ∷ []
  -- these before 16, be the state open or over, and 14 before 15
  pub lines_next : own_quote (second 2 0) [] ∷ own_quote (second 2 0) (1000000001 ∷ []) ∷ own_quote (fourth 3 2) [] ∷ own_quote (fourth 3 2) (1000000001 ∷ [])
      ∷ own_quote (second 2 1) (replicate 201 1000000001) ∷ own_quote (second 2 1) (0 ∷ 1000000001 ∷ []) ∷ []
      ≡ refused 14 0 ∷ refused 15 0 ∷ refused 14 0 ∷ refused 15 0 ∷ refused 14 0 ∷ refused 15 0 ∷ []
