-- Which line of a text is its first wrong one, and which refusal it gets, in document 01's words ('Refused calls, by operation': "Then the first wrong line
-- rules, and in it the first that applies"). A line is judged by its own bytes and by those of the lines before it.
use Rattle.std.specs.Prelude.{List, [], ◌∷◌, ◌++◌, map, ◌≡◌, true, ℕ, suc, ◌+◌, ◌-◌, ◌≤◌, ◌<◌, length, get_or, take, drop}
use Rattle.general.specs.BigEndian.{number}
use Rattle.general.specs.Bits.{member}
use Rattle.consensus.specs.Limits.{Limits}
use Rattle.text.specs.Line.{Line, bytes, no_line, lines_of}

-- The fields of a line. Every line has a kind, a proposal line a station, and a failure line station, round, step, set and count.
unfoldable pub kind_in : List ℕ → ℕ
kind_in b = get_or b 0 0

unfoldable pub station_in : List ℕ → ℕ
station_in b = get_or b 1 0

unfoldable pub round_in : List ℕ → ℕ
round_in b = get_or b 2 0

unfoldable pub step_in : List ℕ → ℕ
step_in b = get_or b 3 0

unfoldable pub set_in : List ℕ → ℕ
set_in b = number (take 8 (drop 4 b))

unfoldable pub count_in : List ℕ → ℕ
count_in b = get_or b 12 0

-- n and t, which the first line says.
unfoldable pub n_in : (before : List (List ℕ)) → ℕ
n_in before = get_or (get_or before 0 []) 1 0

unfoldable pub t_in : (before : List (List ℕ)) → ℕ
t_in before = get_or (get_or before 0 []) 2 0

-- The last line before.
unfoldable pub last_of : (before : List (List ℕ)) → List ℕ
last_of before = get_or before (length before - 1) []

-- A line of a kind that is allowed here, of its kind's length. The header comes first, then n proposals, then failure lines and the end.
pub data AllowedHere (before : List (List ℕ)) (b : List ℕ) : Type 0 where
  header_first : length before ≡ 0 → kind_in b ≡ 1 → length b ≡ 3 → AllowedHere before b
  proposal_next : 1 ≤ length before → length before ≤ n_in before → kind_in b ≡ 2 → length b ≡ 6 → AllowedHere before b
  failure_next : n_in before < length before → (kind_in (last_of before) ≡ 4 → ⊥) → kind_in b ≡ 3 → length b ≡ 13 → AllowedHere before b
  end_next : n_in before < length before → (kind_in (last_of before) ≡ 4 → ⊥) → kind_in b ≡ 4 → length b ≡ 1 → AllowedHere before b

-- A failure line's station is in 1 to n and rising, its round in 1 to t + 1, its step at most 02.
pub record InPlace (before : List (List ℕ)) (b : List ℕ) : Type 0 where
  pub from_station1 : 1 ≤ station_in b
  pub to_station_n : station_in b ≤ n_in before
  pub rising : kind_in (last_of before) ≡ 3 → station_in (last_of before) < station_in b
  pub from_round1 : 1 ≤ round_in b
  pub to_last_round : round_in b ≤ suc (t_in before)
  pub to_step2 : step_in b ≤ 2

-- Steps 01 and 02 stand in the station's own round; set and count suit the step.
pub record Suited (n : ℕ) (b : List ℕ) : Type 0 where
  pub own_round : 1 ≤ step_in b → round_in b ≡ station_in b
  pub no_set : (step_in b ≡ 1 → ⊥) → set_in b ≡ 0
  pub set : step_in b ≡ 1 → (q : ℕ) → 1 ≤ q → member q (set_in b) ≡ true → (station_in b < q) × (q ≤ n)
  pub no_count : (step_in b ≡ 2 → ⊥) → count_in b ≡ 0
  pub count : step_in b ≡ 2 → station_in b + count_in b ≤ n

-- The refusals that apply to a line behind these lines.
pub data Applies (before : List (List ℕ)) (b : List ℕ) : (refusal : ℕ) → Type 0 where
  -- a kind not allowed here (after the 04, every kind), or a wrong length for its kind
  not_here : (AllowedHere before b → ⊥) → Applies before b 3
  -- n or t outside the limits
  outside : kind_in b ≡ 1 → (Limits (get_or b 1 0) (get_or b 2 0) → ⊥) → Applies before b 4
  -- not the next station: that of the k-th line behind the header is k
  not_next : kind_in b ≡ 2 → (station_in b ≡ length before → ⊥) → Applies before b 5
  -- more than t failure lines: header, proposals and t of them stand before it
  too_many : kind_in b ≡ 3 → n_in before + t_in before < length before → Applies before b 6
  -- station, round or step outside their limits, or the station not rising
  not_in_place : kind_in b ≡ 3 → (InPlace before b → ⊥) → Applies before b 7
  -- a round, a set or a count that does not suit the step
  not_suited : kind_in b ≡ 3 → (Suited (n_in before) b → ⊥) → Applies before b 8

-- The first refusal that applies to a line.
pub record FirstApplies (before : List (List ℕ)) (b : List ℕ) (refusal : ℕ) : Type 0 where
  pub applies : Applies before b refusal
  pub first : (other : ℕ) → other < refusal → Applies before b other → ⊥

-- Lines to which no refusal applies, each after those before it.
pub data Right : List (List ℕ) → Type 0 where
  none : Right []
  one_more : (before : List (List ℕ)) (b : List ℕ) → Right before → ((refusal : ℕ) → Applies before b refusal → ⊥) → Right (before ++ (b ∷ []))

-- A text is wrong with this refusal at this line. More than 4,096 bytes: refusal 1, line 0. Else all lines before it are right, and its number is one more
-- than theirs. It is no line (2), or a refusal applies to it (3 to 8), or the text ends there without an 04 (3).
pub data FirstWrong (text : List ℕ) : (refusal line : ℕ) → Type 0 where
  too_long : 4096 < length text → FirstWrong text 1 0
  not_aline : (before : List (List ℕ)) (rest : List Line) → length text ≤ 4096 → Right before → lines_of text ≡ map bytes before ++ (no_line ∷ rest)
      → FirstWrong text 2 (suc (length before))
  wrong_line : (before : List (List ℕ)) (rest : List Line) (b : List ℕ) (refusal : ℕ) → length text ≤ 4096 → Right before
      → lines_of text ≡ map bytes before ++ (bytes b ∷ rest) → FirstApplies before b refusal → FirstWrong text refusal (suc (length before))
  cut_short : (before : List (List ℕ)) → length text ≤ 4096 → Right before → lines_of text ≡ map bytes before → (kind_in (last_of before) ≡ 4 → ⊥)
      → FirstWrong text 3 (suc (length before))
