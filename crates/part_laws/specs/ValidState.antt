-- Which nine bytes are a valid state, in document 01's words ('The desk part': "station, n, t, round, mark (00 open, 01 decided, 02 rounds over), value (4
-- bytes)"; 'Refused calls', "Speaking", refusals 10 and 11).
use Rattle.std.specs.Prelude.{List, ◌≡◌, ℕ, suc, ◌≤◌, ◌<◌, length, get_or, drop}
use Rattle.general.specs.BigEndian.{number}
use Rattle.consensus.specs.Limits.{Limits}

-- The fields.
unfoldable pub station_of : List ℕ → ℕ
station_of b = get_or b 0 0

unfoldable pub n_of : List ℕ → ℕ
n_of b = get_or b 1 0

unfoldable pub t_of : List ℕ → ℕ
t_of b = get_or b 2 0

unfoldable pub round_of : List ℕ → ℕ
round_of b = get_or b 3 0

unfoldable pub mark_of : List ℕ → ℕ
mark_of b = get_or b 4 0

unfoldable pub value_of : List ℕ → ℕ
value_of b = number (drop 5 b)

-- n, t and station are within the limits.
pub record Identified (p n t : ℕ) : Type 0 where
  pub limits : Limits n t
  pub first : 1 ≤ p
  pub last : p ≤ n

-- A state that is not refused with 10. Its value may be any.
pub record ValidState (b : List ℕ) : Type 0 where
  pub nine : length b ≡ 9
  pub identified : Identified (station_of b) (n_of b) (t_of b)
  pub mark : mark_of b ≤ 2
  -- mark 00 or 01: a round from 1 to t + 1 that is not above the station
  pub in_rounds : mark_of b ≤ 1 → (1 ≤ round_of b) × (round_of b ≤ suc (t_of b)) × (round_of b ≤ station_of b)
  -- mark 02: round = t + 1 < station
  pub after_rounds : mark_of b ≡ 2 → (round_of b ≡ suc (t_of b)) × (suc (t_of b) < station_of b)

-- One that is not refused with 11 either: mark 00.
pub record OpenState (b : List ℕ) : Type 0 where
  pub valid : ValidState b
  pub unmarked : mark_of b ≡ 0
