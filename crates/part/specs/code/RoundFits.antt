-- For the code alone: what is asked of the bytes whose round is closed.
use Rattle.std.specs.Prelude.{◌≡◌, List, ℕ, ◌≤◌, ◌<◌, length, get_or}

-- Nine bytes whose round and t + 1 have room for one more in a byte, as those of every valid state have.
abbrev pub RoundFits : List ℕ → Type 0
RoundFits state = (length state ≡ 9) × (get_or state 2 0 < 64) × (get_or state 3 0 ≤ 64)
