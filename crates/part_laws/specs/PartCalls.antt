-- What each call of the process part answers, and the bytes that it leaves, in document 01's words ('The desk part' and 'Refused calls, by operation').
use Rattle.std.specs.Prelude.{List, [], ◌∷◌, ◌++◌, ◌≡◌, ℕ, suc, ◌^◌, ◌≤◌, ◌<◌, length, get_or, drop}
use Rattle.general.specs.BigEndian.{bytes_of}
use Rattle.part_format.specs.Start.{start_refusal, start_bytes}
use Rattle.part_format.specs.Speak.{speak_answer, speak_output}
use Rattle.part_format.specs.Close.{close_refusal, close_state}
use Rattle.part_laws.specs.ValidState.{station_of, n_of, t_of, round_of, mark_of, value_of, Identified, ValidState, OpenState}

-- "Frames: 21, round, value for data; 22, round for commit." (Numbers in frames are hexadecimal; the value has four bytes.)
unfoldable pub data_bytes : (round v : ℕ) → List ℕ
data_bytes round v = 0x21 ∷ round ∷ bytes_of 4 v

unfoldable pub commit_bytes : (round : ℕ) → List ℕ
commit_bytes round = 0x22 ∷ round ∷ []

-- Starting: station, n and t within the limits, and exactly nine bytes lent.
pub record Startable (p n t : ℕ) (lent : List ℕ) : Type 0 where
  pub identified : Identified p n t
  pub nine : length lent ≡ 9

-- "Starting a desk writes round 1, mark 00"; refused, "nothing is written".
pub data Starts (p n t v : ℕ) (lent : List ℕ) : (answer : ℕ) (after : List ℕ) → Type 0 where
  outside : (Startable p n t lent → ⊥) → Starts p n t v lent 10 lent
  started : Startable p n t lent → Starts p n t v lent 0 (p ∷ n ∷ t ∷ 1 ∷ 0 ∷ bytes_of 4 v)

-- "Speaking yields data then commit (8 bytes) in the desk's own round, else no bytes"; the output behind them, and refused all of it, stays.
pub data Speaks (state output : List ℕ) : (answer : ℕ) (after : List ℕ) → Type 0 where
  not_valid : (ValidState state → ⊥) → Speaks state output 10 output
  not_open : ValidState state → (mark_of state ≡ 0 → ⊥) → Speaks state output 11 output
  too_short : OpenState state → round_of state ≡ station_of state → length output < 8 → Speaks state output 9 output
  in_own_round : OpenState state → round_of state ≡ station_of state → 8 ≤ length output
      → Speaks state output 8 (data_bytes (round_of state) (value_of state) ++ commit_bytes (round_of state) ++ drop 8 output)
  in_others_round : OpenState state → (round_of state ≡ station_of state → ⊥) → Speaks state output 0 output

-- "Closing a round takes what was heard: nothing, data, or data then commit", of this round; in its own round nothing.
pub data Takes (state heard : List ℕ) : Type 0 where
  nothing_heard : heard ≡ [] → Takes state heard
  data_heard : (round_of state ≡ station_of state → ⊥) → (v : ℕ) → v < 2 ^ 32 → heard ≡ data_bytes (round_of state) v → Takes state heard
  commit_heard : (round_of state ≡ station_of state → ⊥) → (v : ℕ) → v < 2 ^ 32 → heard ≡ data_bytes (round_of state) v ++ commit_bytes (round_of state)
      → Takes state heard

-- The state with another round, mark and value.
unfoldable pub with_round : (state : List ℕ) (round mark v : ℕ) → List ℕ
with_round state round mark v = station_of state ∷ n_of state ∷ t_of state ∷ round ∷ mark ∷ bytes_of 4 v

-- "If it is still open, the round rises by one; after round t + 1 the mark becomes 02 and the round stays t + 1."
pub data GoesOn (state : List ℕ) (v : ℕ) : (after : List ℕ) → Type 0 where
  round_rises : round_of state ≤ t_of state → GoesOn state v (with_round state (suc (round_of state)) 0 v)
  rounds_over : round_of state ≡ suc (t_of state) → GoesOn state v (with_round state (suc (t_of state)) 2 v)

-- "In its own round a desk closes on nothing and decides. Otherwise it keeps its value, adopts, or adopts and decides"; "a decided desk keeps its deciding
-- round"; refused, the state is unchanged.
pub data Closes (state heard : List ℕ) : (answer : ℕ) (after : List ℕ) → Type 0 where
  no_state : (ValidState state → ⊥) → Closes state heard 10 state
  no_open_state : ValidState state → (mark_of state ≡ 0 → ⊥) → Closes state heard 11 state
  not_taken : OpenState state → (Takes state heard → ⊥) → Closes state heard 12 state
  decides_own : OpenState state → round_of state ≡ station_of state → heard ≡ [] → Closes state heard 0 (with_round state (round_of state) 1 (value_of state))
  keeps : {after : List ℕ} → OpenState state → (round_of state ≡ station_of state → ⊥) → heard ≡ [] → GoesOn state (value_of state) after
      → Closes state heard 0 after
  adopts : {after : List ℕ} (v : ℕ) → OpenState state → (round_of state ≡ station_of state → ⊥) → v < 2 ^ 32 → heard ≡ data_bytes (round_of state) v
      → GoesOn state v after → Closes state heard 0 after
  decides : (v : ℕ) → OpenState state → (round_of state ≡ station_of state → ⊥) → v < 2 ^ 32
      → heard ≡ data_bytes (round_of state) v ++ commit_bytes (round_of state) → Closes state heard 0 (with_round state (round_of state) 1 v)

-- The claim: each call answers and leaves exactly what these words give. What is heard is premised to be bytes, each below 256.
pub record PartCalls : Type 0 where
  pub starting : (p n t v : ℕ) (lent : List ℕ) → Starts p n t v lent (start_refusal p n t lent) (start_bytes p n t v lent)
  pub starting_only : (p n t v answer : ℕ) (lent after : List ℕ) → Starts p n t v lent answer after
      → (answer ≡ start_refusal p n t lent) × (after ≡ start_bytes p n t v lent)
  pub speaking : (state output : List ℕ) → Speaks state output (speak_answer state (length output)) (speak_output state output)
  pub speaking_only : (answer : ℕ) (state output after : List ℕ) → Speaks state output answer after
      → (answer ≡ speak_answer state (length output)) × (after ≡ speak_output state output)
  pub closing : (state heard : List ℕ) → ((i : ℕ) → get_or heard i 0 < 256) → Closes state heard (close_refusal state heard) (close_state state heard)
  pub closing_only : (answer : ℕ) (state heard after : List ℕ) → ((i : ℕ) → get_or heard i 0 < 256) → Closes state heard answer after
      → (answer ≡ close_refusal state heard) × (after ≡ close_state state heard)
  -- what a call that is not refused leaves is a valid state again, and after a start it is open
  pub start_leaves : (p n t v : ℕ) (lent after : List ℕ) → Starts p n t v lent 0 after → OpenState after
  pub close_leaves : (state heard after : List ℕ) → ((i : ℕ) → get_or heard i 0 < 256) → Closes state heard 0 after → ValidState after
