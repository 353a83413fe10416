-- Starting a process part (document 01, 'The desk part' and 'Refused calls', "Starting a desk").
use Rattle.std.specs.Prelude.{List, ℕ, cond, not, ◌&&◌, eqb, length}
use Rattle.part_format.specs.PartState.{PartState, mark_open, state_bytes, identity_valid}

-- 10: n, t or the station outside the limits, or not exactly nine bytes lent; 0: none.
unfoldable pub start_refusal : (p n t : ℕ) → List ℕ → ℕ
start_refusal p n t lent = cond (not (identity_valid p n t && eqb (length lent) 9)) 10 0

-- Round 1, open, with its proposal.
unfoldable pub start_state : (p n t v : ℕ) → PartState
start_state p n t v = record { process = p; processes = n; resilience = t; round = 1; mark = mark_open; value = v }

-- What the lent bytes hold afterwards.
unfoldable pub start_bytes : (p n t v : ℕ) → List ℕ → List ℕ
start_bytes p n t v lent = cond (eqb (start_refusal p n t lent) 0) (state_bytes (start_state p n t v)) lent
