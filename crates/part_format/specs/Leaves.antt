-- What start and close leave, where they are not refused (document 01, 'The desk part' and 'Refused calls', refusals 10 and 11).
use Rattle.std.specs.Prelude.{◌≡◌, List, ℕ}
use Rattle.part_format.specs.PartState.{state_refusal, ValidBytes}
use Rattle.part_format.specs.Start.{start_refusal, start_bytes}
use Rattle.part_format.specs.Close.{close_refusal, close_state}

-- A call with this refusal is accepted.
pub record Accepted (refusal : ℕ) : Type 0 where
  -- 0 stands for none
  pub is_zero : refusal ≡ 0

-- The claim: what they leave is nine bytes of a valid state again, and after a start the process is open.
pub record LeavesValid : Type 0 where
  pub after_start : (p n t v : ℕ) (lent : List ℕ) → Accepted (start_refusal p n t lent) → ValidBytes (start_bytes p n t v lent)
  pub open_after_start : (p n t v : ℕ) (lent : List ℕ) → Accepted (start_refusal p n t lent) → state_refusal (start_bytes p n t v lent) ≡ 0
  pub after_close : (state heard : List ℕ) → Accepted (close_refusal state heard) → ValidBytes (close_state state heard)
