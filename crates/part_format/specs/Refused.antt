-- Demand 1 of the process part: refused calls change nothing, and their numbers are those of document 01 (document 00, demand 1; document 01, 'Refused
-- calls').
use Rattle.std.specs.Prelude.{List, ◌⊎◌, ◌≡◌, ℕ, ◌≤◌, ◌<◌, length}
use Rattle.part_format.specs.Start.{start_refusal, start_bytes}
use Rattle.part_format.specs.Speak.{speak_refusal, speak_yields, speak_answer, speak_output}
use Rattle.part_format.specs.Close.{close_refusal, close_state}

-- A call with this refusal is refused.
pub record Refused (refusal : ℕ) : Type 0 where
  -- 0 stands for none
  pub not_zero : 0 < refusal

-- The claim: whatever a refused call is given, its refusal is one of its operation's numbers, and every byte stays as it was.
pub record RefusedCallsChangeNothing : Type 0 where
  -- starting ("10 .. Nothing is written")
  pub starting : (p n t v : ℕ) (lent : List ℕ) → Refused (start_refusal p n t lent)
      → (start_refusal p n t lent ≡ 10) × (start_bytes p n t v lent ≡ lent)
  -- speaking ("10 .. 11 .. 9 .. State and output unchanged"); the state is lent to be read alone
  pub speaking : (state output : List ℕ) → Refused (speak_refusal state (length output))
      → ((speak_refusal state (length output) ≡ 10) ⊎ ((speak_refusal state (length output) ≡ 11) ⊎ (speak_refusal state (length output) ≡ 9)))
      × (speak_output state output ≡ output)
  -- closing ("10 and 11 as for speaking. 12 .. State unchanged")
  pub closing : (state heard : List ℕ) → Refused (close_refusal state heard)
      → ((close_refusal state heard ≡ 10) ⊎ ((close_refusal state heard ≡ 11) ⊎ (close_refusal state heard ≡ 12)))
      × (close_state state heard ≡ state)

-- An answer of speaking that counts the bytes yielded: 0 or 8, and the call is not refused.
pub record AnswersCount (state : List ℕ) (room : ℕ) : Type 0 where
  pub accepted : speak_refusal state room ≡ 0
  pub count : speak_answer state room ≡ length (speak_yields state room)
  pub size : (speak_answer state room ≡ 0) ⊎ (speak_answer state room ≡ 8)

-- An answer of speaking that is its refusal: 9 to 11.
pub record AnswersRefusal (state : List ℕ) (room : ℕ) : Type 0 where
  pub refusal : speak_answer state room ≡ speak_refusal state room
  pub least : 9 ≤ speak_answer state room
  pub most : speak_answer state room ≤ 11

-- The claim: the one number that speaking answers is the count or the refusal, and which of the two shows by its size (document 01, 'The desk part': "data
-- then commit (8 bytes) in the desk's own round, else no bytes"; 'Refused calls', "Speaking").
unfoldable pub SpeakAnswersApart : Type 0
SpeakAnswersApart = (state : List ℕ) (room : ℕ) → AnswersCount state room ⊎ AnswersRefusal state room
