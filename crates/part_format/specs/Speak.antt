-- Speaking (document 01, 'The desk part' and 'Refused calls', "Speaking"). The state stays as it is.
use Rattle.std.specs.Prelude.{List, [], ◌++◌, ℕ, cond, not, eqb, ltb, length, drop}
use Rattle.coordinator.specs.Transition.{sends}
use Rattle.part_format.specs.PartState.{PartState, state_from, state_refusal, is_own_round}
use Rattle.part_format.specs.Frame.{frames_of}

-- The frames that an open process sends in its round: data then commit in its own, nothing in any other.
unfoldable pub spoken_by : PartState → List ℕ
spoken_by s = frames_of s.round (sends (is_own_round s) s.value)

-- 10 and 11 as for every state; 9, an output shorter than what is to be sent; 0: none.
unfoldable pub speak_refusal : (state : List ℕ) → (room : ℕ) → ℕ
speak_refusal state room =
    cond (not (eqb (state_refusal state) 0)) (state_refusal state)
    (cond (ltb room (length (spoken_by (state_from state)))) 9 0)

-- The bytes that speaking yields: none if it is refused.
unfoldable pub speak_yields : (state : List ℕ) → (room : ℕ) → List ℕ
speak_yields state room = cond (eqb (speak_refusal state room) 0) (spoken_by (state_from state)) []

-- The answer of speaking: its refusal, 9, 10 or 11; or the count of bytes yielded, 0 or 8.
unfoldable pub speak_answer : (state : List ℕ) → (room : ℕ) → ℕ
speak_answer state room = cond (eqb (speak_refusal state room) 0) (length (speak_yields state room)) (speak_refusal state room)

-- What the output holds afterwards.
unfoldable pub speak_output : (state output : List ℕ) → List ℕ
speak_output state output =
    let yielded = speak_yields state (length output) in
    yielded ++ drop (length yielded) output
