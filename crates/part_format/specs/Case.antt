-- A case of the process part: a call, its answer, and every byte afterwards, written in hexadecimal (document 01, 'The desk part' and 'Refused calls').
use Rattle.std.specs.Prelude.{List, [], ◌∷◌, ℕ, ◌+◌, ◌-◌, ◌*◌, cond, eqb, ltb, length}
use Prim.Native.Char.{code}
use Prim.Native.String.{String}
use Rattle.part_format.specs.Start.{start_refusal, start_bytes}
use Rattle.part_format.specs.Speak.{speak_answer, speak_output}
use Rattle.part_format.specs.Close.{close_refusal, close_state}

-- The values of the digits 0-9 and A-F of a text; blanks, which set fields apart, count for nothing.
unfoldable pub digits_in : String → List ℕ
digits_in String.[] = []
digits_in (String.◌∷◌ c s) =
    let rest = digits_in s in
    cond (eqb (code c) 32) rest (cond (ltb (code c) 58) (code c - 48) (code c - 55) ∷ rest)

-- Two digits make a byte.
unfoldable pub paired : List ℕ → List ℕ
paired [] = []
paired (a ∷ []) = []
paired (a ∷ b ∷ digits) = (a * 16 + b) ∷ paired digits

-- The bytes that a text writes out.
unfoldable pub bytes_in : String → List ℕ
bytes_in text = paired (digits_in text)

pub data Case : Type 0 where
  -- starting: station, n, t, value and the bytes lent; the answer, and the lent bytes afterwards
  starting : (p n t v : ℕ) → (lent : String) → (answer : ℕ) → (after : String) → Case
  -- speaking: the state and the output; the answer, and the output afterwards (the state is lent to be read alone)
  speaking : (state output : String) → (answer : ℕ) → (after : String) → Case
  -- closing: the state and what was heard; the answer, and the state afterwards
  closing : (state heard : String) → (answer : ℕ) → (after : String) → Case
  -- a state that speaking and closing both refuse with this number, before they look at the output or at what was heard
  refusing : (state : String) → (answer : ℕ) → Case

-- The answer of speaking and the output afterwards; of closing, and the state afterwards.
unfoldable pub spoken : (state output : List ℕ) → List ℕ
spoken state output = speak_answer state (length output) ∷ speak_output state output

unfoldable pub closed : (state heard : List ℕ) → List ℕ
closed state heard = close_refusal state heard ∷ close_state state heard

-- An output with room for both frames, and heard bytes of none of the three forms.
unfoldable pub roomy : List ℕ
roomy = bytes_in "E1 E2 E3 E4 E5 E6 E7 E8 E9 EA EB EC"

unfoldable pub formless : List ℕ
formless = bytes_in "FF"

-- What the definitions give for a case, call by call: the answer, then the bytes.
-- A refused state is tried with room and without, and on nothing heard and on wrong bytes.
unfoldable pub gives : Case → List (List ℕ)
gives (starting p n t v lent answer after) = (start_refusal p n t (bytes_in lent) ∷ start_bytes p n t v (bytes_in lent)) ∷ []
gives (speaking state output answer after) = spoken (bytes_in state) (bytes_in output) ∷ []
gives (closing state heard answer after) = closed (bytes_in state) (bytes_in heard) ∷ []
gives (refusing state answer) =
    spoken (bytes_in state) roomy ∷ spoken (bytes_in state) [] ∷ closed (bytes_in state) [] ∷ closed (bytes_in state) formless ∷ []

-- What the case says.
unfoldable pub expected : Case → List (List ℕ)
expected (starting p n t v lent answer after) = (answer ∷ bytes_in after) ∷ []
expected (speaking state output answer after) = (answer ∷ bytes_in after) ∷ []
expected (closing state heard answer after) = (answer ∷ bytes_in after) ∷ []
expected (refusing state answer) = (answer ∷ roomy) ∷ (answer ∷ []) ∷ (answer ∷ bytes_in state) ∷ (answer ∷ bytes_in state) ∷ []
