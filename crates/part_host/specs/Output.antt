-- What a host finds in the buffer that it lends a part to speak (document 01, 'The desk part': "Speaking yields data then commit (8 bytes)
-- in the desk's own round, else no bytes, and leaves the state; output bytes past those yielded stay").
use Rattle.std.specs.Prelude.{List, [], ◌≡◌, ℕ, ◌≤◌, ◌<◌, length, take, drop}
use Rattle.part_format.specs.Speak.{speak_refusal, speak_answer, speak_output}
use Rattle.part_host.specs.Part.{up, yielded}

-- Of a part with these nine bytes, called to speak into this buffer.
pub record FindsYielded (b output : List ℕ) : Type 0 where
  -- an answer up to 8 is the count of bytes that it yields, and they stand at the front
  pub front : speak_answer b (length output) ≤ 8 → take (speak_answer b (length output)) (speak_output b output) ≡ yielded (up b)
  pub counted : speak_answer b (length output) ≤ 8 → speak_answer b (length output) ≡ length (yielded (up b))
  -- an answer above 8 is a refusal, and it yields nothing
  pub refused : 8 < speak_answer b (length output) → (speak_answer b (length output) ≡ speak_refusal b (length output)) × (yielded (up b) ≡ [])
  -- the bytes behind stay
  pub behind : drop (length (yielded (up b))) (speak_output b output) ≡ drop (length (yielded (up b))) output

-- The claim: in every buffer with room for both frames stands what the host's definitions take the part to yield.
unfoldable pub OutputYielded : Type 0
OutputYielded = (b output : List ℕ) → 8 ≤ length output → FindsYielded b output
