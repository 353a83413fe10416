-- A process part as its host keeps it (document 01, 'The desk part': "keeps each desk's state as nine lent bytes").
use Rattle.std.specs.Prelude.{List, [], ℕ, ◌-◌, Bool, eqb, get_or}
use Rattle.part_format.specs.PartState.{state_from, mark_open}
use Rattle.part_format.specs.Speak.{speak_yields}

-- Up, with its nine bytes; or crashed in this round, with the nine bytes with which the round began (document 01: dark). A crashed part is not called again.
pub data Part : Type 0 where
  up : List ℕ → Part
  crashed_in : ℕ → List ℕ → Part

-- The part of process p among those of all.
unfoldable pub part_of : List Part → ℕ → Part
part_of parts p = get_or parts (p - 1) (crashed_in 0 [])

-- The nine bytes that its host keeps of it.
unfoldable pub bytes_kept : Part → List ℕ
bytes_kept (up b) = b
bytes_kept (crashed_in round b) = b

-- Whether nine bytes are those of a process that is up and undecided: mark 00.
unfoldable pub is_open : List ℕ → Bool
is_open b = eqb (state_from b).mark mark_open

-- The room that a part is given to speak: both frames.
unfoldable pub output_room : ℕ
output_room = 8

-- What a part yields when it is called to speak. A crashed part is not called.
unfoldable pub yielded : Part → List ℕ
yielded (up b) = speak_yields b output_room
yielded (crashed_in round b) = []
