-- Frames: the messages of a round as bytes (document 01, 'The desk part': "21, round, value for data; 22, round for commit").
use Rattle.std.specs.Prelude.{List, [], ◌∷◌, ◌++◌, ℕ, Bool, cond, not, ◌&&◌, eqb, length, get_or, take, drop}
use Rattle.std.proofs.Math.Option.{Option, some, none}
use Rattle.general.specs.BigEndian.{number, bytes_of}
use Rattle.coordinator.specs.Message.{Messages, nothing, estimate, estimate_and_commit}
use Rattle.part_format.specs.PartState.{PartState, is_own_round}

unfoldable pub data_frame : (r v : ℕ) → List ℕ
data_frame r v = 0x21 ∷ r ∷ bytes_of 4 v

unfoldable pub commit_frame : ℕ → List ℕ
commit_frame r = 0x22 ∷ r ∷ []

-- The frames of round r that carry these messages.
unfoldable pub frames_of : ℕ → Messages → List ℕ
frames_of r nothing = []
frames_of r (estimate v) = data_frame r v
frames_of r (estimate_and_commit v) = data_frame r v ++ commit_frame r

-- Six bytes are a data frame of round r; two are a commit frame of it.
unfoldable pub is_data_frame : (r : ℕ) → List ℕ → Bool
is_data_frame r b = eqb (length b) 6 && eqb (get_or b 0 0) 0x21 && eqb (get_or b 1 0) r

unfoldable pub is_commit_frame : (r : ℕ) → List ℕ → Bool
is_commit_frame r b = eqb (length b) 2 && eqb (get_or b 0 0) 0x22 && eqb (get_or b 1 0) r

-- The messages that bytes carry in round r: nothing, data, or data then commit; other bytes carry none.
unfoldable pub messages_from : (r : ℕ) → List ℕ → Option Messages
messages_from r b =
    let v = number (take 4 (drop 2 b)) in
    cond (eqb (length b) 0) (some nothing)
    (cond (is_data_frame r b) (some (estimate v))
    (cond (is_data_frame r (take 6 b) && is_commit_frame r (drop 6 b)) (some (estimate_and_commit v))
    none))

-- What a process takes in a round: its messages; in its own round no byte.
unfoldable pub heard_by : PartState → List ℕ → Option Messages
heard_by s heard = cond (is_own_round s && not (eqb (length heard) 0)) none (messages_from s.round heard)
