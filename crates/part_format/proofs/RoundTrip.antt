-- States and messages come back from their bytes as they were, and a process takes the messages of frames of its round. Assumes nothing.
use mathlib.Core.Path.{◌≡◌, refl}
use mathlib.Core.Option.{some, none}
use mathlib.Core.Bool.{Bool, true, false, cond, not, ◌&&◌}
use Prim.Native.Nat.{ℕ, ◌^◌, ◌<◌}
use native.Mathlib.Omega.{arith}
use lib.Dec.{eqb}
use lib.ListN.{length}
use borrow.Author.Tests.{eq-eqb}
use Rattle.general.specs.BigEndian.{bytes_of}
use Rattle.general.proofs.BigEndian.{number_bytes}
use Rattle.coordinator.specs.Message.{Messages, nothing, estimate, estimate_and_commit}
use Rattle.part_format.specs.PartState.{PartState, state_bytes, state_from, is_own_round}
use Rattle.part_format.specs.Frame.{data_frame, commit_frame, frames_of, is_data_frame, is_commit_frame, messages_from, heard_by}
use Rattle.part_format.proofs.Carried.{Carried}

-- A state comes back from its nine bytes.
pub state_from_bytes : (s : PartState) → s.value < 2 ^ 32 → state_from (state_bytes s) ≡ s
unfolding state_from state_bytes
state_from_bytes s h = rw (number_bytes 4 s.value h)

-- Messages come back from their frames, read in the same round.
messages_from_frames : (r : ℕ) (m : Messages) → Carried m → messages_from r (frames_of r m) ≡ some m
unfolding messages_from frames_of data_frame commit_frame is_data_frame is_commit_frame Carried bytes_of
messages_from_frames r nothing h = refl
messages_from_frames r (estimate v) h = simp (eq-eqb r r refl, number_bytes 4 v h)
messages_from_frames r (estimate_and_commit v) h = simp (eq-eqb r r refl, number_bytes 4 v h)

-- In its own round a process hears no frame; in any other, those of its messages.
heard_of_lem : (own : Bool) (r : ℕ) (m : Messages) → Carried m → (own ≡ true → m ≡ nothing)
    → cond (own && not (eqb (length (frames_of r m)) 0)) none (messages_from r (frames_of r m)) ≡ some m
unfolding frames_of
heard_of_lem true r nothing c silent = messages_from_frames r nothing c
heard_of_lem true r (estimate v) c silent = let e = silent refl in let z : ◌≡◌ {A = ℕ} 0 1 = cc in absurd (omega arith)
heard_of_lem true r (estimate_and_commit v) c silent = let e = silent refl in let z : ◌≡◌ {A = ℕ} 0 1 = cc in absurd (omega arith)
heard_of_lem false r m c silent = messages_from_frames r m c

pub heard_frames : (s : PartState) (m : Messages) → Carried m → (is_own_round s ≡ true → m ≡ nothing) → heard_by s (frames_of s.round m) ≡ some m
unfolding heard_by
heard_frames s m c own = heard_of_lem (is_own_round s) s.round m c own
