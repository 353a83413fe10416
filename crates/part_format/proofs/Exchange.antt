-- Speaking and closing over the bytes of states and of messages: the operations are the transition, whatever the bytes. Assumes nothing.
use mathlib.Core.Path.{◌≡◌, sym, ◌∙◌}
use mathlib.Core.Option.{some}
use mathlib.Core.Bool.{true}
use Prim.Native.Nat.{ℕ, ◌≤◌, ◌<◌, ◌^◌}
use Rattle.coordinator.specs.Message.{Messages, nothing}
use Rattle.coordinator.specs.Transition.{sends}
use Rattle.part_format.specs.PartState.{PartState, state_bytes, state_from, state_valid, is_own_round}
use Rattle.part_format.specs.Frame.{frames_of, heard_by}
use Rattle.part_format.specs.Speak.{spoken_by, speak_refusal, speak_yields}
use Rattle.part_format.specs.Close.{closed_on, close_refusal, close_state}
use Rattle.part_format.proofs.Carried.{Carried}
use Rattle.part_format.proofs.RoundTrip.{state_from_bytes, heard_frames}
use Rattle.part_format.proofs.ValidBytes.{open_bytes}
use Rattle.part_format.proofs.Operations.{close_closed}
use Rattle.part_format.proofs.Room.{room_enough}

module _ (s : PartState) (valid : state_valid s ≡ true) (open-mark : s.mark ≡ 0) (small : s.value < 2 ^ 32) where
  -- Speaking with room for both frames is not refused, and yields the frames of what the process sends.
  module _ (room : ℕ) (enough : 8 ≤ room) where
    pub speak_taken : speak_refusal (state_bytes s) room ≡ 0
    speak_taken = room_enough (state_bytes s) room enough ∙ open_bytes s valid open-mark

    pub speak_yields_lem : speak_yields (state_bytes s) room ≡ frames_of s.round (sends (is_own_round s) s.value)
    unfolding speak_yields spoken_by
    speak_yields_lem = simp (speak_taken, state_from_bytes s small)

  -- Closing on the frames of messages of this round is the transition on them; in its own round a process receives none.
  pub close_on_frames : (m : Messages) → Carried m → (is_own_round s ≡ true → m ≡ nothing)
      → (close_refusal (state_bytes s) (frames_of s.round m) ≡ 0) × (close_state (state_bytes s) (frames_of s.round m) ≡ state_bytes (closed_on s m))
  close_on_frames m c own =
      let same = state_from_bytes s small in
      let heard : some m ≡ heard_by (state_from (state_bytes s)) (frames_of s.round m) = rw same (sym (heard_frames s m c own)) in
      let after : state_bytes (closed_on s m) ≡ state_bytes (closed_on (state_from (state_bytes s)) m) = rw same in
      let closed = close_closed (state_bytes s) (frames_of s.round m) (open_bytes s valid open-mark) (state_bytes (closed_on s m)) m heard after in
      (sym closed.0, sym closed.1)
