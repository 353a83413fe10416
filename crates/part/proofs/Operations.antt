-- What starting and speaking answer and leave, one law for each way that they end that part_format's laws leave. Assumes nothing.
use mathlib.Core.Path.{◌≡◌, ap, ◌∙◌}
use mathlib.Core.List.{List, [], ◌++◌}
use mathlib.Core.Bool.{true, false, and-false}
use Prim.Native.Nat.{ℕ, ◌≤◌, ◌<◌}
use native.Mathlib.Omega.{arith}
use lib.ListN.{length, get_or, take, drop}
use lib.Dec.{eqb, ltb}
use borrow.Author.Tests.{eq-eqb, ne_eqb, lt-ltb, le-ltb}
use Rattle.general.specs.BigEndian.{number}
use Rattle.coordinator.specs.Message.{estimate_and_commit}
use Rattle.coordinator.specs.Transition.{sends}
use Rattle.part_format.specs.PartState.{identity_valid, state_from, state_refusal, is_own_round}
use Rattle.part_format.specs.Start.{start_refusal, start_bytes}
use Rattle.part_format.specs.Frame.{frames_of}
use Rattle.part_format.specs.Speak.{spoken_by, speak_refusal, speak_yields, speak_answer, speak_output}
use Rattle.part_format.proofs.Operations.{length-frames}
use Rattle.part_format.proofs.Bytes.{value_from}

-- What starting answers and leaves where it is refused.
module _ (p n t v : ℕ) (lent : List ℕ) where
  pub start_length : (length lent ≡ 9 → ⊥) → (10 ≡ start_refusal p n t lent) × (lent ≡ start_bytes p n t v lent)
  unfolding start_refusal start_bytes
  start_length h = (simp (ne_eqb, and-false (identity_valid p n t)), simp (ne_eqb, and-false (identity_valid p n t)))

  pub start_identity : identity_valid p n t ≡ false → (10 ≡ start_refusal p n t lent) × (lent ≡ start_bytes p n t v lent)
  unfolding start_refusal start_bytes
  start_identity a = (simp a, simp a)

-- What speaking answers and leaves.
module _ (state output : List ℕ) where
  pub speak_refused_lem : (k : ℕ) → k ≡ state_refusal state → (k ≡ 0 → ⊥) → (k ≡ speak_answer state (length output)) × (output ≡ speak_output state output)
  unfolding speak_answer speak_output speak_yields speak_refusal
  speak_refused_lem k e h =
      let refused : eqb (state_refusal state) 0 ≡ false = ne_eqb _ _ (λ z. h (e ∙ z)) in
      (simp refused e, simp refused)

  module _ (opened : state_refusal state ≡ 0) where
    spoken_by_other : (get_or state 0 0 ≡ get_or state 3 0 → ⊥) → spoken_by (state_from state) ≡ []
    unfolding spoken_by is_own_round state_from sends frames_of
    spoken_by_other h = simp ne_eqb

    pub speak_silent : (get_or state 0 0 ≡ get_or state 3 0 → ⊥) → (0 ≡ speak_answer state (length output)) × (output ≡ speak_output state output)
    unfolding speak_answer speak_output speak_yields speak_refusal
    speak_silent h =
        let room : ltb (length output) 0 ≡ false = le-ltb (length output) 0 (omega arith) in
        (simp (opened, spoken_by_other h, room), simp (opened, spoken_by_other h, room))

    module _ (own : get_or state 0 0 ≡ get_or state 3 0) where
      spoken_by_own : spoken_by (state_from state) ≡ frames_of (get_or state 3 0) (estimate_and_commit (number (drop 5 state)))
      unfolding spoken_by is_own_round state_from sends
      spoken_by_own = simp eq-eqb

      pub speak_short : length output < 8 → (9 ≡ speak_answer state (length output)) × (output ≡ speak_output state output)
      unfolding speak_answer speak_output speak_yields speak_refusal
      speak_short h =
          let room : ltb (length output) 8 ≡ true = lt-ltb _ _ h in
          (simp (opened, spoken_by_own, length-frames, room), simp (opened, spoken_by_own, length-frames, room))

      pub speak_frames : (after : List ℕ) (v : ℕ) → 8 ≤ length output → length state ≡ 9 → v ≡ number (take 4 (drop 5 state))
          → after ≡ frames_of (get_or state 3 0) (estimate_and_commit v) ++ drop 8 output
          → (8 ≡ speak_answer state (length output)) × (after ≡ speak_output state output)
      unfolding speak_answer speak_output speak_yields speak_refusal
      speak_frames after v h nine ev e =
          let room : ltb (length output) 8 ≡ false = le-ltb _ _ h in
          let value : v ≡ number (drop 5 state) = ev ∙ ap number (value_from state nine) in
          (simp (opened, spoken_by_own, length-frames, room), simp (opened, spoken_by_own, length-frames, room, ← value) e)
