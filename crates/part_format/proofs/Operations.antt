-- What starting and closing answer and leave, one law for each way that they end, and how much is sent. Assumes nothing.
use mathlib.Core.Path.{◌≡◌, refl, ◌∙◌, sym}
use mathlib.Core.List.{List}
use mathlib.Core.Logic.{◌⊎◌, inl, inr}
use mathlib.Core.Bool.{Bool, true, false}
use mathlib.Core.Option.{some, none}
use Prim.Native.Nat.{ℕ}
use lib.ListN.{length}
use lib.Dec.{eqb}
use borrow.Author.Tests.{eq-eqb, ne_eqb}
use Rattle.general.specs.BigEndian.{bytes_of}
use Rattle.coordinator.specs.Message.{estimate_and_commit, Messages}
use Rattle.coordinator.specs.Transition.{sends}
use Rattle.part_format.specs.PartState.{PartState, state_bytes, identity_valid, state_from, state_refusal, is_own_round}
use Rattle.part_format.specs.Start.{start_refusal, start_state, start_bytes}
use Rattle.part_format.specs.Frame.{data_frame, commit_frame, frames_of, heard_by}
use Rattle.part_format.specs.Speak.{spoken_by}
use Rattle.part_format.specs.Close.{closed_on, heard_refusal, close_refusal, close_on_heard, close_state}

-- What starting answers and leaves.
module _ (p n t v : ℕ) (lent : List ℕ) where
  module _ (identity : identity_valid p n t ≡ true) where
    pub start_written : (after : List ℕ) → length lent ≡ 9 → after ≡ state_bytes (start_state p n t v)
        → (0 ≡ start_refusal p n t lent) × (after ≡ start_bytes p n t v lent)
    unfolding start_refusal start_bytes
    start_written after h e = (simp (identity, eq-eqb), simp (identity, eq-eqb) e)

-- Data then commit are eight bytes.
pub length-frames : (r v : ℕ) → length (frames_of r (estimate_and_commit v)) ≡ 8
unfolding frames_of data_frame commit_frame bytes_of
length-frames r v = refl

-- So what an open process sends is eight bytes or none.
pub spoken_length : (s : PartState) → (length (spoken_by s) ≡ 0) ⊎ (length (spoken_by s) ≡ 8)
unfolding spoken_by frames_of sends
spoken_length s = by_round (is_own_round s)
  where
    by_round : (own : Bool) → (length (frames_of s.round (sends own s.value)) ≡ 0) ⊎ (length (frames_of s.round (sends own s.value)) ≡ 8)
    by_round true = inr (length-frames s.round s.value)
    by_round false = inl refl

-- What closing answers and leaves.
module _ (state heard : List ℕ) where
  pub close_refused_lem : (k : ℕ) → k ≡ state_refusal state → (k ≡ 0 → ⊥) → (k ≡ close_refusal state heard) × (state ≡ close_state state heard)
  unfolding close_refusal close_state
  close_refused_lem k e h =
      let refused : eqb (state_refusal state) 0 ≡ false = ne_eqb _ _ (λ z. h (e ∙ z)) in
      (simp refused e, simp refused)

  module _ (opened : state_refusal state ≡ 0) where
    pub close_no_form : none ≡ heard_by (state_from state) heard → (12 ≡ close_refusal state heard) × (state ≡ close_state state heard)
    unfolding close_refusal close_state heard_refusal close_on_heard
    close_no_form e = let f = sym e in (simp (opened, f), simp (opened, f))

    pub close_closed : (after : List ℕ) (m : Messages) → some m ≡ heard_by (state_from state) heard → after ≡ state_bytes (closed_on (state_from state) m)
        → (0 ≡ close_refusal state heard) × (after ≡ close_state state heard)
    unfolding close_refusal close_state heard_refusal close_on_heard
    close_closed after m e a = let f = sym e in (simp (opened, f), simp (opened, f) a)
