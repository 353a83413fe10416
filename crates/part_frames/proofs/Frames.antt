-- The messages that bytes carry, and those that a process takes, one law for each way that the reader ends. Assumes nothing.
use mathlib.Core.Path.{◌≡◌, refl, ◌∙◌}
use mathlib.Core.List.{List}
use mathlib.Core.Option.{some, none}
use mathlib.Core.Bool.{Bool, true, false, ◌&&◌, and-false}
use Prim.Native.Nat.{ℕ, ◌≤◌}
use native.Mathlib.Omega.{arith}
use lib.Dec.{eqb}
use lib.ListN.{length, get_or, take, drop, length-drop}
use lib.Seq.{take_all, length-take-le, get_or-take, get_or-drop}
use borrow.Author.Tests.{eq-eqb, ne_eqb}
use Rattle.general.specs.BigEndian.{number}
use Rattle.coordinator.specs.Message.{nothing, estimate, estimate_and_commit}
use Rattle.part_format.specs.PartState.{state_from, is_own_round}
use Rattle.part_format.specs.Frame.{is_data_frame, is_commit_frame, messages_from, heard_by}

-- A frame of this kind and of round r starts at `at`, where `next` is the place after it.
abbrev pub starts : List ℕ → (at next kind r : ℕ) → Bool
starts b at next kind r = eqb (get_or b at 0) kind && eqb (get_or b next 0) r

and_none : (a b c : Bool) → (b && c) ≡ false → (a && b && c) ≡ false
and_none true b c e = e
and_none false b c e = refl

module _ (r : ℕ) (b : List ℕ) where
  no_data_frame : starts b 0 1 0x21 r ≡ false → is_data_frame r b ≡ false
  unfolding is_data_frame
  no_data_frame e = and_none (eqb (length b) 6) (eqb (get_or b 0 0) 0x21) (eqb (get_or b 1 0) r) e

  other_size : (length b ≡ 6 → ⊥) → is_data_frame r b ≡ false
  unfolding is_data_frame
  other_size h = simp ne_eqb

  first_six : 6 ≤ length b → is_data_frame r (take 6 b) ≡ starts b 0 1 0x21 r
  unfolding is_data_frame
  first_six h =
      let six : length (take 6 b) ≡ 6 = length-take-le 6 b h in
      rw (six, get_or-take 6 b 0 0 (omega arith), get_or-take 6 b 1 0 (omega arith))

  last_two : length b ≡ 8 → is_commit_frame r (drop 6 b) ≡ starts b 6 7 0x22 r
  unfolding is_commit_frame
  last_two h =
      let two : length (drop 6 b) ≡ 2 = length-drop 6 b ∙ omega arith in
      rw (two, get_or-drop 6 b 0 0, get_or-drop 6 b 1 0)

  no_last_two : (length b ≡ 8 → ⊥) → is_commit_frame r (drop 6 b) ≡ false
  unfolding is_commit_frame
  no_last_two h =
      let other : length (drop 6 b) ≡ 2 → ⊥ = λ e. omega (arith, length-drop 6 b) in
      simp ne_eqb

  pub heard_nothing : length b ≡ 0 → some nothing ≡ messages_from r b
  unfolding messages_from
  heard_nothing h = simp eq-eqb

  module _ (some_bytes : length b ≡ 0 → ⊥) where
    pub heard_other_size : (length b ≡ 6 → ⊥) → (length b ≡ 8 → ⊥) → none ≡ messages_from r b
    unfolding messages_from
    heard_other_size h g = simp (ne_eqb, other_size h, no_last_two g, and-false (is_data_frame r (take 6 b)))

    module _ (six : 6 ≤ length b) where
      pub heard_no_data : starts b 0 1 0x21 r ≡ false → none ≡ messages_from r b
      unfolding messages_from
      heard_no_data e = simp (ne_eqb, no_data_frame e, first_six six, e)

      module _ (first : starts b 0 1 0x21 r ≡ true) where
        pub heard_data : (v : ℕ) → v ≡ number (take 4 (drop 2 b)) → length b ≡ 6 → some (estimate v) ≡ messages_from r b
        unfolding messages_from
        heard_data v ev h =
            let all : take 6 b ≡ b = take_all 6 b (omega arith) in
            let frame : is_data_frame r b ≡ true = rw all at (first_six six ∙ first) in
            simp (ne_eqb, frame, ev)

        module _ (eight : length b ≡ 8) where
          pub heard_no_commit : starts b 6 7 0x22 r ≡ false → none ≡ messages_from r b
          unfolding messages_from
          heard_no_commit e =
              let other : length b ≡ 6 → ⊥ = λ h. omega arith in
              simp (ne_eqb, other_size other, first_six six, first, last_two eight, e)

          pub heard_both : (v : ℕ) → v ≡ number (take 4 (drop 2 b)) → starts b 6 7 0x22 r ≡ true → some (estimate_and_commit v) ≡ messages_from r b
          unfolding messages_from
          heard_both v ev e =
              let other : length b ≡ 6 → ⊥ = λ h. omega arith in
              simp (ne_eqb, other_size other, first_six six, first, last_two eight, e, ev)

-- What a process takes of the bytes heard.
module _ (state heard : List ℕ) where
  pub heard_by_other : (get_or state 0 0 ≡ get_or state 3 0 → ⊥) → messages_from (get_or state 3 0) heard ≡ heard_by (state_from state) heard
  unfolding heard_by is_own_round state_from
  heard_by_other h = simp ne_eqb

  module _ (own : get_or state 0 0 ≡ get_or state 3 0) where
    pub heard_by_own_bytes : (length heard ≡ 0 → ⊥) → none ≡ heard_by (state_from state) heard
    unfolding heard_by is_own_round state_from
    heard_by_own_bytes h = simp (eq-eqb, ne_eqb)

    pub heard_by_own : length heard ≡ 0 → some nothing ≡ heard_by (state_from state) heard
    unfolding heard_by is_own_round state_from
    heard_by_own h = simp (eq-eqb, heard_nothing (get_or state 3 0) heard h)
