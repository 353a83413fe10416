-- Each call of the process part answers and leaves just what document 01's words give. Assumes nothing.
use mathlib.Core.List.{List}
use mathlib.Core.Option.{Option, some, none}
use mathlib.Core.Path.{◌≡◌, refl, sym, ap, ◌∙◌}
use mathlib.Core.Bool.{Bool, true, false, ◌&&◌}
use Prim.Native.Nat.{ℕ, suc, ◌≤◌}
use native.Mathlib.Omega.{arith}
use borrow.Author.Tests.{eqb-true, eq-eqb, ne_eqb, lt-ltb, le-ltb}
use lib.Dec.{eqb, ltb}
use lib.ListN.{length, get_or}
use Rattle.general.specs.BigEndian.{bytes_of}
use Rattle.general.proofs.Tests.{true_false, both, by_order, by_equal, refuted}
use Rattle.general.proofs.Bytes.{Bytes}
use Rattle.coordinator.specs.Message.{Messages, nothing, estimate, estimate_and_commit}
use Rattle.coordinator.specs.Transition.{continues, sends, receives}
use Rattle.part_format.specs.PartState.{identity_valid, state_bytes, state_from, state_refusal, is_own_round}
use Rattle.part_format.specs.Frame.{data_frame, commit_frame, frames_of, heard_by}
use Rattle.part_format.specs.Start.{start_state, start_refusal, start_bytes}
use Rattle.part_format.specs.Speak.{spoken_by, speak_refusal, speak_yields, speak_answer, speak_output}
use Rattle.part_format.specs.Close.{state_after, closed_on, close_refusal, close_state}
use Rattle.part_format.proofs.Valid.{identity_holds}
use Rattle.part_format.proofs.ValidBytes.{valid_taken}
use Rattle.part_format.proofs.Leaves.{leaves_valid}
use Rattle.part_format.proofs.Carried.{Carried}
use Rattle.part_format.proofs.RoundTrip.{heard_frames}
use Rattle.part_format.proofs.Operations.{close_refused_lem, close_no_form, close_closed}
use Rattle.part_laws.specs.ValidState.{station_of, n_of, t_of, round_of, mark_of, value_of, ValidState, OpenState}
use Rattle.part_laws.specs.PartCalls.{data_bytes, commit_bytes, Startable, Starts, outside, started, Speaks, not_valid, not_open, too_short, in_own_round, in_others_round, Takes, nothing_heard, data_heard}
use Rattle.part_laws.specs.PartCalls.{commit_heard, with_round, GoesOn, round_rises, rounds_over, Closes, no_state, no_open_state, not_taken, decides_own, keeps, adopts, decides, PartCalls}
use Rattle.part_laws.proofs.ValidState.{identified, identity_of, refusal_10, refusal_11, refusal_none, by_state, valid_state, open_state_lem}
use Rattle.part_laws.proofs.Heard.{Carries, none_sent, data_sent_lem, both_sent, Taken, taken}

-- ---- starting

module _ (p n t v : ℕ) (lent : List ℕ) where
  startable : (identity_valid p n t && eqb (length lent) 9) ≡ true → Startable p n t lent
  startable e =
      let parts = both (identity_valid p n t) (eqb (length lent) 9) e in
      record { identified = identified p n t parts.0; nine = eqb-true _ _ parts.1 }

  start_answered : (answer : ℕ) (after : List ℕ) → Starts p n t v lent answer after → (answer ≡ start_refusal p n t lent) × (after ≡ start_bytes p n t v lent)
  unfolding start_refusal start_bytes start_state state_bytes
  start_answered answer after (outside never) =
      let refused : (identity_valid p n t && eqb (length lent) 9) ≡ false = sym (refuted (identity_valid p n t && eqb (length lent) 9) (λ e. never (startable e))) in
      (rw refused refl, rw refused refl)
  start_answered answer after (started h) =
      let accepted : identity_valid p n t ≡ true = identity_holds (identity_of p n t h.identified) in
      let nine : eqb (length lent) 9 ≡ true = eq-eqb (length lent) 9 h.nine in
      (rw (accepted, nine) refl, rw (accepted, nine) refl)

  starts : Starts p n t v lent (start_refusal p n t lent) (start_bytes p n t v lent)
  starts = by_test (identity_valid p n t && eqb (length lent) 9) refl
    where
      so : {answer : ℕ} {after : List ℕ} → Starts p n t v lent answer after → Starts p n t v lent (start_refusal p n t lent) (start_bytes p n t v lent)
      so {answer} {after} h = let same = start_answered answer after h in rw (same.0, same.1) at h

      refused : (identity_valid p n t && eqb (length lent) 9) ≡ false → Startable p n t lent → ⊥
      refused e h =
          let accepted : identity_valid p n t ≡ true = identity_holds (identity_of p n t h.identified) in
          true_false (sym (rw (accepted, eq-eqb (length lent) 9 h.nine) refl) ∙ e)

      by_test : (good : Bool) → (identity_valid p n t && eqb (length lent) 9) ≡ good → Starts p n t v lent (start_refusal p n t lent) (start_bytes p n t v lent)
      by_test true e = so (started (startable e))
      by_test false e = so (outside (refused e))

-- ---- the round of a state: its own, or another's

own_round_lem : (state : List ℕ) → round_of state ≡ station_of state → is_own_round (state_from state) ≡ true
unfolding is_own_round state_from round_of station_of
own_round_lem state e = eq-eqb (get_or state 0 0) (get_or state 3 0) (sym e)

others_round : (state : List ℕ) → (round_of state ≡ station_of state → ⊥) → is_own_round (state_from state) ≡ false
unfolding is_own_round state_from round_of station_of
others_round state never = ne_eqb (get_or state 0 0) (get_or state 3 0) (λ e. never (sym e))

-- ---- speaking

module _ (state output : List ℕ) where
  -- A refused call.
  speak_refused_lem : (number : ℕ) → speak_refusal state (length output) ≡ number → (number ≡ 0 → ⊥)
      → (number ≡ speak_answer state (length output)) × (output ≡ speak_output state output)
  unfolding speak_answer speak_output speak_yields
  speak_refused_lem number e apart = (rw (e, ne_eqb number 0 apart) refl, rw (e, ne_eqb number 0 apart) refl)

  state_refused : (number : ℕ) → state_refusal state ≡ number → (number ≡ 0 → ⊥) → speak_refusal state (length output) ≡ number
  unfolding speak_refusal
  state_refused number e apart = rw (e, ne_eqb number 0 apart) refl

  speak_answered : (answer : ℕ) (after : List ℕ) → Speaks state output answer after
      → (answer ≡ speak_answer state (length output)) × (after ≡ speak_output state output)
  unfolding speak_answer speak_output speak_yields speak_refusal spoken_by sends frames_of data_frame commit_frame data_bytes commit_bytes bytes_of state_from round_of value_of
  speak_answered answer after (not_valid never) =
      speak_refused_lem 10 (state_refused 10 (refusal_10 state never) (λ z. omega (arith, z))) (λ z. omega (arith, z))
  speak_answered answer after (not_open valid marked) =
      speak_refused_lem 11 (state_refused 11 (refusal_11 state valid marked) (λ z. omega (arith, z))) (λ z. omega (arith, z))
  speak_answered answer after (too_short opened own short) =
      speak_refused_lem 9 (rw (refusal_none state opened, own_round_lem state own, lt-ltb (length output) 8 short) refl) (λ z. omega (arith, z))
  speak_answered answer after (in_own_round opened own room) = (
    rw (refusal_none state opened, own_round_lem state own, le-ltb (length output) 8 room) refl,
    rw (refusal_none state opened, own_round_lem state own, le-ltb (length output) 8 room) refl,
  )
  speak_answered answer after (in_others_round opened other) =
      let room : ltb (length output) 0 ≡ false = le-ltb (length output) 0 (omega arith) in
      (rw (refusal_none state opened, others_round state other, room) refl, rw (refusal_none state opened, others_round state other, room) refl)

  speaks : Speaks state output (speak_answer state (length output)) (speak_output state output)
  speaks =
      by_state state (λ never. so (not_valid never)) (λ valid marked. so (not_open valid marked))
      (λ opened.
      by_equal (round_of state) (station_of state)
      (λ own. by_order 8 (length output) (λ room. so (in_own_round opened own room)) (λ short. so (too_short opened own short)))
      (λ other. so (in_others_round opened other)))
    where
      so : {answer : ℕ} {after : List ℕ} → Speaks state output answer after
          → Speaks state output (speak_answer state (length output)) (speak_output state output)
      so {answer} {after} h = let same = speak_answered answer after h in rw (same.0, same.1) at h

-- ---- closing

module _ (state heard : List ℕ) where
  -- An accepted close on these messages.
  close_on : (m : Messages) (after : List ℕ) → OpenState state → Carried m → heard ≡ frames_of (round_of state) m
      → (is_own_round (state_from state) ≡ true → m ≡ nothing) → after ≡ state_bytes (closed_on (state_from state) m)
      → (0 ≡ close_refusal state heard) × (after ≡ close_state state heard)
  unfolding state_from round_of
  close_on m after opened carried frames own left =
      let received : heard_by (state_from state) heard ≡ some m = ap (heard_by (state_from state)) frames ∙ heard_frames (state_from state) m carried own in
      close_closed state heard (refusal_none state opened) after m (sym received) left

  -- An undecided process at the end of the round.
  goes_on_lem : (v : ℕ) (after : List ℕ) → GoesOn state v after → after ≡ state_bytes (state_after (state_from state) (continues v))
  unfolding state_after state_bytes state_from with_round station_of n_of t_of round_of
  goes_on_lem v after (round_rises low) = rw (ne_eqb (get_or state 3 0) (suc (get_or state 2 0)) (λ e. omega (arith, e, low))) refl
  goes_on_lem v after (rounds_over last) = rw (eq-eqb (get_or state 3 0) (suc (get_or state 2 0)) last, last) refl

  module _ (each : Bytes heard) where
    -- Bytes that are taken carry messages, and those that are not carry none.
    takes : (m : Messages) → heard_by (state_from state) heard ≡ some m → Takes state heard
    unfolding state_from round_of data_frame commit_frame data_bytes commit_bytes
    takes m e = by_case t.carries
      where
        t : Taken (state_from state) heard m
        t = taken (state_from state) heard m each e

        by_case : {k : Messages} → Carries (round_of state) heard k → Takes state heard
        by_case (none_sent nothing-there) = nothing_heard nothing-there
        by_case (data_sent_lem v fits frames) =
            by_equal (round_of state) (station_of state) (λ own. nothing_heard (t.own (own_round_lem state own))) (λ other. data_heard other v fits frames)
        by_case (both_sent v fits frames) =
            by_equal (round_of state) (station_of state) (λ own. nothing_heard (t.own (own_round_lem state own))) (λ other. commit_heard other v fits frames)

    no_messages : (Takes state heard → ⊥) → (m : Option Messages) → heard_by (state_from state) heard ≡ m → none ≡ m
    no_messages never none e = refl
    no_messages never (some m) e = absurd (never (takes m e))

    -- What is taken is heard.
    frames_taken : Takes state heard → (m : Messages) × (heard_by (state_from state) heard ≡ some m)
    unfolding Carried frames_of data_frame commit_frame data_bytes commit_bytes state_from round_of
    frames_taken (nothing_heard silent) = (nothing, ap (heard_by (state_from state)) silent ∙ heard_frames (state_from state) nothing tt (λ z. refl))
    frames_taken (data_heard other v fits frames) = (
      estimate v,
      ap (heard_by (state_from state)) frames
          ∙ heard_frames (state_from state) (estimate v) fits (λ own. absurd (true_false (sym own ∙ others_round state other))),
    )
    frames_taken (commit_heard other v fits frames) = (
      estimate_and_commit v,
      ap (heard_by (state_from state)) frames
          ∙ heard_frames (state_from state) (estimate_and_commit v) fits (λ own. absurd (true_false (sym own ∙ others_round state other))),
    )

    nothing_taken : heard_by (state_from state) heard ≡ none → Takes state heard → ⊥
    nothing_taken e t =
        let given = frames_taken t in
        let clash : some given.0 ≡ none = sym given.1 ∙ e in
        let z : ◌≡◌ {A = ℕ} 0 1 = cc in
        omega (arith, z)

    close_answered : (answer : ℕ) (after : List ℕ) → Closes state heard answer after → (answer ≡ close_refusal state heard) × (after ≡ close_state state heard)
    unfolding Carried closed_on receives frames_of data_frame commit_frame data_bytes commit_bytes state_from state_bytes with_round state_after station_of n_of t_of round_of value_of
    close_answered answer after (no_state never) = close_refused_lem state heard 10 (sym (refusal_10 state never)) (λ z. omega (arith, z))
    close_answered answer after (no_open_state valid marked) = close_refused_lem state heard 11 (sym (refusal_11 state valid marked)) (λ z. omega (arith, z))
    close_answered answer after (not_taken opened never) =
        close_no_form state heard (refusal_none state opened) (no_messages never (heard_by (state_from state) heard) refl)
    close_answered answer after (decides_own opened own silent) =
        close_on nothing after opened tt silent (λ z. refl) (rw (own_round_lem state own) refl)
    close_answered answer after (keeps opened other silent goes) =
        close_on nothing after opened tt silent (λ z. refl) (rw (others_round state other) (goes_on_lem (value_of state) after goes))
    close_answered answer after (adopts v opened other fits frames goes) =
        close_on (estimate v) after opened fits frames (λ own. absurd (true_false (sym own ∙ others_round state other)))
        (rw (others_round state other) (goes_on_lem v after goes))
    close_answered answer after (decides v opened other fits frames) =
        close_on (estimate_and_commit v) after opened fits frames (λ own. absurd (true_false (sym own ∙ others_round state other)))
        (rw (others_round state other) refl)

    -- One of the words' cases is there.
    so : {answer : ℕ} {after : List ℕ} → Closes state heard answer after → Closes state heard (close_refusal state heard) (close_state state heard)
    so {answer} {after} h = let same = close_answered answer after h in rw (same.0, same.1) at h

    -- An open process whose round is not the last, or the last.
    on : (v : ℕ) → OpenState state → ((after : List ℕ) → GoesOn state v after → Closes state heard (close_refusal state heard) (close_state state heard))
        → Closes state heard (close_refusal state heard) (close_state state heard)
    on v opened step =
        let small : mark_of state ≤ 1 = omega (arith, opened.unmarked) in
        let within = opened.valid.in_rounds small in
        by_order (round_of state) (t_of state) (λ low. step _ (round_rises low)) (λ last. step _ (rounds_over (omega (arith, last, within.1))))

    closes_taken : OpenState state → Takes state heard → Closes state heard (close_refusal state heard) (close_state state heard)
    closes_taken opened (nothing_heard silent) =
        by_equal (round_of state) (station_of state) (λ own. so (decides_own opened own silent))
        (λ other. on (value_of state) opened (λ after goes. so (keeps opened other silent goes)))
    closes_taken opened (data_heard other v fits frames) = on v opened (λ after goes. so (adopts v opened other fits frames goes))
    closes_taken opened (commit_heard other v fits frames) = so (decides v opened other fits frames)

    closes_open : OpenState state → (m : Option Messages) → heard_by (state_from state) heard ≡ m
        → Closes state heard (close_refusal state heard) (close_state state heard)
    closes_open opened (some m) e = closes_taken opened (takes m e)
    closes_open opened none e = so (not_taken opened (nothing_taken e))

    closes : Closes state heard (close_refusal state heard) (close_state state heard)
    closes =
        by_state state (λ never. so (no_state never)) (λ valid marked. so (no_open_state valid marked))
        (λ opened. closes_open opened (heard_by (state_from state) heard) refl)

-- ---- what is left

start_leaves_open : (p n t v : ℕ) (lent after : List ℕ) → Starts p n t v lent 0 after → OpenState after
start_leaves_open p n t v lent after h =
    let same = start_answered p n t v lent 0 after h in
    let taken : start_refusal p n t lent ≡ 0 = sym same.0 in
    rw same.1 (open_state_lem (start_bytes p n t v lent) (leaves_valid.open_after_start p n t v lent (record { is_zero = taken })))

close_leaves_valid : (state heard after : List ℕ) → Bytes heard → Closes state heard 0 after → ValidState after
close_leaves_valid state heard after each h =
    let same = close_answered state heard each 0 after h in
    let taken : close_refusal state heard ≡ 0 = sym same.0 in
    rw same.1
    (valid_state (close_state state heard) (valid_taken (close_state state heard) (leaves_valid.after_close state heard (record { is_zero = taken }))))

-- ---- the claim

pub part_calls : PartCalls
part_calls =
    record {
      starting = starts;
      starting_only = λ p n t v answer lent after h. start_answered p n t v lent answer after h;
      speaking = speaks;
      speaking_only = λ answer state output after h. speak_answered state output answer after h;
      closing = closes;
      closing_only = λ answer state heard after each h. close_answered state heard each answer after h;
      start_leaves = start_leaves_open;
      close_leaves = close_leaves_valid;
    }
