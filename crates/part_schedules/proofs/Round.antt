-- One round in whatever order leaves what the base's host has after that round (`round_in_order`). For well-formed instances. Assumes nothing else.
use mathlib.Core.List.{List, [], ◌∷◌, ◌++◌, map}
use mathlib.Core.Path.{◌≡◌, refl, sym, ap, subst, ◌∙◌}
use mathlib.Core.Bool.{Bool, true, false, ◌&&◌}
use Prim.Native.Nat.{ℕ, suc, ◌≤◌}
use native.Mathlib.Omega.{arith}
use lib.ListN.{length}
use Rattle.general.proofs.Indexed.{length-map_from, map_from_at}
use Rattle.general.specs.Indexed.{map_from}
use Rattle.general.proofs.Tests.{by_order, by_equal, both}
use Rattle.consensus.specs.Instance.{Instance, fault_of}
use Rattle.consensus.specs.State.{crashes_in}
use Rattle.consensus.specs.Consensus.{IsProcess}
use Rattle.coordinator.specs.WellFormed.{WellFormed}
use Rattle.coordinator_laws.proofs.Pointwise.{state_at_lem}
use Rattle.part_host.specs.Part.{Part, up, crashed_in, part_of, is_open, yielded}
use Rattle.part_host.specs.Hearing.{let_through, heard}
use Rattle.part_host.specs.Host.{part_after, parts_to}
use Rattle.part_host.proofs.Places.{part_after_lem}
use Rattle.part_host.proofs.Hearing.{heard_from_one}
use Rattle.part_host.proofs.Alike.{others_silent}
use Rattle.part_host.proofs.DecideAlike.{parts_alike}
use Rattle.part_schedules.specs.Steps.{Spoken, Hosted, speak, close, round_over, heard_of, frames_yielded, with_bytes, closed_with, left_after, step, play}
use Rattle.part_schedules.specs.Schedule.{RoundOrder, round_steps, times_called, is_up, up_and_open, crashes_now, crashes_unsent, must_speak, may_speak, must_close, may_close, Calls, RoundInOrder}
use Rattle.part_schedules.proofs.Turns.{parts_ext, repeated, repeated_stays, changed_in_turn, length_in_turn, in_turn}
use Rattle.part_schedules.proofs.Phases.{said, play_append, all_spoken, all_closed}
use Rattle.part_schedules.proofs.Heard.{nothing_through, unsent_unheard, none_heard, one_heard}
use Rattle.part_schedules.proofs.Waiting.{closed_stays, up_yields, ended_yields_nothing, open_up, open_within, as_many}

and-false : (b : Bool) → (b && false) ≡ false
and-false true = refl
and-false false = refl

-- What a host keeps when rounds 1 to r are over.
abbrev pub at_round : Instance → ℕ → Hosted
at_round x r = record { round = suc r; parts = parts_to x r; spoken = [] }

-- What was yielded when all have spoken in the next round.
abbrev pub spoken_now : Instance → ℕ → RoundOrder → List Spoken
spoken_now x r order = map (said (parts_to x r)) order.speaking

module _ (x : Instance) (formed : WellFormed x) (r : ℕ) where
  -- Of those that may speak only the coordinator of the round yields anything.
  silent_others : r ≤ x.resilience → (q : ℕ) → IsProcess x q → (q ≡ suc r → ⊥) → yielded (part_of (parts_to x r) q) ≡ []
  silent_others within q process other =
      others_silent x formed r q within process other (sym (state_at_lem x r q (omega arith) process.first (omega arith)))
      (parts_alike x formed r q (omega arith) process)

  -- What an open process hears of what was yielded, in whatever order.
  module _ (speaking : List ℕ) (calls : Calls x (must_speak x (at_round x r)) (may_speak (at_round x r)) speaking) (within : r ≤ x.resilience) (p : ℕ) where
    -- Whoever is called yields what it would in the base's host.
    yields_as : (q : ℕ) → 1 ≤ times_called q speaking → frames_yielded (part_of (parts_to x r) q) ≡ yielded (part_of (parts_to x r) q)
    unfolding may_speak
    yields_as q called = up_yields (part_of (parts_to x r) q) (calls.only q called).1

    unheard : (q : ℕ) → 1 ≤ times_called q speaking → yielded (part_of (parts_to x r) q) ≡ [] → let_through x (suc r) q p (frames_yielded (part_of (parts_to x r) q)) ≡ []
    unheard q called none = ap (let_through x (suc r) q p) (yields_as q called ∙ none) ∙ nothing_through x (suc r) p q

    others_unheard : (q : ℕ) → 1 ≤ times_called q speaking → (q ≡ suc r → ⊥) → let_through x (suc r) q p (frames_yielded (part_of (parts_to x r) q)) ≡ []
    others_unheard q called other = unheard q called (silent_others within q (calls.only q called).0 other)

    -- Where the coordinator is not heard nobody is.
    all_unheard : (1 ≤ times_called (suc r) speaking → let_through x (suc r) (suc r) p (frames_yielded (part_of (parts_to x r) (suc r))) ≡ [])
        → heard_of x (suc r) p (map (said (parts_to x r)) speaking) ≡ []
    all_unheard own =
        none_heard x (suc r) p (parts_to x r) speaking
        (λ q called. by_equal q (suc r)
        (λ same. ap (λ (k : ℕ). let_through x (suc r) k p (frames_yielded (part_of (parts_to x r) k))) same ∙ own (subst (λ (k : ℕ). 1 ≤ times_called k speaking) same called))
        (others_unheard q called))

    by_coordinator : (open-now unsent : Bool) → up_and_open (part_of (parts_to x r) (suc r)) ≡ open-now → crashes_unsent (suc r) (fault_of x (suc r)) ≡ unsent
        → heard_of x (suc r) p (map (said (parts_to x r)) speaking) ≡ let_through x (suc r) (suc r) p (yielded (part_of (parts_to x r) (suc r)))
    unfolding must_speak
    by_coordinator true true e f = all_unheard (λ called. unsent_unheard x (suc r) p (suc r) _ f) ∙ sym (unsent_unheard x (suc r) p (suc r) _ f)
    by_coordinator true false e f =
        one_heard x (suc r) p (parts_to x r) (suc r) speaking
        (calls.once (suc r) (record { first = omega arith; last = omega arith }) (rw (e, f) refl)) others_unheard
        ∙ ap (let_through x (suc r) (suc r) p) (up_yields (part_of (parts_to x r) (suc r)) (open_up (part_of (parts_to x r) (suc r)) e))
    by_coordinator false unsent e f =
        let none : yielded (part_of (parts_to x r) (suc r)) ≡ [] = ended_yields_nothing (part_of (parts_to x r) (suc r)) e in
        all_unheard (λ called. unheard (suc r) called none) ∙ sym (nothing_through x (suc r) p (suc r)) ∙ ap (let_through x (suc r) (suc r) p) (sym none)

    pub heard_in_order : heard_of x (suc r) p (map (said (parts_to x r)) speaking) ≡ heard x (suc r) p (parts_to x r)
    heard_in_order =
        by_coordinator _ _ refl refl
        ∙ sym (heard_from_one x r p (parts_to x r) (omega (arith, as_many x formed r))
        (λ q first last other. silent_others within q (record { first = first; last = omega (arith, as_many x formed r) }) other))

  module _ (order : RoundOrder) (ordered : RoundInOrder x (at_round x r) order) where
    -- What closing makes of the part of process p.
    abbrev close_of : ℕ → Part → Part
    close_of p = closed_with (heard_of x (suc r) p (spoken_now x r order))

    module _ (p : ℕ) (process : IsProcess x p) (b : List ℕ) (has : part_of (parts_to x r) p ≡ up b) where
      pub open_as : up_and_open (part_of (parts_to x r) p) ≡ is_open b
      unfolding up_and_open
      open_as = rw has refl

      -- An open process that does not crash closes once, and one that crashes does not.
      closes_once : is_open b ≡ true → crashes_in (suc r) (fault_of x p) ≡ false → times_called p order.closing ≡ 1
      unfolding must_close crashes_now
      closes_once opens stays = ordered.close_calls.once p process (rw (open_as, opens, stays) refl)

      never_closes : is_open b ≡ true → crashes_in (suc r) (fault_of x p) ≡ true → times_called p order.closing ≡ 0
      unfolding may_close crashes_now is_up
      never_closes opens crashing =
          by_order 1 (times_called p order.closing)
          (λ called. let may : false ≡ true = rw (open_as, has, opens, crashing) at (ordered.close_calls.only p called).1 in
          absurd (let z : ◌≡◌ {A = ℕ} 0 1 = cc in let w : ⊥ = omega arith in w))
          (λ low. omega arith)

      -- So it is left as the base's host leaves it.
      open_left : is_open b ≡ true
          → left_after (suc r) (fault_of x p) (repeated (times_called p order.closing) (close_of p) (up b))
          ≡ part_after (suc r) (fault_of x p) (heard x (suc r) p (parts_to x r)) (up b)
      unfolding left_after part_after repeated closed_with with_bytes
      open_left opens = by_crash (crashes_in (suc r) (fault_of x p)) refl
        where
          within : r ≤ x.resilience
          within = open_within x formed r p process (open_as ∙ opens)

          by_crash : (c : Bool) → crashes_in (suc r) (fault_of x p) ≡ c
              → left_after (suc r) (fault_of x p) (repeated (times_called p order.closing) (close_of p) (up b))
              ≡ part_after (suc r) (fault_of x p) (heard x (suc r) p (parts_to x r)) (up b)
          by_crash true e = rw (never_closes opens e, e, opens) refl
          by_crash false e = rw (closes_once opens e, e, and-false, and-false, heard_in_order order.speaking ordered.speak_calls within p) refl

    -- A crashed process does not close.
    crashed_uncalled : (p j : ℕ) (b : List ℕ) → part_of (parts_to x r) p ≡ crashed_in j b → times_called p order.closing ≡ 0
    unfolding may_close is_up
    crashed_uncalled p j b has =
        by_order 1 (times_called p order.closing)
        (λ called. let is_up : is_up (part_of (parts_to x r) p) ≡ true = (both _ _ (ordered.close_calls.only p called).1).0 in
        let may : false ≡ true = rw has at is_up in
        absurd (let z : ◌≡◌ {A = ℕ} 0 1 = cc in let w : ⊥ = omega arith in w))
        (λ low. omega arith)

    part_left : (p : ℕ) → IsProcess x p → (part : Part) → part_of (parts_to x r) p ≡ part
        → left_after (suc r) (fault_of x p) (repeated (times_called p order.closing) (close_of p) part)
        ≡ part_after (suc r) (fault_of x p) (heard x (suc r) p (parts_to x r)) part
    unfolding left_after part_after closed_with with_bytes repeated
    part_left p process (crashed_in j b) has = rw (crashed_uncalled p j b has) refl
    part_left p process (up b) has = by_test (is_open b) refl
      where
        by_test : (t : Bool) → is_open b ≡ t
            → left_after (suc r) (fault_of x p) (repeated (times_called p order.closing) (close_of p) (up b))
            ≡ part_after (suc r) (fault_of x p) (heard x (suc r) p (parts_to x r)) (up b)
        by_test true e = open_left p process b has e
        by_test false e =
            let stays : close_of p (up b) ≡ up b = ap up (closed_stays b e _) in
            rw (repeated_stays (times_called p order.closing) (close_of p) (up b) stays, e, closed_stays b e _) refl

    -- All parts when the round is over.
    parts_left : step x round_over (record { round = suc r; parts = changed_in_turn close_of order.closing (parts_to x r); spoken = spoken_now x r order })
        ≡ at_round x (suc r)
    unfolding step part_of
    parts_left = ap (λ (parts : List Part). record { round = suc (suc r); parts = parts; spoken = [] }) same
      where
        closed : List Part
        closed = changed_in_turn close_of order.closing (parts_to x r)

        many : length closed ≡ x.processes
        many = length_in_turn close_of order.closing (parts_to x r) ∙ as_many x formed r

        same : ◌≡◌ {A = List Part} (map_from (λ p part. left_after (suc r) (fault_of x p) part) 1 closed) (parts_to x (suc r))
        same =
            parts_ext x.processes _ _ (length-map_from _ 1 closed ∙ many) (as_many x formed (suc r))
            (λ p first last. map_from_at _ closed p _ _ first (omega (arith, many))
            ∙ ap (left_after (suc r) (fault_of x p)) (in_turn close_of order.closing (parts_to x r) p first (omega (arith, as_many x formed r)))
            ∙ part_left p (record { first = first; last = last }) (part_of (parts_to x r) p) refl
            ∙ sym (part_after_lem x p first (omega (arith, formed.all_propose)) r))

    pub round_in_order : play x (round_steps order) (at_round x r) ≡ at_round x (suc r)
    unfolding round_steps play
    round_in_order =
        play_append x (map speak order.speaking) _ (at_round x r)
        ∙ ap (play x (map close order.closing ++ (round_over ∷ []))) (all_spoken x order.speaking (at_round x r))
        ∙ play_append x (map close order.closing) (round_over ∷ []) _
        ∙ ap (play x (round_over ∷ [])) (all_closed x order.closing _)
        ∙ parts_left
