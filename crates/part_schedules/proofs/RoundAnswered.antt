-- What the calls of a round in order are answered (`round_answered`). For well-formed instances. Assumes nothing else.
use mathlib.Core.List.{List, [], ◌∷◌, ◌++◌, map}
use mathlib.Core.Logic.{◌⊎◌, inl, inr}
use mathlib.Core.Path.{◌≡◌, refl, sym, ap, subst, ◌∙◌}
use mathlib.Core.Bool.{Bool, true, false, cond, not}
use Prim.Native.Nat.{ℕ, suc, ◌≤◌}
use native.Mathlib.Omega.{arith}
use lib.Dec.{eqb}
use lib.ListN.{length}
use borrow.Author.Tests.{ne_eqb}
use Rattle.general.proofs.Tests.{by_equal, both}
use Rattle.consensus.specs.Instance.{Instance}
use Rattle.consensus.specs.Consensus.{IsProcess}
use Rattle.coordinator.specs.WellFormed.{WellFormed}
use Rattle.part_format.specs.PartState.{state_from, state_refusal}
use Rattle.part_format.specs.Speak.{speak_refusal, speak_yields, speak_answer}
use Rattle.part_format.specs.Close.{close_refusal}
use Rattle.part_format.proofs.Operations.{spoken_length}
use Rattle.part_host.specs.Part.{Part, up, crashed_in, part_of, bytes_kept, is_open, output_room}
use Rattle.part_host.specs.Host.{parts_to}
use Rattle.part_host.specs.DecideAlike.{OpenAfter}
use Rattle.part_host.proofs.DecideAlike.{none_refused_lem}
use Rattle.part_schedules.specs.Steps.{Spoken, Hosted, speak, close, round_over, heard_of, frames_yielded, with_bytes, closed_with, changed_at, step}
use Rattle.part_schedules.specs.Schedule.{RoundOrder, round_steps, times_called, is_up, up_and_open, crashes_now, may_speak, must_close, may_close, RoundInOrder}
use Rattle.part_schedules.specs.Answers.{answers, due, Answered, AllAnswered}
use Rattle.part_schedules.proofs.Turns.{times_more, times_first, times_other, unchanged_at, length-changed, changed_at_lem}
use Rattle.part_schedules.proofs.Phases.{said, all_spoken}
use Rattle.part_schedules.proofs.Heard.{silent_behind}
use Rattle.part_schedules.proofs.Waiting.{as_many, open_within, up_yields, ended_yields_nothing, closed_stays, speak_refused_lem, close_refused_11}
use Rattle.part_schedules.proofs.Round.{at_round, spoken_now, heard_in_order}
use Rattle.part_schedules.proofs.Refused.{ended_refused}
use Rattle.part_schedules.proofs.StartsAnswered.{only_number, answered_append, over_answered}

-- What speaking answers: the count of bytes, which is not 11, or 11.
module _ (b : List ℕ) where
  taken_answer : speak_refusal b output_room ≡ 0 → speak_answer b output_room ≡ length (frames_yielded (up b))
  unfolding speak_answer frames_yielded bytes_kept
  taken_answer e = rw e refl

  taken_count : speak_refusal b output_room ≡ 0 → length (frames_yielded (up b)) ≡ 11 → ⊥
  unfolding frames_yielded bytes_kept speak_yields
  taken_count e eleven = by_length (spoken_length (state_from b)) (rw e at eleven)
    where
      by_length : {k : ℕ} → (k ≡ 0) ⊎ (k ≡ 8) → k ≡ 11 → ⊥
      by_length (inl zero-bytes) h = omega arith
      by_length (inr eight) h = omega arith

module _ (x : Instance) (formed : WellFormed x) (r : ℕ) where
  -- A process that is called to speak: open, and then taken; or decided, and then refused.
  data Speaks (p : ℕ) : Type 0 where
    taken : (b : List ℕ) → part_of (parts_to x r) p ≡ up b → is_open b ≡ true → speak_refusal b output_room ≡ 0 → Speaks p
    refused : (b : List ℕ) → part_of (parts_to x r) p ≡ up b → is_open b ≡ false → state_refusal b ≡ 11 → Speaks p

  speaks : (p : ℕ) → IsProcess x p → is_up (part_of (parts_to x r) p) ≡ true → Speaks p
  unfolding is_up up_and_open
  speaks p process may = by_part (part_of (parts_to x r) p) refl
    where
      by_open : (b : List ℕ) → part_of (parts_to x r) p ≡ up b → (t : Bool) → is_open b ≡ t → Speaks p
      by_open b has true e =
          let within : r ≤ x.resilience = open_within x formed r p process (rw has e) in
          taken b has e ((none_refused_lem x formed).when_speaking r p b (record { process = process; within = within; kept = has; marked = e }))
      by_open b has false e = refused b has e (ended_refused x formed r p process b has e)

      by_part : (part : Part) → part_of (parts_to x r) p ≡ part → Speaks p
      by_part (up b) has = by_open b has (is_open b) refl
      by_part (crashed_in j b) has = absurd (let z : false ≡ true = rw has at may in let w : ◌≡◌ {A = ℕ} 0 1 = cc in let v : ⊥ = omega arith in v)

  -- It is answered so.
  speak_answered : (p : ℕ) (S : List Spoken) → Speaks p → Answered x (record { round = suc r; parts = parts_to x r; spoken = S }) (speak p)
  unfolding answers due bytes_kept is_up up_and_open step
  speak_answered p S (taken b has opens e) =
      record {
        number = rw (has, opens, taken_answer b e) refl;
        stays = λ eleven. refl;
        silent = λ eleven. absurd (taken_count b e (rw (has, opens) at (only_number _ 11 eleven)));
      }
  speak_answered p S (refused b has ended e) =
      let none : frames_yielded (part_of (parts_to x r) p) ≡ [] =
      up_yields (part_of (parts_to x r) p) (rw has refl) ∙ ended_yields_nothing (part_of (parts_to x r) p) (rw has ended)
      in
      record {
        number = rw (has, ended, speak_refused_lem b e output_room) refl;
        stays = λ eleven. refl;
        silent = λ eleven i q. rw none (silent_behind x i q S p);
      }

  all_speaking : (order : List ℕ) (S : List Spoken) → ((p : ℕ) → 1 ≤ times_called p order → Speaks p)
      → AllAnswered x (record { round = suc r; parts = parts_to x r; spoken = S }) (map speak order)
  unfolding AllAnswered step
  all_speaking [] S called = tt
  all_speaking (q ∷ order) S called = (
    speak_answered q S (called q (omega (arith, times_first q order))),
    all_speaking order (S ++ (said (parts_to x r) q ∷ [])) (λ p h. called p (times_more p q order h)),
  )

  module _ (S : List Spoken) where
    -- A process that is called to close, among these parts: open, taken, and called this once; or decided, and refused.
    data Closes (order : List ℕ) (parts : List Part) (p : ℕ) : Type 0 where
      taken_once : (b : List ℕ) → part_of parts p ≡ up b → is_open b ≡ true → close_refusal b (heard_of x (suc r) p S) ≡ 0 → times_called p order ≡ 1
          → Closes order parts p
      refused_each : (b : List ℕ) → part_of parts p ≡ up b → is_open b ≡ false → state_refusal b ≡ 11 → Closes order parts p

    -- What the host keeps while parts close.
    abbrev closing_with : List Part → Hosted
    closing_with parts = record { round = suc r; parts = parts; spoken = S }

    closed_parts : (p : ℕ) (b : List ℕ) (parts : List Part) → part_of parts p ≡ up b → is_open b ≡ false
        → changed_at p (closed_with (heard_of x (suc r) p S)) parts ≡ parts
    unfolding closed_with with_bytes
    closed_parts p b parts has ended = unchanged_at p _ parts (rw (has, closed_stays b ended _) refl)

    close_answered : (order : List ℕ) (parts : List Part) (p : ℕ) → length parts ≡ x.processes → IsProcess x p → Closes order parts p
        → Answered x (closing_with parts) (close p)
    unfolding answers due bytes_kept up_and_open step
    close_answered order parts p many process (taken_once b has opens e once) =
        record {
          number = rw (has, opens, e) refl;
          stays = λ eleven. absurd (let z : ◌≡◌ {A = ℕ} 0 11 = rw (has, opens) at (only_number _ 11 eleven) in let w : ⊥ = omega arith in w);
          silent = λ eleven i q. refl;
        }
    close_answered order parts p many process (refused_each b has ended e) =
        record {
          number = rw (has, ended, close_refused_11 b e (heard_of x (suc r) p S)) refl;
          stays = λ eleven. closed_parts p b parts has ended;
          silent = λ eleven i q. refl;
        }

    -- Those behind find their parts as they were.
    closes_behind : (q : ℕ) (order : List ℕ) (parts : List Part) → length parts ≡ x.processes → (p : ℕ) → IsProcess x p → 1 ≤ times_called p order
        → Closes (q ∷ order) parts p → Closes order (changed_at q (closed_with (heard_of x (suc r) q S)) parts) p
    closes_behind q order parts many p process behind closes =
        by_equal p q (λ same. same_process same closes) (λ other. other_process other closes)
      where
        at : part_of (changed_at q (closed_with (heard_of x (suc r) q S)) parts) p
            ≡ cond (eqb p q) (closed_with (heard_of x (suc r) q S) (part_of parts p)) (part_of parts p)
        at = changed_at_lem q _ parts p process.first (omega (arith, many))

        kept : (p ≡ q → ⊥) → part_of (changed_at q (closed_with (heard_of x (suc r) q S)) parts) p ≡ part_of parts p
        kept other = at ∙ rw (ne_eqb p q other) refl

        same_process : p ≡ q → Closes (q ∷ order) parts p → Closes order (changed_at q (closed_with (heard_of x (suc r) q S)) parts) p
        same_process same (taken_once b has opens e once) =
            absurd (let z : ⊥ = omega (arith, once, behind, times_first p order, ap (λ (k : ℕ). times_called p (k ∷ order)) same) in z)
        same_process same (refused_each b has ended e) =
            refused_each b (ap (λ (l : List Part). part_of l p) (subst (λ (k : ℕ). changed_at k (closed_with (heard_of x (suc r) k S)) parts ≡ parts) same (closed_parts p b parts has ended)) ∙ has) ended e

        other_process : (p ≡ q → ⊥) → Closes (q ∷ order) parts p → Closes order (changed_at q (closed_with (heard_of x (suc r) q S)) parts) p
        other_process other (taken_once b has opens e once) = taken_once b (kept other ∙ has) opens e (sym (times_other p q order other) ∙ once)
        other_process other (refused_each b has ended e) = refused_each b (kept other ∙ has) ended e

    all_closing : (order : List ℕ) (parts : List Part) → length parts ≡ x.processes
        → ((p : ℕ) → 1 ≤ times_called p order → IsProcess x p × Closes order parts p) → AllAnswered x (closing_with parts) (map close order)
    unfolding AllAnswered step
    all_closing [] parts many called = tt
    all_closing (q ∷ order) parts many called =
        let (process, closes) = called q (omega (arith, times_first q order)) in (
          close_answered (q ∷ order) parts q many process closes,
          all_closing order (changed_at q (closed_with (heard_of x (suc r) q S)) parts) (length-changed q _ parts ∙ many)
              (λ p h. let (process', closes') = called p (times_more p q order h) in (process', closes_behind q order parts many p process' h closes')),
        )

  module _ (order : RoundOrder) (ordered : RoundInOrder x (at_round x r) order) where
    -- Whoever is called to close may be: it is up, and does not crash.
    may_close_lem : (p : ℕ) → 1 ≤ times_called p order.closing → (is_up (part_of (parts_to x r) p) ≡ true) × (not (crashes_now x (at_round x r) p) ≡ true)
    unfolding may_close
    may_close_lem p called = both _ _ (ordered.close_calls.only p called).1

    closes : (p : ℕ) → 1 ≤ times_called p order.closing → IsProcess x p × Closes (spoken_now x r order) order.closing (parts_to x r) p
    unfolding is_up up_and_open must_close
    closes p called = (process, by_part (part_of (parts_to x r) p) refl)
      where
        process : IsProcess x p
        process = (ordered.close_calls.only p called).0

        by_open : (b : List ℕ) → part_of (parts_to x r) p ≡ up b → (t : Bool) → is_open b ≡ t → Closes (spoken_now x r order) order.closing (parts_to x r) p
        by_open b has true e =
            let within : r ≤ x.resilience = open_within x formed r p process (rw has e) in
            let opened : OpenAfter x r p b = record { process = process; within = within; kept = has; marked = e } in
            taken_once b has e (rw (heard_in_order x formed r order.speaking ordered.speak_calls within p) ((none_refused_lem x formed).when_closing r p b opened))
            (ordered.close_calls.once p process (rw (has, e) (may_close_lem p called).1))
        by_open b has false e = refused_each b has e (ended_refused x formed r p process b has e)

        by_part : (part : Part) → part_of (parts_to x r) p ≡ part → Closes (spoken_now x r order) order.closing (parts_to x r) p
        by_part (up b) has = by_open b has (is_open b) refl
        by_part (crashed_in j b) has = absurd (let z : false ≡ true = rw has at (may_close_lem p called).0 in let w : ◌≡◌ {A = ℕ} 0 1 = cc in let v : ⊥ = omega arith in v)

    pub round_answered : AllAnswered x (at_round x r) (round_steps order)
    unfolding round_steps may_speak
    round_answered =
        answered_append x (map speak order.speaking) _ (at_round x r)
        (all_speaking order.speaking [] (λ p called. let (process, may) = ordered.speak_calls.only p called in speaks p process may))
        (rw (all_spoken x order.speaking (at_round x r))
        (answered_append x (map close order.closing) (round_over ∷ []) _
        (all_closing (spoken_now x r order) order.closing (parts_to x r) (as_many x formed r) closes) (over_answered x _)))
