-- The calls of one part, as far as the process's own laws leave them: one that is not open yields nothing and stays as it is; and what a part yields is
-- what its host finds in the buffer. Assumes nothing.
use mathlib.Core.List.{List, []}
use mathlib.Core.Logic.{◌⊎◌, inl, inr}
use mathlib.Core.Path.{◌≡◌, refl, sym, ap, ◌∙◌}
use Prim.Native.Nat.{ℕ, ◌≤◌, ◌<◌}
use native.Mathlib.Omega.{arith}
use lib.ListN.{length}
use lib.Seq.{take-append_seam, drop-append_seam}
use borrow.Author.Tests.{ne_eqb}
use Rattle.part_format.specs.PartState.{state_from, state_refusal}
use Rattle.part_format.specs.Speak.{speak_refusal, speak_yields, speak_output}
use Rattle.part_format.specs.Close.{close_state}
use Rattle.part_format.specs.Refused.{AnswersCount, AnswersRefusal, SpeakAnswersApart}
use Rattle.part_format.proofs.Opened.{opened}
use Rattle.part_format.proofs.Operations.{close_refused_lem}
use Rattle.part_format.proofs.Room.{same_yields}
use Rattle.part_format.proofs.Refused.{speak_answers_apart}
use Rattle.part_host.specs.Part.{up, output_room, yielded}
use Rattle.part_host.specs.Output.{FindsYielded, OutputYielded}

-- A part that is not open.
module _ (b : List ℕ) (ended : (state_from b).mark ≡ 0 → ⊥) where
  not_taken_lem : state_refusal b ≡ 0 → ⊥
  unfolding state_from
  not_taken_lem e = ended (opened b 0 (sym e) refl).mark

  pub ended_silent : speak_yields b output_room ≡ []
  unfolding speak_yields speak_refusal
  ended_silent = simp (ne_eqb (state_refusal b) 0 not_taken_lem)

  pub ended_stays : (frames : List ℕ) → close_state b frames ≡ b
  ended_stays frames = sym (close_refused_lem b frames (state_refusal b) refl not_taken_lem).1

-- The host finds in its buffer what a part yields.
module _ (b output : List ℕ) (enough : 8 ≤ length output) where
  same_yielded : speak_yields b (length output) ≡ yielded (up b)
  unfolding yielded output_room
  same_yielded = same_yields b (length output) enough

  yields_nothing : 9 ≤ speak_refusal b (length output) → speak_yields b (length output) ≡ []
  unfolding speak_yields
  yields_nothing high = simp (ne_eqb (speak_refusal b (length output)) 0 (λ e. omega arith))

  counted_front : AnswersCount b (length output) → FindsYielded b output
  unfolding speak_output
  counted_front c =
      record {
        front = λ low. rw (c.count, same_yielded) (take-append_seam (yielded (up b)) _);
        counted = λ low. c.count ∙ ap length same_yielded;
        refused = λ high. absurd (at_most_eight c.size high);
        behind = rw same_yielded (drop-append_seam (yielded (up b)) _);
      }
    where
      at_most_eight : {k : ℕ} → (k ≡ 0) ⊎ (k ≡ 8) → 8 < k → ⊥
      at_most_eight (inl e) h = omega arith
      at_most_eight (inr e) h = omega arith

  refused_front : AnswersRefusal b (length output) → FindsYielded b output
  unfolding speak_output
  refused_front a =
      let none : yielded (up b) ≡ [] = sym same_yielded ∙ yields_nothing (omega (arith, a)) in
      record {
        front = λ low. absurd (let z : ⊥ = omega (arith, a, low) in z);
        counted = λ low. absurd (let z : ⊥ = omega (arith, a, low) in z);
        refused = λ high. (a.refusal, none);
        behind = rw same_yielded (drop-append_seam (yielded (up b)) _);
      }

pub output_yielded_lem : OutputYielded
unfolding OutputYielded SpeakAnswersApart
output_yielded_lem b output enough = by_answer (speak_answers_apart b (length output))
  where
    by_answer : AnswersCount b (length output) ⊎ AnswersRefusal b (length output) → FindsYielded b output
    by_answer (inl c) = counted_front b output enough c
    by_answer (inr a) = refused_front b output enough a
