-- Calls of a process that is up and not open change nothing, wherever they stand, and it keeps its bytes (`ended_calls_lem`). Assumes nothing.
use mathlib.Core.List.{List, [], ◌∷◌, ◌++◌, map}
use mathlib.Core.Path.{◌≡◌, refl, sym, ap, subst, ◌∙◌}
use mathlib.Core.Bool.{Bool, true, false, cond, ◌||◌}
use Prim.Native.Nat.{ℕ}
use lib.Dec.{eqb}
use borrow.Author.Tests.{eqb-false, eq-eqb, ne_eqb}
use Rattle.general.proofs.Indexed.{length-map_from, map_from_at}
use Rattle.general.proofs.Tests.{by_equal}
use Rattle.consensus.specs.Instance.{Instance, fault_of}
use Rattle.part_host.specs.Part.{Part, up, crashed_in, part_of}
use Rattle.part_schedules.specs.Steps.{Hosted, Step, start, speak, close, round_over, heard_of, with_bytes, started_with, frames_yielded, closed_with, left_after, changed_at, step, play}
use Rattle.part_schedules.specs.Schedule.{RoundOrder, round_steps, steps_of_rounds, is_up, up_and_open}
use Rattle.part_schedules.specs.Answers.{answers, all_answers}
use Rattle.part_schedules.specs.EndedCalls.{Ended, CallOf, to_speak, to_close, starts, EndedCalls}
use Rattle.part_schedules.proofs.Turns.{unchanged_at, length-changed, changed_at_lem}
use Rattle.part_schedules.proofs.Phases.{said}
use Rattle.part_schedules.proofs.Heard.{heard_append, silent_behind}
use Rattle.part_schedules.proofs.Waiting.{closed_stays, up_yields, ended_yields_nothing, refused_11, speak_refused_lem, close_refused_11}

-- ---- what is kept alike

-- Two hosts keep the same but for what yields nothing.
record Same (x : Instance) (h g : Hosted) : Type 0 where
  round : h.round ≡ g.round
  parts : h.parts ≡ g.parts
  heard : (r p : ℕ) → heard_of x r p h.spoken ≡ heard_of x r p g.spoken

module _ (x : Instance) where
  same_heard : (h g : Hosted) → Same x h g → (p : ℕ) → heard_of x h.round p h.spoken ≡ heard_of x g.round p g.spoken
  same_heard h g same p = ap (λ (r : ℕ). heard_of x r p h.spoken) same.round ∙ same.heard g.round p

  step_same : (one : Step) (h g : Hosted) → Same x h g → Same x (step x one h) (step x one g)
  unfolding step
  step_same (start p) h g same = record { round = same.round; parts = ap (changed_at p (started_with x p)) same.parts; heard = same.heard }
  step_same (speak p) h g same =
      record {
        round = same.round;
        parts = same.parts;
        heard = λ r q. heard_append x r q h.spoken (said h.parts p ∷ [])
            ∙ ap (λ (l : List ℕ). l ++ heard_of x r q (said h.parts p ∷ [])) (same.heard r q)
            ∙ ap (λ (parts : List Part). heard_of x r q g.spoken ++ heard_of x r q (said parts p ∷ [])) same.parts
            ∙ sym (heard_append x r q g.spoken (said g.parts p ∷ []));
      }
  step_same (close p) h g same =
      record {
        round = same.round;
        parts = ap (λ (frames : List ℕ). changed_at p (closed_with frames) h.parts) (same_heard h g same p) ∙ ap (changed_at p _) same.parts;
        heard = same.heard;
      }
  step_same round_over h g same = record { round = ap Prim.Native.Nat.suc same.round; parts = rw (same.round, same.parts) refl; heard = λ r p. refl }

  answers_same : (one : Step) (h g : Hosted) → Same x h g → answers x h one ≡ answers x g one
  unfolding answers
  answers_same (start p) h g same = rw same.parts refl
  answers_same (speak p) h g same = rw same.parts refl
  answers_same (close p) h g same = rw (same.parts, same_heard h g same p) refl
  answers_same round_over h g same = refl

  play_same : (steps : List Step) (h g : Hosted) → Same x h g → ((play x steps h).parts ≡ (play x steps g).parts) × (all_answers x h steps ≡ all_answers x g steps)
  unfolding play all_answers
  play_same [] h g same = (same.parts, refl)
  play_same (one ∷ steps) h g same =
      let (parts, answered) = play_same steps (step x one h) (step x one g) (step_same one h g same) in
      (parts, rw (answers_same one h g same, answered) refl)

-- ---- a process that has ended

or_false : (a : Bool) → (a || false) ≡ false → a ≡ false
or_false true e = e
or_false false e = refl

-- Where it is not started at all, it is not in the first step and not behind.
starts_apart : (p : ℕ) (one : Step) (steps : List Step) → starts p (one ∷ steps) ≡ false → (starts p (one ∷ []) ≡ false) × (starts p steps ≡ false)
unfolding starts
starts_apart p (start q) steps e = by_test (eqb p q) e
  where
    by_test : (b : Bool) → (b || starts p steps) ≡ false → ((b || false) ≡ false) × (starts p steps ≡ false)
    by_test true f = (f, cc)
    by_test false f = (refl, f)
starts_apart p (speak q) steps e = (refl, e)
starts_apart p (close q) steps e = (refl, e)
starts_apart p round_over steps e = (refl, e)

module _ (x : Instance) (h : Hosted) (p : ℕ) (b : List ℕ) (ended : Ended h p b) where
  yields_nothing : frames_yielded (part_of h.parts p) ≡ []
  unfolding is_up up_and_open
  yields_nothing =
      up_yields (part_of h.parts p) (rw ended.kept refl) ∙ ended_yields_nothing (part_of h.parts p) (rw ended.kept ended.not_open)

  call_same : (one : Step) → CallOf p one → Same x (step x one h) h
  unfolding step closed_with with_bytes
  call_same (speak _) to_speak = record { round = refl; parts = refl; heard = λ r q. rw yields_nothing (silent_behind x r q h.spoken p) }
  call_same (close _) to_close =
      record {
        round = refl;
        parts = unchanged_at p _ h.parts (rw (ended.kept, closed_stays b ended.not_open _) refl);
        heard = λ r q. refl;
      }
  call_same (start _) other = elim other [ ]
  call_same round_over other = elim other [ ]

  left_out_lem : (one : Step) → CallOf p one → (steps : List Step)
      → ((play x (one ∷ steps) h).parts ≡ (play x steps h).parts) × (all_answers x (step x one h) steps ≡ all_answers x h steps)
  unfolding play
  left_out_lem one call steps = play_same x steps (step x one h) h (call_same one call)

  -- It has ended after any step but a start of its own.
  changed_ended : (q : ℕ) (change : Part → Part) → (q ≡ p → change (up b) ≡ up b) → Ended (record { round = h.round; parts = changed_at q change h.parts; spoken = h.spoken }) p b
  changed_ended q change stays =
      record {
        first = ended.first;
        last = rw (length-changed q change h.parts) ended.last;
        kept = changed_at_lem q change h.parts p ended.first ended.last ∙ by_equal p q (λ same. own same) (λ other. rw (ne_eqb p q other) ended.kept);
        not_open = ended.not_open;
      }
    where
      own : p ≡ q → cond (eqb p q) (change (part_of h.parts p)) (part_of h.parts p) ≡ up b
      own same = rw (eq-eqb p q same, ended.kept) (stays (sym same))

  step_ended : (one : Step) → starts p (one ∷ []) ≡ false → Ended (step x one h) p b
  unfolding step starts closed_with with_bytes left_after part_of
  step_ended (start q) other =
      changed_ended q (started_with x q) (λ same. absurd (eqb-false p q (or_false (eqb p q) other) (sym same)))
  step_ended (speak q) other = record { first = ended.first; last = ended.last; kept = ended.kept; not_open = ended.not_open }
  step_ended (close q) other = changed_ended q _ (λ same. ap up (closed_stays b ended.not_open _))
  step_ended round_over other =
      record {
        first = ended.first;
        last = rw length-map_from ended.last;
        kept = map_from_at (λ q part. left_after h.round (fault_of x q) part) h.parts p (crashed_in 0 []) (crashed_in 0 []) ended.first ended.last
            ∙ ap (left_after h.round (fault_of x p)) ended.kept ∙ rw ended.not_open refl;
        not_open = ended.not_open;
      }

keeps_bytes : (x : Instance) (h : Hosted) (p : ℕ) (b : List ℕ) → Ended h p b → (steps : List Step) → starts p steps ≡ false → part_of (play x steps h).parts p ≡ up b
unfolding play
keeps_bytes x h p b ended [] other = ended.kept
keeps_bytes x h p b ended (one ∷ steps) other =
    let (now, later) = starts_apart p one steps other in
    keeps_bytes x (step x one h) p b (step_ended x h p b ended one now) steps later

-- No process is started in the steps of rounds, nor in what stands behind in them.
starts_append : (p : ℕ) (a b : List Step) → starts p (a ++ b) ≡ false → starts p b ≡ false
starts_append p [] b e = e
starts_append p (one ∷ a) b e = starts_append p a b (starts_apart p one (a ++ b) e).1

joined_unstarted : (p : ℕ) (a b : List Step) → starts p a ≡ false → starts p b ≡ false → starts p (a ++ b) ≡ false
unfolding starts
joined_unstarted p [] b e f = f
joined_unstarted p (start q ∷ a) b e f =
    rw (or_false (eqb p q) (starts_apart p (start q) a e).0) (joined_unstarted p a b (starts_apart p (start q) a e).1 f)
joined_unstarted p (speak q ∷ a) b e f = joined_unstarted p a b e f
joined_unstarted p (close q ∷ a) b e f = joined_unstarted p a b e f
joined_unstarted p (round_over ∷ a) b e f = joined_unstarted p a b e f

spoken_unstarted : (p : ℕ) (order : List ℕ) → starts p (map speak order) ≡ false
unfolding starts
spoken_unstarted p [] = refl
spoken_unstarted p (q ∷ order) = spoken_unstarted p order

closed_unstarted : (p : ℕ) (order : List ℕ) → starts p (map close order) ≡ false
unfolding starts
closed_unstarted p [] = refl
closed_unstarted p (q ∷ order) = closed_unstarted p order

rounds_unstarted : (p : ℕ) (orders : List RoundOrder) → starts p (steps_of_rounds orders) ≡ false
unfolding starts steps_of_rounds round_steps
rounds_unstarted p [] = refl
rounds_unstarted p (order ∷ orders) =
    joined_unstarted p (map speak order.speaking ++ (map close order.closing ++ (round_over ∷ []))) (steps_of_rounds orders)
    (joined_unstarted p (map speak order.speaking) (map close order.closing ++ (round_over ∷ [])) (spoken_unstarted p order.speaking)
    (joined_unstarted p (map close order.closing) (round_over ∷ []) (closed_unstarted p order.closing) refl))
    (rounds_unstarted p orders)

pub unstarted_behind : (p : ℕ) (orders : List RoundOrder) (before behind : List Step) → steps_of_rounds orders ≡ before ++ behind → starts p behind ≡ false
unstarted_behind p orders before behind split = starts_append p before behind (subst (λ (steps : List Step). starts p steps ≡ false) split (rounds_unstarted p orders))

pub ended_calls_lem : EndedCalls
ended_calls_lem =
    record {
      speak_answers = λ b room valid ended. speak_refused_lem b (refused_11 b valid ended) room;
      close_answers = λ b heard valid ended. (close_refused_11 b (refused_11 b valid ended) heard, closed_stays b ended heard);
      left_out = left_out_lem;
      keeps = keeps_bytes;
    }
