-- Paper 14 on several tenders: each is left, and its calls are answered, as if its steps were made alone (`tenders_apart`). Assumes nothing.
use mathlib.Core.List.{List, [], ◌∷◌, ◌++◌, append_assoc, append-nil}
use mathlib.Core.Path.{◌≡◌, refl, sym, ap, ◌∙◌}
use mathlib.Core.Bool.{Bool, true, false, cond}
use Prim.Native.Nat.{ℕ}
use lib.Dec.{eqb}
use borrow.Author.Tests.{eqb-true}
use Rattle.consensus.specs.Instance.{Instance}
use Rattle.part_schedules.specs.Steps.{Hosted, Step, step, play}
use Rattle.part_schedules.specs.Answers.{answers, all_answers}
use Rattle.part_schedules.specs.Tenders.{TenderStep, step_one, play_mixed, of_tender, all_of, answers_to, TendersApart}

module _ (xs : ℕ → Instance) where
  left_as_alone_lem : (mixed : List TenderStep) (hosts : ℕ → Hosted) (i : ℕ) → play_mixed xs mixed hosts i ≡ play (xs i) (of_tender i mixed) (hosts i)
  unfolding play_mixed of_tender play step_one
  left_as_alone_lem [] hosts i = refl
  left_as_alone_lem (one ∷ mixed) hosts i = left_as_alone_lem mixed (step_one xs one hosts) i ∙ by_test (eqb i one.tender)
    where
      by_test : (b : Bool) → play (xs i) (of_tender i mixed) (cond b (step (xs i) one.own (hosts i)) (hosts i))
          ≡ play (xs i) (cond b (one.own ∷ []) [] ++ of_tender i mixed) (hosts i)
      by_test true = refl
      by_test false = refl

  answered_as_alone_lem : (mixed : List TenderStep) (hosts : ℕ → Hosted) (i : ℕ)
      → answers_to i xs mixed hosts ≡ all_answers (xs i) (hosts i) (of_tender i mixed)
  unfolding answers_to of_tender all_answers step_one
  answered_as_alone_lem [] hosts i = refl
  answered_as_alone_lem (one ∷ mixed) hosts i = rw (answered_as_alone_lem mixed (step_one xs one hosts) i) (by_test (eqb i one.tender))
    where
      by_test : (b : Bool)
          → cond b (answers (xs i) (hosts i) one.own) [] ++ all_answers (xs i) (cond b (step (xs i) one.own (hosts i)) (hosts i)) (of_tender i mixed)
          ≡ all_answers (xs i) (hosts i) (cond b (one.own ∷ []) [] ++ of_tender i mixed)
      by_test true = refl
      by_test false = refl

-- The steps of tender k among those of others.
of_append : (k : ℕ) (a b : List TenderStep) → of_tender k (a ++ b) ≡ of_tender k a ++ of_tender k b
unfolding of_tender
of_append k [] b = refl
of_append k (one ∷ a) b = rw (of_append k a b) (sym (append_assoc (cond (eqb k one.tender) (one.own ∷ []) []) (of_tender k a) (of_tender k b)))

of_all : (k i : ℕ) (steps : List Step) (t : Bool) → eqb k i ≡ t → of_tender k (all_of i steps) ≡ cond t steps []
unfolding of_tender all_of
of_all k i [] true e = refl
of_all k i [] false e = refl
of_all k i (one ∷ steps) true e = rw e (ap (λ (l : List Step). one ∷ l) (of_all k i steps true e))
of_all k i (one ∷ steps) false e = rw e (of_all k i steps false e)

pub either_order_lem : (k i j : ℕ) → (i ≡ j → ⊥) → (a b : List Step) → of_tender k (all_of i a ++ all_of j b) ≡ of_tender k (all_of j b ++ all_of i a)
either_order_lem k i j apart a b =
    of_append k (all_of i a) (all_of j b) ∙ by_tests (eqb k i) (eqb k j) refl refl ∙ sym (of_append k (all_of j b) (all_of i a))
  where
    by_tests : (t u : Bool) → eqb k i ≡ t → eqb k j ≡ u
        → of_tender k (all_of i a) ++ of_tender k (all_of j b) ≡ of_tender k (all_of j b) ++ of_tender k (all_of i a)
    by_tests true true e f = absurd (apart (sym (eqb-true k i e) ∙ eqb-true k j f))
    by_tests true false e f = rw (of_all k i a true e, of_all k j b false f) (append-nil a)
    by_tests false u e f = rw (of_all k i a false e) (sym (append-nil (of_tender k (all_of j b))))

any_mixture_lem : (xs : ℕ → Instance) (a b : List TenderStep) (hosts : ℕ → Hosted) → ((i : ℕ) → of_tender i a ≡ of_tender i b)
    → (i : ℕ) → play_mixed xs a hosts i ≡ play_mixed xs b hosts i
any_mixture_lem xs a b hosts same i =
    left_as_alone_lem xs a hosts i ∙ ap (λ (steps : List Step). play (xs i) steps (hosts i)) (same i) ∙ sym (left_as_alone_lem xs b hosts i)

pub tenders_apart : TendersApart
tenders_apart =
    record {
      left_as_alone = left_as_alone_lem;
      answered_as_alone = answered_as_alone_lem;
      any_mixture = any_mixture_lem;
      either_order = λ xs i j apart a b hosts. any_mixture_lem xs _ _ hosts (λ k. either_order_lem k i j apart a b);
    }
