-- Several tenders that one host plays side by side, their calls mixed (document 02, Paper 14: "Rounds of two different tenders may fall in either order as
-- well").
use Rattle.std.specs.Prelude.{List, [], ◌∷◌, ◌++◌, map, ◌≡◌, ℕ, cond, eqb}
use Rattle.consensus.specs.Instance.{Instance}
use Rattle.part_schedules.specs.Steps.{Hosted, Step, step, play}
use Rattle.part_schedules.specs.Answers.{answers, all_answers}

-- A step of one tender; tenders go by numbers.
pub record TenderStep : Type 0 where
  pub tender : ℕ
  pub own : Step

-- What the host keeps of each tender after a step of one.
unfoldable pub step_one : (ℕ → Instance) → TenderStep → (ℕ → Hosted) → ℕ → Hosted
step_one xs one hosts i = cond (eqb i one.tender) (step (xs i) one.own (hosts i)) (hosts i)

unfoldable pub play_mixed : (ℕ → Instance) → List TenderStep → (ℕ → Hosted) → ℕ → Hosted
play_mixed xs [] hosts = hosts
play_mixed xs (one ∷ mixed) hosts = play_mixed xs mixed (step_one xs one hosts)

-- The steps of tender i, in their order.
unfoldable pub of_tender : ℕ → List TenderStep → List Step
of_tender i [] = []
of_tender i (one ∷ mixed) = cond (eqb i one.tender) (one.own ∷ []) [] ++ of_tender i mixed

-- Steps that are all of tender i, such as those of one of its rounds.
unfoldable pub all_of : ℕ → List Step → List TenderStep
all_of i steps = map (λ (s : Step). record { tender = i; own = s }) steps

-- What the calls of tender i answer.
unfoldable pub answers_to : ℕ → (ℕ → Instance) → List TenderStep → (ℕ → Hosted) → List ℕ
answers_to i xs [] hosts = []
answers_to i xs (one ∷ mixed) hosts =
    cond (eqb i one.tender) (answers (xs i) (hosts i) one.own) [] ++ answers_to i xs mixed (step_one xs one hosts)

-- The claim, of whatever steps: each tender is left, and its calls are answered, as if its steps were made alone.
pub record TendersApart : Type 0 where
  pub left_as_alone : (xs : ℕ → Instance) (mixed : List TenderStep) (hosts : ℕ → Hosted) (i : ℕ)
      → play_mixed xs mixed hosts i ≡ play (xs i) (of_tender i mixed) (hosts i)
  pub answered_as_alone : (xs : ℕ → Instance) (mixed : List TenderStep) (hosts : ℕ → Hosted) (i : ℕ)
      → answers_to i xs mixed hosts ≡ all_answers (xs i) (hosts i) (of_tender i mixed)
  -- so single steps may be mixed in any way that keeps each tender's own order
  pub any_mixture : (xs : ℕ → Instance) (a b : List TenderStep) (hosts : ℕ → Hosted) → ((i : ℕ) → of_tender i a ≡ of_tender i b)
      → (i : ℕ) → play_mixed xs a hosts i ≡ play_mixed xs b hosts i
  -- and rounds of two different tenders may fall in either order
  pub either_order : (xs : ℕ → Instance) (i j : ℕ) → (i ≡ j → ⊥) → (a b : List Step) (hosts : ℕ → Hosted)
      → (k : ℕ) → play_mixed xs (all_of i a ++ all_of j b) hosts k ≡ play_mixed xs (all_of j b ++ all_of i a) hosts k
