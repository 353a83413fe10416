-- Counts of three processes, worked out by hand: one of them raised, what each has, and their sum.
use Rattle.std.specs.Prelude.{[], ◌∷◌, map, ◌≡◌}
use Rattle.general.specs.Counts.{count_of, add_at, sum_to}

pub record CountCases : Type 0 where
  pub raised : add_at 2 5 (1 ∷ 2 ∷ 4 ∷ []) ≡ 1 ∷ 7 ∷ 4 ∷ []
  -- process 4 is none of them
  pub each : map (count_of (1 ∷ 2 ∷ 4 ∷ [])) (1 ∷ 2 ∷ 3 ∷ 4 ∷ []) ≡ 1 ∷ 2 ∷ 4 ∷ 0 ∷ []
  pub sum : sum_to (count_of (1 ∷ 2 ∷ 4 ∷ [])) 3 ≡ 7
