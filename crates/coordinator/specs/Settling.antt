-- The rounds that qualify for the settling operation (document 01, 'The result', last paragraph), and the one that it names (document 02, Paper 6).
use Rattle.std.specs.Prelude.{List, [], ◌∷◌, ℕ, Bool, true, ◌&&◌, eqb, leb}
use Rattle.general.specs.Search.{lowest_from}
use Rattle.consensus.specs.Instance.{Instance}
use Rattle.consensus.specs.declared.State.{State}
use Rattle.consensus.specs.declared.State.TheVariants.{Undecided as undecided, Decided as decided, Crashed as crashed}
use Rattle.coordinator.specs.Run.{run_to, run_of, last_round}

-- The values that the processes hold that are not crashed, be they decided, adopted or still their own proposals.
unfoldable pub values_held : List State → List ℕ
values_held [] = []
values_held (undecided v ∷ states) = v ∷ values_held states
values_held (decided round v ∷ states) = v ∷ values_held states
values_held (crashed round ∷ states) = values_held states

-- Whether every value of a list is v.
unfoldable pub all_are : (v : ℕ) → List ℕ → Bool
all_are v [] = true
all_are v (w ∷ values) = eqb v w && all_are v values

-- Whether a list holds one value.
unfoldable pub one_value : List ℕ → Bool
one_value [] = true
one_value (v ∷ values) = all_are v values

-- Round r qualifies: it is one of the run's rounds, and at its end all processes not crashed hold one value.
unfoldable pub qualifies : Instance → ℕ → Bool
qualifies x r = leb 1 r && leb r (run_of x).rounds && one_value (values_held (run_to x r).states)

-- The settling round: the lowest that qualifies ("The operation must name the lowest that qualifies"), looked for among rounds 1 to t + 1. In a well-formed
-- instance one of them does.
unfoldable pub first_settling : Instance → ℕ
first_settling x = lowest_from (qualifies x) 1 (last_round x)
