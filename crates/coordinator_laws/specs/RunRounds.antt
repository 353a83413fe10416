-- The rounds of a run (document 01, 'A round': "Its rounds are the last round that began with such a station, silent rounds included").
use Rattle.std.specs.Prelude.{◌≡◌, ℕ, suc, ◌<◌, leb}
use Rattle.consensus.specs.Instance.{Instance}
use Rattle.coordinator.specs.Undecided.{any_undecided}
use Rattle.coordinator.specs.Run.{run_to}

-- The claim: of the first m rounds of an instance, well-formed or not, round q + 1 begins with a process up and undecided just if it is no later than the
-- run's rounds; at m = t + 1 these are the rounds of the whole run.
unfoldable pub RunRounds : Type 0
RunRounds = (x : Instance) (q m : ℕ) → q < m → any_undecided (run_to x q).states ≡ leb (suc q) (run_to x m).rounds
