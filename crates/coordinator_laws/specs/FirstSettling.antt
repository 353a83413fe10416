-- What is claimed of the settling round (document 02, Paper 6: "The operation must name the lowest that qualifies").
use Rattle.std.specs.Prelude.{◌≡◌, true, false, ℕ, ◌≤◌, ◌<◌}
use Rattle.consensus.specs.Instance.{Instance}
use Rattle.consensus.specs.State.{state_of}
use Rattle.consensus.specs.declared.State.{State}
use Rattle.consensus.specs.declared.State.TheVariants.{Undecided as undecided, Decided as decided, Crashed as crashed}
use Rattle.consensus.specs.Consensus.{IsProcess, Decides}
use Rattle.coordinator.specs.Run.{run_to, run_of, end_of}
use Rattle.coordinator.specs.Settling.{qualifies}

-- Round r is the first that qualifies.
pub record FirstSettles (x : Instance) (r : ℕ) : Type 0 where
  -- it is one of the run's rounds
  pub within : (1 ≤ r) × (r ≤ (run_of x).rounds)
  -- it qualifies, by document 01's definition
  pub qualified : qualifies x r ≡ true
  -- no lower one does
  pub lowest : (q : ℕ) → q < r → qualifies x q ≡ false

-- A process in this state is crashed, or it holds v: decided, adopted or still its own proposal.
pub data HoldsOrCrashed (v : ℕ) : State → Type 0 where
  holds : HoldsOrCrashed v (undecided v)
  has_decided : {q : ℕ} → HoldsOrCrashed v (decided q v)
  has_crashed : {q : ℕ} → HoldsOrCrashed v (crashed q)

-- Every process that is not crashed at the end of round r holds v.
unfoldable pub AllHold : Instance → (r v : ℕ) → Type 0
AllHold x r v = (p : ℕ) → IsProcess x p → HoldsOrCrashed v (state_of (run_to x r).states p)

-- What holds from the end of round r on.
pub record SettledSince (x : Instance) (r : ℕ) : Type 0 where
  -- once a round qualifies, every later one of the run does
  pub later_qualify : (q m : ℕ) → qualifies x q ≡ true → q ≤ m → m ≤ (run_of x).rounds → qualifies x m ≡ true
  -- at its end, and at that of every later round of the run, all processes not crashed hold this value
  pub value : ℕ
  pub held : (m : ℕ) → r ≤ m → m ≤ (run_of x).rounds → AllHold x m value
  -- whoever decides decides it, and in this round or a later one
  pub decision : (p q v : ℕ) → Decides x (end_of x) p q v → (v ≡ value) × (r ≤ q)
