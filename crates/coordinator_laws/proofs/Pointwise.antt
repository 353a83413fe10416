-- The run as a function of the round and the process, which the theorems about whole runs are proved of: no lists, no ranges.
-- One law links it to the run of specs/Run at each process; and states that are the same at each process are the same. Assumes nothing.
use mathlib.Core.List.{List, map}
use mathlib.Core.Path.{◌≡◌, ◌∙◌}
use Prim.Native.Nat.{ℕ, zero, suc, ◌-◌, ◌≤◌, ◌<◌}
use native.Mathlib.Omega.{arith}
use lib.ListN.{length, length-map, get_or-map}
use Rattle.general.proofs.Indexed.{length-map_from, map_from_at, numbered_ext}
use Rattle.general.proofs.Lists.{get_d_inside}
use Rattle.coordinator.specs.Message.{Messages}
use Rattle.consensus.specs.Instance.{Instance, proposal_of, fault_of}
use Rattle.consensus.specs.State.{state_of}
use Rattle.consensus.specs.declared.State.{State}
use Rattle.consensus.specs.declared.State.TheVariants.{Undecided as undecided, Crashed as crashed}
use Rattle.coordinator.specs.Round.{received, after, states_after}
use Rattle.coordinator.specs.Run.{initial, with_round, run_to}

-- What process p receives in round r, whose coordinator began it in the state `c`.
abbrev pub received_in : Instance → ℕ → State → ℕ → Messages
received_in x r c p = received x.processes r (fault_of x r) c p

-- The state of process p after rounds 1 to r.
unfoldable pub state_at : Instance → ℕ → ℕ → State
state_at x zero p = undecided (proposal_of x p)
state_at x (suc r) p = after (suc r) p (fault_of x p) (received_in x (suc r) (state_at x r (suc r)) p) (state_at x r p)

-- Lists of states that are the same at each process are the same.
pub states_ext : (n : ℕ) (l m : List State) → length l ≡ n → length m ≡ n
    → ((p : ℕ) → 1 ≤ p → p ≤ n → state_of l p ≡ state_of m p) → l ≡ m
unfolding state_of
states_ext n l m hl hm same = numbered_ext (crashed 0) n l m hl hm same

-- There is a state for each proposal throughout.
pub length-states : (x : Instance) (r : ℕ) → length (run_to x r).states ≡ length x.proposals
unfolding run_to initial with_round states_after
length-states x zero = length-map x.proposals undecided
length-states x (suc r) = length-map_from _ 1 (run_to x r).states ∙ length-states x r

module _ (x : Instance) where
  -- Before round 1 every process holds its proposal.
  pub initial_state : (p : ℕ) → 1 ≤ p → p ≤ length x.proposals → state_of (initial x).states p ≡ undecided (proposal_of x p)
  unfolding state_of initial proposal_of
  initial_state p h g =
      let inside : p - 1 < length (map undecided x.proposals) = rw length-map (omega arith) in
      get_d_inside (map undecided x.proposals) (p - 1) (crashed 0) (undecided 0) inside
      ∙ get_or-map undecided x.proposals (p - 1) 0

  -- A round takes each process by itself.
  pub round_state : (r p : ℕ) (states : List State) → 1 ≤ p → p ≤ length states
      → state_of (states_after x r states) p ≡ after r p (fault_of x p) (received_in x r (state_of states r) p) (state_of states p)
  unfolding state_of states_after
  round_state r p states h g = map_from_at _ states p (crashed 0) (crashed 0) h g

  -- The run after rounds 1 to r, at process p.
  pub state_at_lem : (r p : ℕ) → r ≤ length x.proposals → 1 ≤ p → p ≤ length x.proposals → state_of (run_to x r).states p ≡ state_at x r p
  unfolding run_to with_round state_at
  state_at_lem zero p _ h g = initial_state p h g
  state_at_lem (suc r) p k h g =
      round_state (suc r) p (run_to x r).states h (rw length-states g)
      ∙ rw (state_at_lem r (suc r) (omega arith) (omega arith) k, state_at_lem r p (omega arith) h g)
