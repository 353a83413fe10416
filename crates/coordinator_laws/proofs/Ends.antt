-- The end of a whole run in the form of Pointwise, of which the theorems are proved. For well-formed instances. Assumes nothing else.
use mathlib.Core.Path.{◌≡◌, sym, ◌∙◌}
use Prim.Native.Nat.{ℕ}
use native.Mathlib.Omega.{arith}
use lib.ListN.{length}
use Rattle.general.proofs.Indexed.{length-map_from, map_from_at}
use Rattle.consensus.specs.Instance.{Instance}
use Rattle.consensus.specs.declared.Fault.TheVariants.{Correct as correct}
use Rattle.consensus.specs.State.{state_of}
use Rattle.consensus.specs.declared.State.{State}
use Rattle.consensus.specs.declared.State.TheVariants.{Decided as decided, Crashed as crashed}
use Rattle.coordinator.specs.Run.{run_of, last_round, end_of}
use Rattle.coordinator.specs.WellFormed.{WellFormed}
use Rattle.consensus.specs.Consensus.{IsProcess, Decides, ends_of}
use Rattle.consensus.proofs.SameEnds.{SameEnds}
use Rattle.coordinator_laws.proofs.Pointwise.{state_at, state_at_lem, length-states, states_ext}

module _ (x : Instance) (formed : WellFormed x) where
  -- There is a state for each process.
  pub states_at_end : length (run_of x).states ≡ x.processes
  unfolding run_of
  states_at_end = length-states x _ ∙ formed.all_propose

  -- The end of a process is its state after t + 1 rounds.
  pub end_at : (p : ℕ) → IsProcess x p → end_of x p ≡ state_at x (last_round x) p
  unfolding end_of run_of
  end_at p process = state_at_lem x (last_round x) p (omega arith) process.first (omega arith)

  pub decided_at : {p r v : ℕ} → Decides x (end_of x) p r v → state_at x (last_round x) p ≡ decided r v
  decided_at {p} d = sym (end_at p d.process) ∙ d.state

-- The ends of the coordinator's run, in order, are its last states.
pub ends_in_order : (x : Instance) → WellFormed x → (ends : ℕ → State) → SameEnds x (end_of x) ends → ends_of x ends ≡ (run_of x).states
unfolding SameEnds ends_of end_of state_of
ends_in_order x formed ends same =
    let as_many : length (ends_of x ends) ≡ x.processes = simp length-map_from formed.all_have_fault in
    states_ext x.processes (ends_of x ends) (run_of x).states as_many (states_at_end x formed)
    (λ p h g. map_from_at _ x.pattern p correct (crashed 0) h (omega (arith, formed.all_have_fault)) ∙ sym (same p (record { first = h; last = g })))
