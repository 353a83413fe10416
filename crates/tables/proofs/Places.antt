-- What a table says of one process, and of how many. Assumes nothing.
use mathlib.Core.List.{List}
use mathlib.Core.Path.{◌≡◌, refl, sym, ap, ◌∙◌}
use Prim.Native.Nat.{ℕ, ◌-◌, ◌≤◌}
use native.Mathlib.Omega.{arith}
use lib.ListN.{length, get_or, take, length-take}
use lib.Seq.{get_or-take}
use Rattle.general.proofs.Indexed.{length-map_from, map_from_at}
use Rattle.consensus.specs.Instance.{Instance, fault_of, proposal_of}
use Rattle.consensus.specs.State.{state_of}
use Rattle.consensus.specs.declared.Fault.TheVariants.{Correct as correct}
use Rattle.consensus.specs.declared.State.TheVariants.{Crashed as crashed}
use Rattle.coordinator.specs.Run.{Run, run_of, end_of}
use Rattle.tables.specs.declared.instance.InstanceTable.{InstanceTable}
use Rattle.tables.specs.declared.run.RunTable.{RunTable}
use Rattle.tables.specs.code.InstanceOfTable.{instance_of}
use Rattle.tables.specs.code.RunOfTable.{state_by_end, state_over, states_over, run_over, run_from}

-- How many processes a table has, and how many may crash.
pub processes_of : (x : InstanceTable) → (instance_of x).processes ≡ x.n
unfolding instance_of
processes_of x = refl

pub resilience_of : (x : InstanceTable) → (instance_of x).resilience ≡ x.t
unfolding instance_of
resilience_of x = refl

-- A table has a fault for each process.
pub length-pattern : (x : InstanceTable) → x.n ≤ length x.pattern → length (instance_of x).pattern ≡ x.n
unfolding instance_of
length-pattern x fits = length-take x.n x.pattern ∙ omega arith

-- The fault of process p in a table, and its proposal.
pub fault_at : (x : InstanceTable) (p : ℕ) → 1 ≤ p → p ≤ x.n → fault_of (instance_of x) p ≡ get_or x.pattern (p - 1) correct
unfolding fault_of instance_of
fault_at x p h g = get_or-take x.n x.pattern (p - 1) correct (omega arith)

pub proposal_at : (x : InstanceTable) (p : ℕ) → 1 ≤ p → p ≤ x.n → proposal_of (instance_of x) p ≡ get_or x.proposals (p - 1) 0
unfolding proposal_of instance_of
proposal_at x p h g = get_or-take x.n x.proposals (p - 1) 0 (omega arith)

-- Arrays have a state for each process, and this is that of process p.
module _ (n : ℕ) (ends end_rounds values : List ℕ) (fits : n ≤ length ends) where
  pub length_states_over : length (states_over n ends end_rounds values) ≡ n
  unfolding states_over
  length_states_over = length-map_from (state_over end_rounds values) 1 (take n ends) ∙ length-take n ends ∙ omega arith

  pub state_at_place : (p : ℕ) → 1 ≤ p → p ≤ n
      → state_of (states_over n ends end_rounds values) p ≡ state_by_end (get_or ends (p - 1) 0) (get_or end_rounds (p - 1) 0) (get_or values (p - 1) 0)
  unfolding state_of states_over state_over
  state_at_place p h g =
      let inside : p ≤ length (take n ends) = rw length-take (omega arith) in
      map_from_at (state_over end_rounds values) (take n ends) p 0 (crashed 0) h inside
      ∙ ap (state_over end_rounds values p) (get_or-take n ends (p - 1) 0 (omega arith))

-- How process p ends in the whole run that a table stands for.
pub end_in_table : (x : Instance) (run : RunTable) → run.n ≤ length run.ends → run_from run ≡ run_of x → (p : ℕ) → 1 ≤ p → p ≤ run.n
    → end_of x p ≡ state_by_end (get_or run.ends (p - 1) 0) (get_or run.end_rounds (p - 1) 0) (get_or run.values (p - 1) 0)
unfolding end_of run_over
end_in_table x run fits whole p h g =
    sym (ap (λ (known : Run). state_of known.states p) whole) ∙ state_at_place run.n run.ends run.end_rounds run.values fits p h g
