-- The count of the failure lines that are not idle, process by process: what is left to count. Assumes nothing.
use mathlib.Core.Path.{◌≡◌, refl}
use Prim.Native.Nat.{ℕ, suc, ◌+◌, ◌-◌, ◌≤◌, ◌<◌}
use native.Mathlib.Omega.{arith}
use lib.ListN.{length, get_or, drop, drop_of_length-le}
use lib.Seq.{drop-cons}
use Rattle.consensus.specs.Instance.{fault_of}
use Rattle.consensus.specs.declared.Fault.TheVariants.{Correct as correct}
use Rattle.consensus.specs.State.{state_of}
use Rattle.consensus.specs.declared.State.{State}
use Rattle.consensus.specs.declared.State.TheVariants.{Crashed as crashed}
use Rattle.consensus.specs.CrashCount.{counts_as_crash, crash_count}
use Rattle.tables.specs.declared.instance.InstanceTable.{InstanceTable}
use Rattle.tables.specs.declared.run.RunTable.{RunTable}
use Rattle.tables.specs.code.InstanceOfTable.{instance_of}
use Rattle.tables.specs.code.RunOfTable.{state_by_end, states_in}
use Rattle.tables.proofs.Places.{length-pattern, length_states_over, fault_at, state_at_place}

-- f of the processes above the first k.
abbrev pub crashes_from : InstanceTable → RunTable → ℕ → ℕ
crashes_from table run k = crash_count (drop k (instance_of table).pattern) (drop k (states_in run))

module _ (table : InstanceTable) (run : RunTable) (faults : table.n ≤ length table.pattern) (entries : run.n ≤ length run.ends) (same : run.n ≡ table.n) where
  -- What is left to count from process p on is what p counts and what is left behind it.
  pub crashes_at : (p : ℕ) → 1 ≤ p → p ≤ table.n → (s : State)
      → s ≡ state_by_end (get_or run.ends (p - 1) 0) (get_or run.end_rounds (p - 1) 0) (get_or run.values (p - 1) 0)
      → crashes_from table run (p - 1) ≡ counts_as_crash (get_or table.pattern (p - 1) correct) s + crashes_from table run p
  unfolding crash_count fault_of state_of
  crashes_at p first last s its =
      let next : suc (p - 1) ≡ p = omega arith in
      let in_pattern : p - 1 < length (instance_of table).pattern = omega (arith, length-pattern table faults) in
      let in_states : p - 1 < length (states_in run) = omega (arith, length_states_over run.n run.ends run.end_rounds run.values entries) in
      rw (drop-cons (instance_of table).pattern (p - 1) correct in_pattern, next, drop-cons (states_in run) (p - 1) (crashed 0) in_states, next)
      (rw (fault_at table p first last, state_at_place run.n run.ends run.end_rounds run.values entries p first (omega arith), its) refl)

  -- Behind the last process none is left.
  pub crashes_none : crashes_from table run table.n ≡ 0
  unfolding crash_count
  crashes_none =
      let size : length (instance_of table).pattern ≤ table.n = omega (arith, length-pattern table faults) in
      rw (drop_of_length-le (instance_of table).pattern {i = table.n} size)
