-- What a process decides in a finished run, over plain variables. Assumes nothing.
use mathlib.Core.Path.{◌≡◌, refl, sym, ap, ◌∙◌}
use mathlib.Core.Bool.{Bool, true, false, ◌&&◌}
use Prim.Native.Nat.{ℕ, ◌-◌, ◌≤◌, ◌<◌}
use borrow.Author.Tests.{le-leb, lt-leb}
use lib.Dec.{leb}
use lib.ListN.{get_or}
use Rattle.std.specs.Prelude.{None}
use Rattle.consensus.specs.Instance.{Instance}
use Rattle.consensus.specs.declared.State.{State}
use Rattle.consensus.specs.declared.State.TheVariants.{Undecided as undecided, Decided as decided, Crashed as crashed}
use Rattle.tables.specs.declared.instance.InstanceTable.{InstanceTable}
use Rattle.tables.specs.declared.run.RunTable.{RunTable}
use Rattle.tables.specs.code.InstanceOfTable.{instance_of}
use Rattle.tables.specs.code.RunOfTable.{state_by_end}
use Rattle.tables.proofs.Places.{processes_of, end_in_table}
use Rattle.run_ends.specs.code.Finished.{Finished}
use Rattle.run_ends.specs.code.Decision.{value_decided, decided_in}

-- A state that is no decision decides nothing.
pub none_by : (s : State) → ((round v : ℕ) → s ≡ decided round v → ⊥) → None ≡ value_decided s
unfolding value_decided
none_by (undecided v) other = refl
none_by (decided round v) other = absurd (other round v refl)
none_by (crashed round) other = refl

module _ (table : InstanceTable) (p : ℕ) where
  abbrev x : Instance
  x = instance_of table

  outside : (leb 1 p && leb p x.processes) ≡ false → None ≡ decided_in p x
  unfolding decided_in
  outside e = rw e refl

  fails_last : (b : Bool) → (b && false) ≡ false
  fails_last true = refl
  fails_last false = refl

  -- No such process.
  pub below_1 : p < 1 → None ≡ decided_in p x
  below_1 h = outside (rw (lt-leb 1 p h) refl)

  pub above_n : table.n < p → None ≡ decided_in p x
  above_n h = outside (rw (processes_of table, lt-leb p table.n h, fails_last (leb 1 p)) refl)

  -- By the state of the process in the run's table.
  pub by_state : (run : RunTable) → Finished table run → 1 ≤ p → p ≤ table.n → (s : State)
      → s ≡ state_by_end (get_or run.ends (p - 1) 0) (get_or run.end_rounds (p - 1) 0) (get_or run.values (p - 1) 0)
      → value_decided s ≡ decided_in p x
  unfolding decided_in
  by_state run done one last s known =
      let within : (leb 1 p && leb p x.processes) ≡ true = rw (processes_of table, le-leb 1 p one, le-leb p table.n last) refl in
      let inside : p ≤ run.n = rw (done.processes) last in
      rw within (ap value_decided (known ∙ sym (end_in_table x run done.entries done.whole p one inside)))
