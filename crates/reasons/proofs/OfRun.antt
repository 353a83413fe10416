-- What the code reads off the table of a finished run are the reasons of its instance (document 02, Paper 7). Assumes nothing.
use mathlib.Core.List.{List, ◌++◌}
use mathlib.Core.Path.{◌≡◌, refl, sym, ap, ap₂, ◌∙◌}
use mathlib.Core.Bool.{cond}
use Prim.Native.Nat.{ℕ, zero, suc, ◌≤◌, ◌<◌}
use native.Mathlib.Omega.{arith}
use borrow.Author.Tests.{eq-eqb, ne_eqb, lt-ltb, le-ltb}
use Rattle.general.specs.Table.{tabulate}
use Rattle.general.proofs.Table.{tabulate_same}
use Rattle.general.proofs.Tests.{by_order, by_equal}
use Rattle.consensus.specs.Instance.{Instance, fault_of}
use Rattle.consensus.specs.declared.Fault.{Fault}
use Rattle.consensus.specs.declared.Fault.TheVariants.{Crashes as crashes}
use Rattle.consensus.specs.declared.CrashPoint.{CrashPoint}
use Rattle.consensus.specs.declared.CrashPoint.TheVariants.{BeforeSending as before_sending, DuringData as during_data, DuringCommits as during_commits}
use Rattle.consensus.specs.declared.State.{State}
use Rattle.consensus.specs.declared.State.TheVariants.{Undecided as undecided, Decided as decided, Crashed as crashed}
use Rattle.consensus.specs.Consensus.{IsProcess}
use Rattle.coordinator.specs.Message.{gets_data}
use Rattle.coordinator.specs.Delivery.{among_first, reach_at}
use Rattle.coordinator.specs.Run.{Run, run_of, last_round, end_of}
use Rattle.coordinator.specs.Reason.{reason_of, reasons_in, reasons_to}
use Rattle.coordinator.specs.WellFormed.{WellFormed}
use Rattle.coordinator_laws.specs.TrueReasons.{IsRound, end_round}
use Rattle.coordinator_laws.proofs.Counts.{rounds_le}
use Rattle.coordinator_laws.proofs.Settled.{none_ends_undecided}
use Rattle.coordinator_laws.proofs.ReasonsByEnds.{reasons_by_ends}
use Rattle.tables.specs.declared.instance.InstanceTable.{InstanceTable}
use Rattle.tables.specs.declared.run.RunTable.{RunTable}
use Rattle.tables.specs.code.InstanceOfTable.{instance_of}
use Rattle.tables.specs.code.RunOfTable.{run_over}
use Rattle.tables.proofs.Places.{fault_at, end_in_table}
use Rattle.coordinator_reason.specs.code.ByEnds.{data_reaches, ended_before, reason_waiting, reason_beside, coordinates, reason_by_end, reason_in_table, row_by_ends, rows_by_ends}
use Rattle.coordinator_reason.proofs.ByEnds.{with_commits}
use Rattle.run_ends.specs.code.Finished.{Finished}

-- Whom the data of a coordinator reach that crashes does not depend on how many processes there are.
data_alike : (n p round : ℕ) (point : CrashPoint) → gets_data (reach_at n point p) ≡ data_reaches p (crashes round point)
unfolding data_reaches reach_at
data_alike n p round before_sending = refl
data_alike n p round (during_data set) = refl
data_alike n p round (during_commits count) = with_commits (among_first n count p) ∙ sym (with_commits (among_first 0 count p))

module _ (x : Instance) (formed : WellFormed x) (p r : ℕ) (process : IsProcess x p) (round : IsRound x r) (coordinator : IsProcess x r) where
  -- The coordinator has ended before the round or not.
  gone : (s : State) → end_of x r ≡ s → end_round s < r → reason_waiting p r s (fault_of x r) ≡ 4
  unfolding reason_waiting ended_before end_round
  gone (undecided v) e h = absurd (none_ends_undecided x formed r v coordinator e)
  gone (decided j v) e h = rw (lt-ltb j r h) refl
  gone (crashed j) e h = rw (lt-ltb j r h) refl

  there : (s : State) → end_of x r ≡ s → r ≤ end_round s → reason_waiting p r s (fault_of x r) ≡ cond (data_reaches p (fault_of x r)) 3 5
  unfolding reason_waiting ended_before end_round
  there (undecided v) e h = absurd (none_ends_undecided x formed r v coordinator e)
  there (decided j v) e h = rw (le-ltb j r h) refl
  there (crashed j) e h = rw (le-ltb j r h) refl

  waiting : r < end_round (end_of x p) → reason_waiting p r (end_of x r) (fault_of x r) ≡ reason_of x p r
  waiting far =
      by_order r (end_round (end_of x r))
      (λ now.
      let (point, fault, reason) = (reasons_by_ends x formed).interrupted p r process round far now in
      there (end_of x r) refl now ∙ ap (λ (f : Fault). cond (data_reaches p f) 3 5) fault
      ∙ ap (λ b. cond b 3 5) (sym (data_alike x.processes p r point)) ∙ sym reason)
      (λ before. gone (end_of x r) refl before ∙ sym ((reasons_by_ends x formed).silent p r process round far before))

  -- By how the process itself ends.
  by_own : (own : State) → end_of x p ≡ own → reason_by_end p r own (end_of x r) (fault_of x r) ≡ reason_of x p r
  unfolding reason_by_end coordinates reason_beside end_round
  by_own (undecided v) e = absurd (none_ends_undecided x formed p v process e)
  by_own (decided j v) e =
      by_order r j
      (λ low.
      by_equal j r
      (λ same.
      rw (eq-eqb j r same, le-ltb j r low, le-ltb r j (omega arith))
      (sym ((reasons_by_ends x formed).decision p r v (record { process = process; state = e ∙ ap (λ (q : ℕ). decided q v) same }))))
      (λ other.
      let far : r < j = omega arith in
      rw (ne_eqb j r other, le-ltb j r low, lt-ltb r j far) (waiting (rw e far))))
      (λ before.
      let other : j ≡ r → ⊥ = λ same. omega arith in
      rw (ne_eqb j r other, lt-ltb j r before) (sym ((reasons_by_ends x formed).later p r process round (rw e before))))
  by_own (crashed j) e =
      by_order r j
      (λ low.
      by_equal j r
      (λ same.
      rw (le-ltb j r low, le-ltb r j (omega arith))
      (sym ((reasons_by_ends x formed).crash p r process (e ∙ ap crashed same))))
      (λ other.
      let far : r < j = omega arith in
      rw (le-ltb j r low, lt-ltb r j far) (waiting (rw e far))))
      (λ before. rw (lt-ltb j r before) (sym ((reasons_by_ends x formed).later p r process round (rw e before))))

module _ (table : InstanceTable) (run : RunTable) (done : Finished table run) where
  abbrev x : Instance
  x = instance_of table

  -- The rounds of the run, and that no table has more of them than processes.
  pub rounds_known : run.rounds ≡ (run_of x).rounds
  unfolding run_over
  rounds_known = ap (λ (known : Run). known.rounds) done.whole

  pub rounds_few : run.rounds ≤ run.n
  unfolding run_of instance_of
  rounds_few = omega (arith, rounds_known, rounds_le x (last_round x), done.formed.fewer_crashes, done.processes)

  pub few : run.n ≤ 64
  unfolding instance_of
  few = omega (arith, done.formed.at_most_64, done.processes)

  -- The reason of process p in round r, by the table.
  pub reason_by_table : (p r : ℕ) → 1 ≤ p → p ≤ run.n → 1 ≤ r → r ≤ run.rounds → reason_in_table table run p r ≡ reason_of x p r
  unfolding reason_in_table instance_of
  reason_by_table p r one last first known =
      let p_last : p ≤ table.n = omega (arith, done.processes) in
      let r_last : r ≤ table.n = omega (arith, done.processes, rounds_few) in
      let process : IsProcess x p = record { first = one; last = p_last } in
      let coordinator : IsProcess x r = record { first = first; last = r_last } in
      let round : IsRound x r = record { first = first; last = omega (arith, rounds_known) } in
      let own = end_in_table x run done.entries done.whole p one last in
      let its = end_in_table x run done.entries done.whole r first (omega (arith, rounds_few)) in
      let fault = fault_at table r first r_last in
      rw (sym own, sym its, sym fault) (by_own x done.formed p r process round coordinator (end_of x p) refl)

  -- A row, and all rows up to a round of the run.
  row_of_run : (r : ℕ) → suc r ≤ run.rounds → row_by_ends table run (suc r) ≡ reasons_in x (suc r)
  unfolding row_by_ends reasons_in instance_of
  row_of_run r known =
      tabulate_same _ _ run.n (λ k h. reason_by_table (suc k) (suc r) (omega arith) (omega arith) (omega arith) known)
      ∙ ap (tabulate (λ k. reason_of x (suc k) (suc r))) (done.processes)

  pub rows_of_run : (r : ℕ) → r ≤ run.rounds → rows_by_ends table run r ≡ reasons_to x r
  unfolding rows_by_ends reasons_to
  rows_of_run zero known = refl
  rows_of_run (suc r) known = ap₂ (λ (a b : List ℕ). a ++ b) (rows_of_run r (omega arith)) (row_of_run r known)
