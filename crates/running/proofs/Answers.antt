-- One law for each reply of running and settling, over plain variables. Assumes nothing.
use mathlib.Core.List.{List, ◌++◌}
use mathlib.Core.Path.{◌≡◌, sym, ap, ◌∙◌}
use Prim.Native.Nat.{ℕ, ◌≤◌, ◌<◌}
use native.Mathlib.Omega.{arith}
use borrow.Author.Tests.{lt-ltb, le-ltb}
use mathlib.Core.Bool.{true, false}
use lib.ListN.{length, take, drop}
use Rattle.general.specs.Answer.{accepted, refused}
use Rattle.consensus.specs.Instance.{Instance}
use Rattle.consensus.specs.CrashCount.{crash_count}
use Rattle.coordinator.specs.Run.{Run, run_of, crashes_of}
use Rattle.coordinator.specs.SentBy.{data_by, commits_by}
use Rattle.coordinator.specs.Settling.{first_settling}
use Rattle.coordinator.specs.WellFormed.{WellFormed}
use Rattle.coordinator_laws.proofs.FirstSettling.{rounds_settled}
use Rattle.tables.specs.code.InstanceOfTable.{instance_of}
use Rattle.tables.specs.declared.instance.InstanceTable.{InstanceTable}
use Rattle.tables.specs.declared.run.RunTable.{RunTable}
use Rattle.tables.specs.declared.sent.SentCounts.{SentCounts}
use Rattle.tables.specs.code.RunOfTable.{states_in, run_over, run_from}
use Rattle.tables.proofs.Places.{processes_of}
use Rattle.answers.specs.ResultLine.{result_text, result_lines, result_size}
use Rattle.answers.proofs.ResultLength.{length-text}
use Rattle.answers.specs.Running.{result_in}
use Rattle.answers.specs.Reply.{Writing}
use Rattle.answers.specs.Reply.{Given, Refused}
use Rattle.answers.proofs.Replies.{writing_refused, writing_given}
use Rattle.coordinator_run.specs.code.Running.{RunOf}

module _ (x : Instance) (room : ℕ) where
  result_short : room < result_size x.processes → result_in room x ≡ refused 9 0
  unfolding result_in
  result_short h = simp (lt-ltb _ _ h)

  result_fits : result_size x.processes ≤ room → result_in room x ≡ accepted (result_text x)
  unfolding result_in
  result_fits h = simp (le-ltb _ _ h)

-- What is written of the code's run and its f is the instance's result.
run_written : (table : InstanceTable) (before after : List ℕ) (run : RunTable) (sent : SentCounts) (f : ℕ)
    → RunOf (instance_of table) false run sent
    → f ≡ crash_count (instance_of table).pattern (states_in run)
    → after ≡ result_lines (run_from run) (take run.n sent.data_by) (take run.n sent.commits_by) f ++ drop (result_size run.n) before
    → after ≡ result_text (instance_of table) ++ drop (result_size table.n) before
unfolding result_text crashes_of run_over run_of data_by commits_by
run_written table before after run sent f ran counted stored =
    let crashes = counted ∙ ap (λ (r : Run). crash_count (instance_of table).pattern r.states) ran.run in
    let processes : run.n ≡ table.n = ran.processes ∙ processes_of table in
    stored ∙ rw (ran.run, ran.data_sent, ran.commits_sent, crashes, processes)

module _ (table : InstanceTable) (before : List ℕ) (size : ℕ) (sized : size ≡ result_size table.n) where
  pub run_short : length before < size → Writing (λ room. result_in room (instance_of table)) before before (Refused 9 0)
  unfolding instance_of
  run_short h = writing_refused _ before 9 0 (result_short (instance_of table) (length before) (omega arith))

  pub run_given : WellFormed (instance_of table) → size ≤ length before
      → (after : List ℕ) (run : RunTable) (sent : SentCounts) (f : ℕ)
      → RunOf (instance_of table) false run sent
      → f ≡ crash_count (instance_of table).pattern (states_in run)
      → after ≡ result_lines (run_from run) (take run.n sent.data_by) (take run.n sent.commits_by) f ++ drop (result_size run.n) before
      → Writing (λ room. result_in room (instance_of table)) before after (Given size)
  unfolding instance_of
  run_given formed fits after run sent f ran counted stored =
      let x : Instance = instance_of table in
      let long : length (result_text x) ≡ result_size table.n = length-text x formed in
      writing_given _ before (result_text x) size after (result_fits x (length before) (omega arith)) (sized ∙ sym long)
      (run_written table before after run sent f ran counted stored ∙ ap (λ (k : ℕ). result_text x ++ drop k before) (sym long))

-- The run up to its settling round has as many rounds.
pub settled_in : (table : InstanceTable) (run : RunTable) (sent : SentCounts) → WellFormed (instance_of table)
    → RunOf (instance_of table) true run sent → run.rounds ≡ first_settling (instance_of table)
unfolding run_over
settled_in table run sent formed ran =
    ap (λ (known : Run). known.rounds) ran.run ∙ rounds_settled (instance_of table) formed
