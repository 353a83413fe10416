-- `decision_in` meets its contract: no such process, or its state says what it decides. Assumes nothing.
use Rattle.std.proofs.Common.{◌∙◌, arith}
use Rattle.tables.specs.code.InstanceOfTable.{instance_of}
use Rattle.run_ends.specs.code.Decision.{value_decided}
use Rattle.run_ends.proofs.Ends.{below_1, above_n, by_state, none_by}
use Rattle.run_ends.proofs.decision_in.Goals as goal
use Rattle.run_ends.proofs.decision_in.Goals.{then-process-lt1-via-then-process-lt1, then-process-lt1-via-else-process-lt1+then-from-process}

pub returns-then-process-lt1 : goal.returns-then-process-lt1
returns-then-process-lt1 c =
    elim c.then-process-lt1.branch [
      | then-process-lt1-via-then-process-lt1 w ↦ below_1 _ _ w.if-process-lt1.true
      | then-process-lt1-via-else-process-lt1+then-from-process w ↦ above_n _ _ (omega (arith, w.from.ensures, w.if-from-process.true))
    ]

pub state-requires : goal.state-requires
unfolding instance_of
state-requires c = omega (arith, c.args.instance.well_formed.at_most_64, c.from.ensures)

pub returns-in-Decided : goal.returns-in-Decided
unfolding value_decided
returns-in-Decided c =
    rw c.in-Decided.is at (by_state _ _ _ c.whole_run-run.ensures (omega arith) (omega (arith, c.from.ensures)) _ c.state.ensures)

pub returns-in_default : goal.returns-in_default
returns-in_default c =
    none_by _ c.in_default.not-Decided ∙ by_state _ _ _ c.whole_run-run.ensures (omega arith) (omega (arith, c.from.ensures)) _ c.state.ensures
