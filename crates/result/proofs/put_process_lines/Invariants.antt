-- `result::put_process_lines`: the lines of the processes before p, followed by what stood there before.
use Rattle.std.proofs.Common.{◌≡◌, ◌+◌, ◌-◌, ◌≤◌, take}
use Rattle.tables.specs.code.RunOfTable.{states_in}
use Rattle.result.proofs.ResultLine.{with_lines}
use Rattle.result.proofs.put_process_lines.Given as goal

abbrev pub invariant-loop-p : goal.invariant-loop-p
invariant-loop-p l =
    (l.p ≤ l.run.n + 1)
    × (l.out ≡ with_lines (take l.run.n l.sent.data_by) (take l.run.n l.sent.commits_by) (states_in l.run) l.initial.out (l.p - 1))
