-- `result::write_result` meets its contract: the lines of the processes, then the last line in the part that follows them. Assumes nothing.
use Rattle.std.proofs.Common.{arith}
use Rattle.tables.specs.code.RunOfTable.{run_over, run_from}
use Rattle.tables.proofs.Places.{length_states_over}
use Rattle.result.proofs.ResultLine.{result_written}
use Rattle.result.proofs.write_result.Goals as goal

pub returns : goal.returns
unfolding run_over
returns c =
    let run = c.args.run.now in
    let all = length_states_over run.n run.ends run.end_rounds run.values (omega arith) in
    rw c.from.ensures
    (result_written (run_from run) _ _ c.args.f run.n all c.args.out.now _ _ _ c.requires.1 c.put_process_lines.ensures c.last_bytes-line.ensures
    (rw c.from.ensures at c.put_line.ensures))
