-- `result_lines::process_bytes` meets its contract, by the state. Assumes nothing.
use Rattle.general.proofs.BigEndianStd.{bytes_std}
use Rattle.answers.specs.ResultLine.{end_bytes}
use Rattle.result_lines.proofs.process_bytes.Goals.{in-Undecided, in-Decided, in-Crashed}
use Rattle.result_lines.proofs.process_bytes.Goals as goal

pub returns : goal.returns
unfolding end_bytes
returns c =
    elim c.match-state.branch [
      | in-Undecided w ↦ rw (w.in-Undecided.is, ← bytes_std 4 w.in-Undecided.value, c.to_be_bytes.ensures, w.end-is)
      | in-Decided w ↦ rw (w.in-Decided.is, ← bytes_std 4 w.in-Decided.value, c.to_be_bytes.ensures, w.end-is)
      | in-Crashed w ↦ rw (w.in-Crashed.is, ← bytes_std 4 0, c.to_be_bytes.ensures, w.end-is)
    ]
