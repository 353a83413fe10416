-- `result_lines::last_bytes` meets its contract. Assumes nothing.
use Rattle.general.proofs.BigEndianStd.{bytes_std}
use Rattle.result_lines.proofs.last_bytes.Goals as goal

pub returns : goal.returns
returns c = rw (← bytes_std 2 c.args.data_sent, ← bytes_std 2 c.args.commits_sent, c.to_be_bytes.ensures, c.to_be_bytes-2.ensures)
