-- `result_lines::refusal_bytes` meets its contract. Assumes nothing.
use Rattle.general.proofs.BigEndianStd.{bytes_std}
use Rattle.result_lines.proofs.refusal_bytes.Goals as goal

pub returns : goal.returns
returns c = rw (← bytes_std 2 c.args.line, c.to_be_bytes.ensures)
