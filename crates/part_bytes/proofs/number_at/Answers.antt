-- `part_bytes::number_at` meets its contract: the four bytes are the list from there on. Assumes nothing.
use Rattle.std.proofs.Common.{◌∙◌}
use Rattle.general.proofs.BigEndianStd.{number_four_at}
use Rattle.part_bytes.proofs.number_at.Goals as goal

pub returns : goal.returns
returns c = c.from_be_bytes.ensures ∙ number_four_at c.args.b.now c.args.at c.requires
