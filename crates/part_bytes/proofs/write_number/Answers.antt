-- `part_bytes::write_number` meets its contract: the four stores are `sets` of std. Assumes nothing.
use Rattle.std.proofs.Common.{◌/◌, ◌%◌}
use Rattle.general.specs.BigEndian.{bytes_of}
use Rattle.general.proofs.Overwrite.{four_stored}
use Rattle.part_bytes.proofs.write_number.Goals as goal

pub returns : goal.returns
unfolding bytes_of
returns c =
    let v = c.args.value in
    four_stored c.args.b.now c.args.at (v / 256 / 256 / 256 % 256) (v / 256 / 256 % 256) (v / 256 % 256) (v % 256)
