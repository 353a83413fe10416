-- `part_frames::write_frames` meets its contract: its stores are `sets` of std. Assumes nothing.
use Rattle.general.specs.BigEndian.{bytes_of}
use Rattle.coordinator.specs.Message.{estimate_and_commit}
use Rattle.part_format.specs.Frame.{frames_of, data_frame, commit_frame}
use Rattle.general.proofs.Overwrite.{stored}
use Rattle.part_frames.proofs.write_frames.Goals as goal

pub returns : goal.returns
unfolding frames_of data_frame commit_frame bytes_of
returns c = rw c.write_number.ensures (stored (frames_of c.args.round (estimate_and_commit c.args.value)) c.args.output.now c.requires)
