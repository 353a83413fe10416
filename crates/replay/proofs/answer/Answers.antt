-- `replay::answer` meets its contract: what running writes has room in the buffer. Assumes nothing.
use Rattle.std.proofs.Common.{ap, arith}
use Rattle.answers.specs.Reply.{reply_of}
use Rattle.replay.proofs.RanIn.{written_fits_in}
use Rattle.replay.proofs.answer.Goals as goal

pub split_at-requires : goal.split_at-requires
unfolding reply_of
split_at-requires c = omega (arith, written_fits_in _ _ _ _ _ c.in-Ok.size c.run_in.ensures (ap reply_of c.in-Ok.is))
