-- `simulate::answer` meets its contract: the buffer has room for the result of 64 processes. Assumes nothing.
use Rattle.std.proofs.Common.{rules}
use Rattle.answers.specs.ResultLine.{result_size}
use Rattle.simulate.proofs.answer.Goals as goal

pub answer_text-size-requires : goal.answer_text-size-requires
unfolding result_size
answer_text-size-requires c = search rules
