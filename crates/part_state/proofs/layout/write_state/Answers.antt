-- `part_state::layout::write_state` meets its contract: its stores are `sets` of std, and nine bytes are all that there are. Assumes nothing.
use Rattle.std.proofs.Common.{[], ◌∷◌, refl}
use Rattle.general.specs.BigEndian.{bytes_of}
use Rattle.part_format.specs.PartState.{state_bytes}
use Rattle.general.proofs.Overwrite.{back_then_front}
use Rattle.part_state.proofs.layout.write_state.Goals as goal

pub returns : goal.returns
unfolding state_bytes bytes_of
returns c =
    let front = c.args.process ∷ c.args.n ∷ c.args.t ∷ c.args.round ∷ c.args.mark ∷ [] in
    rw c.write_number.ensures (back_then_front front (bytes_of 4 c.args.value) c.args.state.now 5 refl c.requires)
