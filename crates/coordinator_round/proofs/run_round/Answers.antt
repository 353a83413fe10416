-- `coordinator_round::run_round` meets its contract: what it stores, from what its callees ensure. Assumes nothing.
use Rattle.std.proofs.Common.{rules}
use Rattle.coordinator_round.proofs.Stored.{Sized}
use Rattle.coordinator_round.proofs.RoundDone.{round_done}
use Rattle.coordinator_round.proofs.run_round.Goals as goal

pub returns : goal.returns
returns c =
    let sized : Sized c.args.run = search rules in
    rw (
      c.fill-3.ensures,
      c.fill-2.ensures,
      c.fill-4.ensures,
      c.fill.ensures,
      c.from.ensures,
      c.size.ensures,
      c.from-2.ensures,
      c.size-2.ensures,
      c.speakers_in.ensures,
      c.sending-sent.ensures,
    )
    (round_done _ _ _ _ sized c.requires)
