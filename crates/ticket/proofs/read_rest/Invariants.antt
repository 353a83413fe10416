-- `read_rest` meets its contract: the loop keeps that what is left is read on from here. Assumes nothing.
use Rattle.std.proofs.Common.{◌-◌, length}
use Rattle.ticket.specs.code.FirstLine.{rest_of}
use Rattle.ticket.proofs.Reached.{Reached}
use Rattle.ticket.proofs.read_rest.Given as goal

abbrev pub invariant-loop-reader : goal.invariant-loop-reader
invariant-loop-reader l =
    Reached (rest_of l.fn.reader.text.now l.fn.limits l.fn.reader.at) l.reader.text.now l.fn.limits l.table l.reader.at l.place l.k

abbrev pub decreases-loop-reader : goal.decreases-loop-reader
decreases-loop-reader l = length l.reader.text.now - l.reader.at
