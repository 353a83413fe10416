-- The stage of a ticket that its place and the arrays filled so far stand for. Assumes nothing.
use lib.ListN.{take}
use Rattle.consensus.specs.Instance.{Instance}
use Rattle.tables.specs.code.InstanceOfTable.{instance_of}
use Rattle.tables.specs.declared.instance.InstanceTable.{InstanceTable}
use Rattle.ticket_format.specs.Accept.{Stage, body}
use Rattle.ticket_format.specs.declared.Place.{Place}
use Rattle.ticket_format.specs.declared.Place.TheVariants.{Proposals, Failures, Ended}

-- The instance as described so far: the table's, with the proposals that were made.
unfoldable pub so_far : Place → InstanceTable → Instance
so_far (Proposals count) table =
    record { processes = table.n; resilience = table.t; proposals = take count table.proposals; pattern = (instance_of table).pattern }
so_far (Failures lines last) table = instance_of table
so_far Ended table = instance_of table

abbrev pub stage_of : Place → InstanceTable → Stage
stage_of place table = body place (so_far place table)
