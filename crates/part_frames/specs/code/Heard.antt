-- For the code alone: the answers of its reader, as the definitions' messages (document 01, 'The desk part': "what was heard").
use Rattle.std.proofs.Math.Option.{Option, some, none}
use Rattle.coordinator.specs.Message as message
use Rattle.part_frames.specs.declared.Messages.{Messages}
use Rattle.part_frames.specs.declared.Messages.TheVariants.{Nothing, Estimate, EstimateAndCommit}
use Rattle.part_frames.specs.declared.Heard.{Heard}
use Rattle.part_frames.specs.declared.Heard.TheVariants.{Form, NoForm}

-- The messages that the reader names.
unfoldable pub messages_as : Messages → message.Messages
messages_as Nothing = message.nothing
messages_as (Estimate v) = message.estimate v
messages_as (EstimateAndCommit v) = message.estimate_and_commit v

-- What the reader answers; bytes of none of the three forms carry no messages.
unfoldable pub heard_as : Heard → Option message.Messages
heard_as (Form m) = some (messages_as m)
heard_as NoForm = none
