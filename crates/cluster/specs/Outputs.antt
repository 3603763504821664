-- Which outputs leave a node as messages to other members.
use Rattle.std.specs.Prelude.{◌≡◌, ◌⊎◌, List, [], ◌∷◌, flat_map, Option, Some, None}
use Rattle.spec_model.specs.Words.{Author, Message, Output}
use Rattle.spec_world.specs.World.{Outgoing, put_out, read, Given}
use Rattle.wire.specs.Outputs.{receiver_of}
use Rattle.wire.specs.declared.output_bytes.TheConstants.{TO_ALL}
use Rattle.wire.specs.declared.message.Message.TheVariants as message
use Rattle.wire.specs.declared.output.Output.TheVariants as output

-- the message that an output is; None for a piece of the order, which only the host gets
abbrev pub message_of : Output → Option Message
message_of (output.Batch batch) = Some (message.Batch batch)
message_of (output.Ack to ack) = Some (message.BatchAck ack)
message_of (output.Header header) = Some (message.Header header)
message_of (output.Vote vote) = Some (message.Vote vote)
message_of (output.Certificate certificate) = Some (message.Certificate certificate)
message_of (output.Order start digests) = None

-- an output is for this member: it names the member as its receiver, or it is for all
abbrev pub IsFor : Output → Author → Type 0
IsFor output member = (receiver_of output ≡ member.0) ⊎ (receiver_of output ≡ TO_ALL)

-- the output in something that was given out; none in a piece of the order that was read
abbrev pub output_in : Outgoing → List Output
output_in (put_out out) = out ∷ []
output_in (read digests) = []

abbrev pub outputs_in : List Given → List Output
outputs_in given = flat_map (λ one. output_in one.outgoing) given
