-- Events: incoming messages with their senders.
use Rattle.wire.specs.declared.keys.Author.{Author}
use Rattle.wire.specs.declared.message.Message.{Message}

-- a message with its sender; the events that a node takes have passed its checks
pub record Event : Type 0 where
  pub sender : Author
  pub message : Message
