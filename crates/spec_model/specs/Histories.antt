-- A history: the events that a node accepted, the oldest first; and what it has of each kind of message.
use Rattle.std.specs.Prelude.{ℕ, List, filter_map, Option, Some, None}
use Rattle.wire.specs.declared.message.Message.TheVariants as message
use Rattle.spec_model.specs.Words.{BatchAck, Certificate, BatchView, Event, Header, Message, Vote}

abbrev pub History : Type 0
History = List Event

-- the message as a value of the kind that the name says; None if it is of another kind
abbrev pub as_batch : Message → Option BatchView
as_batch (message.Batch batch) = Some batch
as_batch _ = None

abbrev pub as_ack : Message → Option BatchAck
as_ack (message.BatchAck ack) = Some ack
as_ack _ = None

abbrev pub as_header : Message → Option Header
as_header (message.Header header) = Some header
as_header _ = None

abbrev pub as_vote : Message → Option Vote
as_vote (message.Vote vote) = Some vote
as_vote _ = None

abbrev pub as_certificate : Message → Option Certificate
as_certificate (message.Certificate certificate) = Some certificate
as_certificate _ = None

abbrev pub as_coin : Message → Option ℕ
as_coin (message.Coin coin) = Some coin.value
as_coin _ = None

abbrev pub batches : History → List BatchView
batches history = filter_map (λ event. as_batch event.message) history

-- the acknowledgements of batches in a history
abbrev pub acks : History → List BatchAck
acks history = filter_map (λ event. as_ack event.message) history

-- the headers in a history, own ones too. Each stands for the node's vote for its round and author
abbrev pub headers : History → List Header
headers history = filter_map (λ event. as_header event.message) history

-- the votes that came in; in a legal history these are votes on own headers
abbrev pub votes : History → List Vote
votes history = filter_map (λ event. as_vote event.message) history

-- the certificates that came in, as messages
abbrev pub received : History → List Certificate
received history = filter_map (λ event. as_certificate event.message) history

-- the values of the coins that came in; in a legal history the first one is that of wave 1
abbrev pub coins : History → List ℕ
coins history = filter_map (λ event. as_coin event.message) history
