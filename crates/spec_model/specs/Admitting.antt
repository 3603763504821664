-- Admission: what a node answers to an event, and which outputs the event makes. The first test that applies decides.
-- An answer depends on the node's state before the event and, where the event is new, on the state with it.
use Rattle.std.specs.Prelude.{◌≡◌, ℕ, ◌+◌, ◌-◌, ◌*◌, ◌==◌, ◌&&◌, ◌||◌, not, nat_le, Bool, true, false, List, [], ◌∷◌, ◌++◌, map, length, drop}
use Rattle.std.specs.Prelude.{Option, Some, None, is_some, option_map, slice_get, All, IsTrue, if◌then◌else◌}
use Rattle.std.specs.List.{list_all}
use Rattle.std.specs.Option.{option_map_or, option_to_list}
use Rattle.std.specs.Str.{bytes_eq}
use Rattle.wire.specs.Batches.{batch_body}
use Rattle.wire.specs.Grammar.{IsMessage}
pub use Rattle.header.specs.Answers.{is_new, piece_at, pieces}
use Rattle.header.specs.Checks.{fault_of, accepts_all}
use Rattle.std.specs.Cmp.Lexicographic.{pointwise}
use Rattle.wire.specs.declared.message.Message.TheVariants as message
use Rattle.wire.specs.declared.output.Output.TheVariants as output
use Rattle.spec_model.specs.Histories.{History}
use Rattle.spec_model.specs.Holdings.{batch_digest, own_vote, is_low, is_full, all_held}
use Rattle.spec_model.specs.Nodes.{Node, IsNode}
use Rattle.spec_model.specs.States.{State, whole, batch_in, has_own_batch, is_available, completed_at, floor_in}
use Rattle.spec_model.specs.Slots.{same_digest, header_digest, certificate_digest}
use Rattle.spec_model.specs.Words.{Author, BatchAck, BatchReference, Certificate, Coin, BatchView, Digest, Event, Header, HeaderBody, Message, Output, ParentReference, Vote}
use Rattle.header.specs.declared.admission.Admission.{Admission}
use Rattle.header.specs.declared.admission.Admission.TheVariants.{New, Known, Refused}
use Rattle.header.specs.declared.refusal.Refusal.TheVariants.{TooOld, MissingParents, MissingBatch, Equivocation, CertConflict, DigestClash}
use Rattle.header.specs.declared.refusal.Refusal.TheVariants.{AlreadyProposed, NotOurs, CoinOutOfTurn, CoinEarly, CoinConflict, StoreFull}

-- an author is the node's own member
abbrev pub is_own : Node → Author → Bool
is_own node author = author.0 == node.own.0

-- ---- the outputs that an event makes

-- the output for a batch: an own batch goes to all members; for another member's batch, an acknowledgement goes to its author
abbrev pub batch_outputs : Node → BatchView → List Output
batch_outputs node batch =
    (if is_own node batch.author then output.Batch batch
    else output.Ack batch.author (record { author = node.own; batch = batch_digest batch })) ∷ []

-- the output for a header: an own header goes to all members; for another member's header, the node's vote goes to its author
abbrev pub header_outputs : Node → Header → List Output
header_outputs node header =
    (if is_own node header.body.author then output.Header header else output.Vote (own_vote node header.body)) ∷ []

-- the outputs that have, in pieces, what the order has gained between two states
abbrev pub order_outputs : State → State → List Output
order_outputs now later = pieces (length now.order) (drop (length now.order) later.order)

-- ---- the answers

-- one case of a table of answers: if the look-up finds something, that decides the answer; otherwise the cases after it do
infixr 5 when◌gives◌else◌
abbrev pub when◌gives◌else◌ : {X : Type 0} → Option X → (X → Admission) → Admission → Admission
when Some held gives answer else others = answer held
when None gives answer else others = others

-- the answer to a batch if a batch with the same digest is held already
abbrev pub held_batch_answer : Node → BatchView → BatchView → Admission
held_batch_answer node held batch =
    if bytes_eq (batch_body held) (batch_body batch) then Known (batch_outputs node held) else Refused DigestClash

abbrev pub batch_answer : Node → State → BatchView → Admission
batch_answer node now batch =
    when batch_in now (batch_digest batch) gives (λ held. held_batch_answer node held batch)
    else if nat_le node.charter.batches (length now.batches) then Refused StoreFull
    else New (batch_outputs node batch)

abbrev pub ack_answer : Node → State → BatchAck → Admission
ack_answer node now ack =
    if not (has_own_batch node now ack.batch) then Refused NotOurs
    else if is_own node ack.author || now.acked ack.batch ack.author.0 then Known []
    else New []

-- a header may name this batch: it is held with that worker; and if the header is an own one, the batch is available to others
abbrev pub may_name : Node → State → Header → BatchReference → Bool
may_name node now header named =
    option_map_or (λ batch. batch.worker == named.worker) (batch_in now named.digest) false
    && (not (is_own node header.body.author) || is_available node now named.digest)

-- the answer to an own header if the node already has an own header of its round
abbrev pub held_header_answer : Node → Header → Header → Admission
held_header_answer node held header =
    if same_digest (header_digest held.body) (header_digest header.body) then Known (header_outputs node held)
    else Refused AlreadyProposed

-- the answer to another member's header if the node has already voted for this digest in the header's round and author
abbrev pub voted_answer : Node → Digest → Header → Admission
voted_answer node voted header =
    if same_digest voted (header_digest header.body) then Known (header_outputs node header) else Refused Equivocation

-- the answer to a header if the node has an own header or a vote for its round and author already; None if it has neither
abbrev pub known_header_answer : Node → State → Header → Option Admission
known_header_answer node now header =
    if is_own node header.body.author then option_map (λ held. held_header_answer node held header) (now.own_headers header.body.round)
    else option_map (λ voted. voted_answer node voted header) (now.votes header.body.round header.body.author.0)

abbrev pub header_answer : Node → State → Header → Admission
header_answer node now header =
    if is_low (floor_in node now) header.body.round then Refused TooOld
    else when known_header_answer node now header gives (λ answer. answer)
    else if not (all_held now.slots (floor_in node now) header.body) then Refused MissingParents
    else if not (list_all (may_name node now header) header.body.batches) then Refused MissingBatch
    else New (header_outputs node header)

-- the outputs of a new vote on the own header of a round: the certificate if the vote completes it, and what that adds to the order
abbrev pub vote_outputs : Node → State → State → ℕ → List Output
vote_outputs node now later round =
    map output.Certificate (option_to_list (completed_at node later round)) ++ order_outputs now later

-- the answer to a vote if the certificate of an own header of its round is held
abbrev pub held_answer : Certificate → Vote → Admission
held_answer held vote =
    if same_digest (header_digest held.header) vote.header then Known (output.Certificate held ∷ []) else Refused CertConflict

-- the answer to a vote if there is an own header of its round
abbrev pub own_header_answer : Node → State → State → Header → Vote → Admission
own_header_answer node now later header vote =
    if not (same_digest (header_digest header.body) vote.header) then Refused NotOurs
    else when now.slots vote.round node.own.0 gives (λ held. held_answer held vote)
    else if is_some (now.counted vote.round vote.voter.0) then Known []
    else New (vote_outputs node now later vote.round)

abbrev pub vote_answer : Node → State → State → Vote → Admission
vote_answer node now later vote =
    if not (is_own node vote.author) then Refused NotOurs
    else if is_low (floor_in node now) vote.round then Refused TooOld
    else when now.own_headers vote.round gives (λ header. own_header_answer node now later header vote)
    else Refused NotOurs

-- two references to batches name the same batch and worker
abbrev pub same_batch : BatchReference → BatchReference → Bool
same_batch one other = same_digest one.digest other.digest && (one.worker == other.worker)

-- two references to parents name the same certificate
abbrev pub same_parent : ParentReference → ParentReference → Bool
same_parent one other = (one.author.0 == other.author.0) && same_digest one.certificate other.certificate

abbrev pub same_header : HeaderBody → HeaderBody → Bool
same_header one other =
    ((one.author.0 == other.author.0) && (one.round == other.round))
    && (pointwise same_batch one.batches other.batches && pointwise same_parent one.parents other.parents)

-- the answer to a certificate if one of its round and author is held already
abbrev pub held_certificate_answer : Certificate → Certificate → Admission
held_certificate_answer held certificate =
    if not (same_digest (certificate_digest held.header) (certificate_digest certificate.header)) then Refused CertConflict
    else if same_header held.header certificate.header then Known []
    else Refused DigestClash

abbrev pub certificate_answer : Node → State → State → Certificate → Admission
certificate_answer node now later certificate =
    if is_low (floor_in node now) certificate.header.round then Refused TooOld
    else when now.slots certificate.header.round certificate.header.author.0 gives (λ held. held_certificate_answer held certificate)
    else if not (all_held now.slots (floor_in node now) certificate.header) then Refused MissingParents
    else New (order_outputs now later)

abbrev pub coin_answer : Node → State → State → Author → Coin → Admission
coin_answer node now later sender coin =
    if not (is_own node sender) then Refused NotOurs
    else when slice_get now.coins (coin.wave - 1) gives (λ taken. if taken == coin.value then Known [] else Refused CoinConflict)
    else if not (coin.wave == length now.coins + 1) then Refused CoinOutOfTurn
    else if not (is_full node now.slots (2 * coin.wave + 1)) then Refused CoinEarly
    else New (order_outputs now later)

-- the answer to an event, given the state before the event and the state with it
abbrev pub answer : Node → State → State → Event → Admission
answer node now later event = on event.message
  where
    on : Message → Admission
    on (message.Batch batch) = batch_answer node now batch
    on (message.BatchAck ack) = ack_answer node now ack
    on (message.Header header) = header_answer node now header
    on (message.Vote vote) = vote_answer node now later vote
    on (message.Certificate certificate) = certificate_answer node now later certificate
    on (message.Coin coin) = coin_answer node now later event.sender coin

-- the answer to an event that comes right after this history
abbrev pub admit : Node → History → Event → Admission
admit node history event = answer node (whole node history) (whole node (history ++ event ∷ [])) event

-- ---- runs

-- the history after an event: a new event is appended; any other one changes nothing
abbrev pub history_after : Node → History → Event → History
history_after node history event = if is_new (admit node history event) then history ++ event ∷ [] else history

-- the answers to these events, which come one after the other after this history
abbrev pub answers : Node → History → List Event → List Admission
answers node history [] = []
answers node history (event ∷ events) = admit node history event ∷ answers node (history_after node history event) events

-- each of these events is new after the history and the events before it
abbrev pub each_new : Node → History → List Event → Bool
each_new node history [] = true
each_new node history (event ∷ events) = is_new (admit node history event) && each_new node (history ++ event ∷ []) events

-- an event that a node can take: its message is within all limits, and passes the checks without those of signatures
pub record IsTaken (node : Node) (event : Event) : Type 0 where
  pub message : IsMessage event.message
  pub passed : fault_of node.charter accepts_all event ≡ None

-- a history is legal: each of its events can be taken, and is new after the events before it
pub record IsLegal (node : Node) (history : History) : Type 0 where
  pub sound : IsNode node
  pub taken : All (IsTaken node) history
  pub new : IsTrue (each_new node [] history)
