-- The state of a node as a state machine: what it answers to an event, and the state after a new event.
use Rattle.std.specs.Prelude.{ℕ, zero, suc, ◌+◌, ◌==◌, ◌&&◌, ◌||◌, max, not, Bool, true, false, List, [], ◌++◌, map, Option, Some, None, option_map, option_and_then, if◌then◌else◌}
use Rattle.std.specs.List.{list_any}
use Rattle.std.specs.Option.{option_map_or, option_or, option_to_list}
use Rattle.committee.specs.Charter.{numbers}
use Rattle.wire.specs.declared.message.Message.TheVariants as message
use Rattle.spec_model.specs.Admitting.{answer}
use Rattle.spec_model.specs.Giving.{collected}
use Rattle.spec_model.specs.Histories.{as_batch, as_ack, as_header, as_coin}
use Rattle.spec_model.specs.Holdings.{own_vote, certificate_by, genesis, ledger_of, is_full}
use Rattle.spec_model.specs.Nodes.{Node, size_of}
use Rattle.spec_model.specs.Ordering.{Ledger, leader, top, last_wave, newer, segments}
use Rattle.spec_model.specs.Proposing.{propose_of}
use Rattle.spec_model.specs.Slots.{Slots, same_digest, header_digest, certificate_digest, is_of_slot, slots_of}
use Rattle.spec_model.specs.States.{State, ledger_in}
use Rattle.spec_model.specs.Words.{Certificate, Digest, Event, Header, Message, Vote}
use Rattle.header.specs.declared.admission.Admission.{Admission}
use Rattle.header.specs.declared.admission.Admission.TheVariants.{Refused}
use Rattle.header.specs.declared.refusal.Refusal.TheVariants.{MissingParents}

-- ---- what an event means for a slot (a round and an author), a batch or a header

-- the header in a message, if the message is a header of this round and author
abbrev pub header_at : Message → ℕ → ℕ → Option Header
header_at (message.Header header) round author = if is_of_slot round author header.body then Some header else None
header_at _ round author = None

-- the vote that a new message adds on the own header of this round: the vote that it is, or the node's own vote if it is the own header
abbrev pub vote_at : Node → Message → ℕ → ℕ → Option Vote
vote_at node (message.Vote vote) round voter = if (vote.round == round) && (vote.voter.0 == voter) then Some vote else None
vote_at node (message.Header header) round voter =
    if is_of_slot round node.own.0 header.body && (voter == node.own.0) then Some (own_vote node header.body) else None
vote_at node _ round voter = None

-- the message is this member's acknowledgement of the batch with this digest
abbrev pub acknowledges : Message → Digest → ℕ → Bool
acknowledges message digest member = list_any (λ ack. same_digest ack.batch digest && (ack.author.0 == member)) (option_to_list (as_ack message))

-- the message is an own header that names the batch with this digest
abbrev pub names : Node → Message → Digest → Bool
names node message digest =
    list_any (λ header. (header.body.author.0 == node.own.0) && list_any (λ named. same_digest named.digest digest) header.body.batches)
    (option_to_list (as_header message))

-- ---- the state after a new event

-- the votes that count after a new message, by round and voter
abbrev pub counted_with : Node → State → Message → ℕ → ℕ → Option Vote
counted_with node state message round voter = option_or (state.counted round voter) (vote_at node message round voter)

-- the certificate that a new message adds: the one that it is, or the one that it completes because it is a vote; None if it adds none
abbrev pub certificate_of : Node → State → Message → Option Certificate
certificate_of node state (message.Certificate certificate) = Some certificate
certificate_of node state (message.Vote vote) =
    option_and_then (certificate_by node (counted_with node state (message.Vote vote) vote.round)) (state.own_headers vote.round)
certificate_of node state _ = None

-- the certificate of each round and author after one more certificate came; where there is one already it stays
abbrev pub slots_with : Slots → Option Certificate → Slots
slots_with slots certificate round author = option_or (slots round author) (slots_of (option_to_list certificate) round author)

-- the greatest round of a certificate after one more certificate came
abbrev pub highest_with : ℕ → Option Certificate → ℕ
highest_with highest certificate = option_map_or (λ c. max highest c.header.round) certificate highest

-- the last leader that is committed, if there is one
abbrev pub last_leader : Ledger → Option Certificate
last_leader ledger = option_and_then (leader ledger) (top ledger)

-- the digests that the order gains between two ledgers: what the leaders order that are committed in the later one only
abbrev pub newly_ordered : Ledger → Ledger → List Digest
newly_ordered before later =
    map (λ c. certificate_digest c.header) (segments later (last_leader before) (newer later (last_wave before)))

-- a state with all that a new message adds; nothing is dropped yet
abbrev pub grown : Node → State → Message → State
grown node state message = record {
  batches = state.batches ++ option_to_list (as_batch message);
  acked = λ digest member. state.acked digest member || acknowledges message digest member;
  named = λ digest. state.named digest || names node message digest;
  votes = λ round author. option_or (state.votes round author) (option_map (λ header. header_digest header.body) (header_at message round author));
  own_headers = λ round. option_or (state.own_headers round) (header_at message round node.own.0);
  counted = counted_with node state message;
  slots = slots_with state.slots (certificate_of node state message);
  highest = highest_with state.highest (certificate_of node state message);
  coins = state.coins ++ option_to_list (as_coin message);
  order = state.order ++ newly_ordered (ledger_in node state)
      (ledger_of node (slots_with state.slots (certificate_of node state message)) (state.coins ++ option_to_list (as_coin message)));
}

-- the state after a new event: all that the event adds is there, and what is below the new floor is dropped
abbrev pub after : Node → State → Event → State
after node state event = collected node (grown node state event.message)

-- the answer of a node to an event at this state
abbrev pub answered : Node → State → Event → Admission
answered node state event = answer node state (grown node state event.message) event

-- the state of a node that has taken no event: it has the genesis certificates and nothing else
abbrev pub fresh : Node → State
fresh node = record {
  batches = [];
  acked = λ digest member. false;
  named = λ digest. false;
  votes = λ round author. None;
  own_headers = λ round. None;
  counted = λ round voter. None;
  slots = slots_of (map genesis (numbers (size_of node)));
  highest = 0;
  coins = [];
  order = [];
}

-- ---- rounds and proposals

-- the greatest round up to a given one that has certificates by a quorum of authors; 0 if there is none
abbrev pub full_to : Node → Slots → ℕ → ℕ
full_to node slots zero = 0
full_to node slots (suc round) = if is_full node slots (suc round) then suc round else full_to node slots round

-- the round in which a node is
abbrev pub round_in : Node → State → ℕ
round_in node state = 1 + full_to node state.slots state.highest

-- the header that a node proposes at this state, if it proposes one
abbrev pub proposed : Node → State → Option Header
proposed node state = propose_of node state (round_in node state)

-- the answer says that parents are missing
abbrev pub is_missing_parents : Admission → Bool
is_missing_parents (Refused MissingParents) = true
is_missing_parents _ = false

-- an event can be answered without waiting: the answer isn't that parents are missing
abbrev pub is_ready : Node → State → Event → Bool
is_ready node state event = not (is_missing_parents (answered node state event))
