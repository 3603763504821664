-- The state of a node: all that is in a history, or what a node keeps of that.
use Rattle.std.specs.Prelude.{ℕ, ◌==◌, ◌&&◌, ◌||◌, nat_le, max, Bool, false, List, map, fold, find, Option, option_and_then}
use Rattle.std.specs.Option.{option_map_or}
use Rattle.committee.specs.Charter.{weight}
use Rattle.spec_model.specs.Histories.{History, batches, coins}
use Rattle.spec_model.specs.Holdings.{batch_digest, certificate_by, voted_header, voted_digest, counted_at, has_acked, was_named, certificates, slots, ledger_of, order}
use Rattle.spec_model.specs.Nodes.{Node, quorum}
use Rattle.spec_model.specs.Ordering.{Ledger, floor_by}
use Rattle.spec_model.specs.Slots.{Slots, same_digest}
use Rattle.spec_model.specs.Words.{Certificate, BatchView, Digest, Header, Vote}

pub record State : Type 0 where
  -- the batches in the order in which they were accepted, which members acknowledged each, and which of them an own header has named
  pub batches : List BatchView
  pub acked : Digest → ℕ → Bool
  pub named : Digest → Bool
  -- for each round and author the digest that the node voted for; the own header of each round; and the votes on it that count, by voter
  pub votes : ℕ → ℕ → Option Digest
  pub own_headers : ℕ → Option Header
  pub counted : ℕ → ℕ → Option Vote
  -- the certificate of each round and author, and the greatest round of any certificate so far
  pub slots : Slots
  pub highest : ℕ
  pub coins : List ℕ
  pub order : List Digest

-- the greatest round of these certificates; 0 if there is none
abbrev pub highest_of : List Certificate → ℕ
highest_of certificates = fold max 0 (map (λ c. c.header.round) certificates)

-- the state with all that is in a history; nothing is dropped
abbrev pub whole : Node → History → State
whole node history = record {
  batches = batches history;
  acked = has_acked history;
  named = was_named node history;
  votes = voted_digest history;
  own_headers = λ round. voted_header history round node.own.0;
  counted = counted_at node history;
  slots = slots node history;
  highest = highest_of (certificates node history);
  coins = coins history;
  order = order node history;
}

-- ---- batches

-- the batch with this digest, if it is held
abbrev pub batch_in : State → Digest → Option BatchView
batch_in state digest = find (λ batch. same_digest (batch_digest batch) digest) state.batches

-- there is a batch with this digest whose author is the node
abbrev pub has_own_batch : Node → State → Digest → Bool
has_own_batch node state digest = option_map_or (λ batch. batch.author.0 == node.own.0) (batch_in state digest) false

-- a member is known to hold an own batch: it is the node itself, or has acknowledged the batch
abbrev pub holds : Node → State → Digest → ℕ → Bool
holds node state digest member = (member == node.own.0) || state.acked digest member

-- an own batch is available to other members: those who are known to hold it weigh a quorum
abbrev pub is_available : Node → State → Digest → Bool
is_available node state digest =
    has_own_batch node state digest && nat_le (quorum node) (weight node.charter (holds node state digest))

-- ---- certificates and the order

-- the certificate of the own header of a round; None if the votes that count on it weigh less than a quorum
abbrev pub completed_at : Node → State → ℕ → Option Certificate
completed_at node state round = option_and_then (certificate_by node (state.counted round)) (state.own_headers round)

abbrev pub ledger_in : Node → State → Ledger
ledger_in node state = ledger_of node state.slots state.coins

abbrev pub floor_in : Node → State → ℕ
floor_in node state = floor_by (ledger_in node state)
