-- Which header a node proposes.
use Rattle.std.specs.Prelude.{ℕ, ◌-◌, ◌==◌, ◌&&◌, ◌||◌, not, nat_lt, Bool, List, [], map, take, filter_map, fold, Option, Some, None, is_some, if◌then◌else◌}
use Rattle.wire.specs.References.{placed}
use Rattle.wire.specs.declared.limits.TheConstants.{MAX_BATCHES}
use Rattle.wire.specs.declared.round.TheConstants.Round.{MAX as MAX_ROUND}
use Rattle.spec_model.specs.Histories.{History}
use Rattle.spec_model.specs.Holdings.{batch_digest, round}
use Rattle.spec_model.specs.Nodes.{Node, size_of}
use Rattle.spec_model.specs.Slots.{header_digest, certificate_digest, round_of}
use Rattle.spec_model.specs.States.{State, whole, is_available}
use Rattle.spec_model.specs.Words.{BatchReference, Certificate, BatchView, Header, HeaderBody, ParentReference}

-- a header may name an own batch: it is available to other members, and no own header has named it yet
abbrev pub is_nameable : Node → State → BatchView → Bool
is_nameable node state batch =
    (batch.author.0 == node.own.0) && (is_available node state (batch_digest batch) && not (state.named (batch_digest batch)))

-- the reference by which a header names this batch; None if no header may name it
abbrev pub to_name : Node → State → BatchView → Option BatchReference
to_name node state batch =
    if is_nameable node state batch then Some (record { digest = batch_digest batch; worker = batch.worker }) else None

-- the references of all batches that may be named, sorted by digest
abbrev pub nameable : Node → State → List BatchReference
nameable node state = fold placed [] (filter_map (to_name node state) state.batches)

-- the reference by which a header names this certificate as a parent
abbrev pub as_parent : Certificate → ParentReference
as_parent certificate = record { author = certificate.header.author; certificate = certificate_digest certificate.header }

-- the body of the own header that a node proposes for a round: its parents are all certificates of the round below; its batches are the
-- first ones, by digest, that may be named
abbrev pub proposal_of : Node → State → ℕ → HeaderBody
proposal_of node state round = record {
  author = node.own;
  round = round;
  batches = take MAX_BATCHES (nameable node state);
  parents = map as_parent (round_of (size_of node) state.slots (round - 1));
}

-- a header with the node's signature
abbrev pub signed : Node → HeaderBody → Header
signed node body = record { body = body; signature = node.sign (header_digest body) }

-- the header that a node proposes for its round; None if it has an own header of that round, or the round is above the greatest one
abbrev pub propose_of : Node → State → ℕ → Option Header
propose_of node state round =
    if is_some (state.own_headers round) || nat_lt MAX_ROUND round then None
    else Some (signed node (proposal_of node state round))

-- the body of the header that a node proposes after a history
abbrev pub proposal : Node → History → HeaderBody
proposal node history = proposal_of node (whole node history) (round node history)

abbrev pub propose : Node → History → Option Header
propose node history = propose_of node (whole node history) (round node history)
