-- What a node may give out after a history, and what of a history it keeps.
use Rattle.std.specs.Prelude.{◌≡◌, ◌<◌, ◌≤◌, ℕ, ◌&&◌, nat_lt, Bool, false, List, ◌++◌, map, flat_map, filter, length, take, drop, Option, None, Contains, if◌then◌else◌}
use Rattle.std.specs.Option.{option_map_or}
use Rattle.wire.specs.declared.limits.TheConstants.{MAX_ORDER_DIGESTS}
use Rattle.wire.specs.declared.output.Output.TheVariants as output
use Rattle.spec_model.specs.Admitting.{is_own, batch_outputs, header_outputs}
use Rattle.spec_model.specs.Histories.{History, batches, headers}
use Rattle.spec_model.specs.Holdings.{voted_digest, certificates, order, is_low}
use Rattle.spec_model.specs.Nodes.{Node}
use Rattle.spec_model.specs.Slots.{same_digest, header_digest}
use Rattle.spec_model.specs.States.{State, whole, floor_in}
use Rattle.spec_model.specs.Words.{Certificate, Digest, Output}

-- a certificate may be given out: it is of an own header, and the node has voted for that header
abbrev pub is_given : Node → History → Certificate → Bool
is_given node history certificate =
    is_own node certificate.header.author
    && option_map_or (same_digest (header_digest certificate.header)) (voted_digest history certificate.header.round node.own.0) false

-- all outputs that may be given out, except pieces of the order: those for each batch and header, and the own certificates of headers voted
-- for
abbrev pub given : Node → History → List Output
given node history =
    flat_map (batch_outputs node) (batches history)
    ++ flat_map (header_outputs node) (headers history)
    ++ map output.Certificate (filter (is_given node history) (certificates node history))

-- digests are a piece of an order: those that the order has from the place `start` on, at least one and at most as many as an output may
-- have
pub record IsPiece (order : List Digest) (start : ℕ) (digests : List Digest) : Type 0 where
  pub some : 0 < length digests
  pub few : length digests ≤ MAX_ORDER_DIGESTS
  pub stands : digests ≡ take (length digests) (drop start order)

-- what may be given out after a history: each output of `given`, and each piece of the order
abbrev pub MayGive : Node → History → Output → Type 0
MayGive node history (output.Order start digests) = IsPiece (order node history) start digests
MayGive node history other = Contains (given node history) other

-- ---- what is kept

-- what a look-up found for a round; nothing if the round is low (0, or at or below a floor above 0)
abbrev pub unless_low : {X : Type 0} → ℕ → ℕ → Option X → Option X
unless_low floor round found = if is_low floor round then None else found

-- What a node keeps of a state: votes, own headers and the votes on them of rounds that aren't low, and certificates of rounds from the
-- floor on. The rest it keeps as it is
abbrev pub collected : Node → State → State
collected node state = record state {
  votes = λ round author. unless_low (floor_in node state) round (state.votes round author);
  own_headers = λ round. unless_low (floor_in node state) round (state.own_headers round);
  counted = λ round voter. unless_low (floor_in node state) round (state.counted round voter);
  slots = λ round author. if nat_lt round (floor_in node state) then None else state.slots round author;
}

-- the state that a node keeps of a history
abbrev pub kept : Node → History → State
kept node history = collected node (whole node history)
