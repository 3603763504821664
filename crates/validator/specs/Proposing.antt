-- Which header a validator's tables propose, and when the tables hold a state.
use Rattle.std.specs.Prelude.{◌≡◌, ℕ, ◌-◌, ◌||◌, nat_lt, List, take, filter_map, Option, Some, None, is_some, option_map, if◌then◌else◌}
use Rattle.wire.specs.declared.limits.TheConstants.{MAX_BATCHES}
use Rattle.wire.specs.declared.round.TheConstants.Round.{MAX as MAX_ROUND}
use Rattle.committee.specs.Charter.{numbers}
use Rattle.header.specs.Making.{body_of, signed_by}
use Rattle.spec_model.specs.Nodes.{Node, IsNode}
use Rattle.spec_model.specs.Proposing.{as_parent}
use Rattle.spec_model.specs.States.{State}
use Rattle.spec_model.specs.Words.{Author, BatchReference, Digest, Header, ParentReference, Signature}
use Rattle.spec_machine.specs.Sound.{IsSound}
use Rattle.batchstore.specs.Stock.{BatchStoreView, nameable}
use Rattle.dag.specs.Graph.{DagView, size_in, slots_in}
use Rattle.sequencer.specs.Sequence.{SequencerView}
use Rattle.sequencer.specs.Sequence as sequencer
use Rattle.admission.specs.Headers.{AssembliesView, header_in}
use Rattle.admission.specs.Headers as assemblies
use Rattle.admission.specs.Batches.{HasBatches}

-- the round with this number, if an own header may still be made for it: there is such a round, and it has no own header
abbrev pub free_round : AssembliesView → ℕ → Option ℕ
free_round headers number = if is_some (header_in headers number) || nat_lt MAX_ROUND number then None else Some number

-- the nameable batches with the lowest digests, up to a header's limit
abbrev pub least_batches : BatchStoreView → List BatchReference
least_batches stock = take MAX_BATCHES (nameable stock)

-- the parent references to all certificates of a round, by author
abbrev pub parents_in : DagView → ℕ → List ParentReference
parents_in graph round = filter_map (λ author. option_map as_parent (slots_in graph round author)) (numbers (size_in graph))

-- the header of a round: its parents are all certificates of the round below, its batches the first nameable ones
abbrev pub header_in_round : (Digest → Signature) → Author → BatchStoreView → DagView → ℕ → Header
header_in_round sign own stock graph round = signed_by sign (body_of own round (least_batches stock) (parents_in graph (round - 1)))

-- the author and the signer are a node's, and these tables have the batches, own headers and certificates of its sound state
pub record AreAt (node : Node) (state : State) (own : Author) (sign : Digest → Signature) (stock : BatchStoreView) (headers : AssembliesView) (sequence : SequencerView) : Type 0 where
  pub node_is : IsNode node
  pub sound : IsSound node state
  pub author : node.own ≡ own
  pub signer : node.sign ≡ sign
  pub batches : HasBatches node state stock
  pub own_headers : assemblies.IsAt node state headers
  pub certificates : sequencer.IsAt node state sequence
