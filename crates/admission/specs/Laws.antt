-- How the tables of batches and of votes agree with states.
use Rattle.std.specs.Prelude.{◌≡◌, ℕ, ◌==◌, false, true, []}
use Rattle.std.specs.FinMap as map
use Rattle.std.specs.Option.{option_map_or}
use Rattle.wire.specs.declared.message.Message.TheVariants as message
use Rattle.sigface.specs.declared.seed.TableSeed.{TableSeed}
use Rattle.spec_model.specs.Nodes.{Node}
use Rattle.spec_model.specs.Proposing as proposing
use Rattle.spec_model.specs.States.{State, has_own_batch, floor_in}
use Rattle.spec_model.specs.States as states
use Rattle.spec_model.specs.Words.{Digest, Event, Header}
use Rattle.spec_machine.specs.Laws.{Comes}
use Rattle.spec_machine.specs.Machine.{after, fresh}
use Rattle.batchstore.specs.Stock.{BatchStoreView, IsStock, batch_in, has_with, has_own, holds, is_available, nameable}
use Rattle.votebook.specs.Votes.{Votes, ForgetsTo}
use Rattle.admission.specs.Batches.{HasBatches, changes_batches}
use Rattle.admission.specs.Votes.{HasVotes, with_vote, is_peers_header}

-- ---- batches

-- each look-up in a store of batches gives what the state has
pub record ReadsAlike (node : Node) (state : State) (stock : BatchStoreView) : Type 0 where
  pub same_batch : (digest : Digest) → batch_in stock digest ≡ states.batch_in state digest
  pub same_own : (digest : Digest) → has_own stock digest ≡ has_own_batch node state digest
  pub same_holds : (digest : Digest) (member : ℕ) → holds stock digest member ≡ states.holds node state digest member
  pub same_available : (digest : Digest) → is_available stock digest ≡ states.is_available node state digest
  pub same_with : (digest : Digest) (worker : ℕ) → has_with stock digest worker ≡ option_map_or (λ batch. batch.worker == worker) (states.batch_in state digest) false

abbrev pub BatchesRead : Type 0
BatchesRead = (node : Node) (state : State) (stock : BatchStoreView) → HasBatches node state stock → ReadsAlike node state stock

-- a store that has a state's batches lists exactly those that the state allows a header to name
abbrev pub NameableAgrees : Type 0
NameableAgrees = (node : Node) (state : State) (stock : BatchStoreView) → IsStock stock → HasBatches node state stock → nameable stock ≡ proposing.nameable node state

-- if an event's message changes no batches, a store with the batches of the state before it has those of the state after it
abbrev pub BatchesStay : Type 0
BatchesStay = (node : Node) (state : State) (event : Event) (stock : BatchStoreView) → HasBatches node state stock → changes_batches node event.message ≡ false
    → HasBatches node (after node state event) stock

-- ---- votes

-- if a new event is no other member's header, the book of votes without the low rounds agrees with the state after it
abbrev pub VotesStay : Type 0
VotesStay = (node : Node) (state : State) (event : Event) (votes later : Votes) → Comes node state event → HasVotes node state votes
    → is_peers_header node event.message ≡ false → ForgetsTo (floor_in node (after node state event)) votes later
    → HasVotes node (after node state event) later

-- if a new event is another member's header, the book with the vote for it, without the low rounds, agrees with the state after it
abbrev pub VoteIsKept : Type 0
VoteIsKept = (node : Node) (state : State) (event : Event) (header : Header) (votes later : Votes) → Comes node state event → HasVotes node state votes
    → event.message ≡ message.Header header → is_peers_header node event.message ≡ true
    → ForgetsTo (floor_in node (after node state event)) (with_vote votes header.body) later
    → HasVotes node (after node state event) later

-- ---- the beginning

-- an empty store of batches, with whatever seed, and an empty book of votes agree with the fresh state, in which no event was taken
pub record HasNothing (node : Node) : Type 0 where
  pub batches : (seed : TableSeed) → HasBatches node (fresh node) (record { charter = node.charter; own = node.own.0; seed = seed; held = [] })
  pub votes : HasVotes node (fresh node) map.empty

abbrev pub StartsEmpty : Type 0
StartsEmpty = (node : Node) → HasNothing node
