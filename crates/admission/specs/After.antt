-- What an event leaves unchanged in a validator's tables.
use Rattle.std.specs.Prelude.{◌≡◌, false, true, None}
use Rattle.spec_model.specs.Histories.{as_coin}
use Rattle.spec_model.specs.Nodes.{Node}
use Rattle.spec_model.specs.States.{State, floor_in}
use Rattle.spec_model.specs.Words.{Event}
use Rattle.spec_machine.specs.Laws.{Comes, LowIsToTheFloor}
use Rattle.spec_machine.specs.Machine.{after, certificate_of}
use Rattle.votebook.specs.Votes.{ForgetsTo}
use Rattle.admission.specs.Headers.{IsForgotten}
use Rattle.admission.specs.Headers as headers
use Rattle.admission.specs.HeaderLaws.{is_other, OthersCome}
use Rattle.sequencer.specs.Sequence as sequence
use Rattle.admission.specs.Batches.{HasBatches, changes_batches}
use Rattle.admission.specs.Laws.{BatchesStay, VotesStay}
use Rattle.admission.specs.Votes.{HasVotes, is_peers_header}
use Rattle.admission.specs.Standing.{AreAt}
use Rattle.admission.specs.declared.tables.Tables.{Tables}

-- at a sound state nothing is kept of a low round, so dropping the votes and own headers of rounds up to the floor changes nothing
pub record NothingIsLow (node : Node) (state : State) (tables : Tables) : Type 0 where
  pub votes : ForgetsTo (floor_in node state) tables.votes tables.votes
  pub headers : IsForgotten tables.headers tables.headers (floor_in node state)

-- an event that adds neither a certificate nor a coin leaves the floor, the certificates, the coins and the order unchanged; batches, votes
-- and own headers change only where the event is one of that kind
pub record IsBeside (node : Node) (state : State) (event : Event) (tables : Tables) : Type 0 where
  pub floor : floor_in node (after node state event) ≡ floor_in node state
  pub sequence : sequence.IsAt node (after node state event) tables.sequencer
  pub batches : changes_batches node event.message ≡ false → HasBatches node (after node state event) tables.batches
  pub votes : is_peers_header node event.message ≡ false → HasVotes node (after node state event) tables.votes
  pub headers : is_other node event.message ≡ true → headers.IsAt node (after node state event) tables.headers

-- laws for an event that is new at a sound state: what it leaves unchanged, and what happens to each part of the tables
pub record OthersStay : Type 0 where
  pub beside : (node : Node) (state : State) (event : Event) (tables : Tables) → Comes node state event → AreAt node state tables
      → certificate_of node state event.message ≡ None → as_coin event.message ≡ None → IsBeside node state event tables
  pub low : (node : Node) (state : State) (event : Event) (tables : Tables) → Comes node state event → AreAt node state tables
      → NothingIsLow node state tables
  pub batches : BatchesStay
  pub votes : VotesStay
  pub headers : OthersCome
  pub high : LowIsToTheFloor
