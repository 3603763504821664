-- What lasts over all runs of a node, and where its events and outputs come from.
use Rattle.std.specs.Prelude.{◌≡◌, List, ◌++◌, Some, Contains}
use Rattle.spec_model.specs.Histories.{History}
use Rattle.wire.specs.Lists.{Begins}
use Rattle.spec_model.specs.Holdings.{order, voted_digest}
use Rattle.spec_model.specs.Nodes.{Node, IsNode}
use Rattle.spec_model.specs.Words.{Digest, Event}
use Rattle.spec_world.specs.World.{Given, World}
use Rattle.spec_world.specs.Steps.{Move, accept, IsStep, IsRun}
use Rattle.spec_world.specs.Promise.{Ballot, vote_given, order_given}

-- the history that a node knows to be durable: the one with which this run began, and the events that the run has settled
abbrev pub settled_in : World → History
settled_in world = world.began ++ world.settled

-- the history that is known to be durable only grows, over each move and each stop
abbrev pub SettledGrows : Type 0
SettledGrows = (node : Node) (moves : List Move) (world : World) (move : Move) (next : World) → IsNode node → IsRun node moves world → IsStep node world move next
    → Begins (settled_in world) (settled_in next)

-- whatever was given out is still on record as given out after each move and each stop
abbrev pub GivenStays : Type 0
GivenStays = (node : Node) (world : World) (move : Move) (next : World) → IsStep node world move next → Begins world.given next.given

-- each event in a node's history was accepted by a move of this run or of an earlier one
abbrev pub EventsCameIn : Type 0
EventsCameIn = (node : Node) (moves : List Move) (world : World) (event : Event) → IsNode node → IsRun node moves world → Contains (world.began ++ world.accepted) event
    → Contains moves (accept event)

-- for each vote that was given out, the durable history has the same vote for its author and round
abbrev pub GivenVotesAreSettled : Type 0
GivenVotesAreSettled = (node : Node) (moves : List Move) (world : World) (given : Given) (ballot : Ballot) → IsNode node → IsRun node moves world → Contains world.given given
    → vote_given given.outgoing ≡ Some ballot → voted_digest (settled_in world) ballot.round ballot.author.0 ≡ Some ballot.header

-- each order that was given out is a prefix of the order that the durable history leads to
abbrev pub GivenOrdersAreSettled : Type 0
GivenOrdersAreSettled = (node : Node) (moves : List Move) (world : World) (given : Given) (digests : List Digest) → IsNode node → IsRun node moves world → Contains world.given given
    → order_given (order node given.history) given.outgoing ≡ Some digests → Begins digests (order node (settled_in world))
