-- How a table of own headers agrees with a node's state.
use Rattle.std.specs.Prelude.{◌≡◌, ℕ, Bool, true, false, not, Option, Some, None, is_some}
use Rattle.wire.specs.declared.message.Message.TheVariants as message
use Rattle.certify.specs.Assembled.{is_on, started}
use Rattle.certify.specs.declared.added.Added.{Added}
use Rattle.certify.specs.declared.added.Added.TheVariants.{Counted, Complete}
use Rattle.spec_model.specs.Admitting.{is_own}
use Rattle.spec_model.specs.Holdings.{own_vote}
use Rattle.spec_model.specs.Nodes.{Node}
use Rattle.spec_model.specs.States.{State, completed_at, floor_in}
use Rattle.spec_model.specs.Words.{Certificate, Event, Header, Message, Vote}
use Rattle.spec_machine.specs.Laws.{Comes}
use Rattle.spec_machine.specs.Machine.{certificate_of, grown, after, fresh}
use Rattle.spec_machine.specs.Sound.{IsSound}
use Rattle.admission.specs.Headers.{AssembliesView, empty, assembly_at, digest_in, has_voted_in, IsHeaders, answer_in, counted_in, IsWith, IsForgotten, IsAt}

-- ---- tables at states

-- an empty table agrees with the fresh state
abbrev pub StartsFresh : Type 0
StartsFresh = (node : Node) → IsAt node (fresh node) (empty node.charter node.own.0)

-- a table that agrees with a sound state has, for each own header, the digest that the node voted for, and the same counted votes
pub record VotesAgreeAt (node : Node) (state : State) (headers : AssembliesView) : Type 0 where
  pub digests : (round : ℕ) → digest_in headers round ≡ state.votes round node.own.0
  pub voted : (round voter : ℕ) → has_voted_in headers round voter ≡ is_some (state.counted round voter)

abbrev pub VotesAgree : Type 0
VotesAgree = (node : Node) (state : State) (headers : AssembliesView) → IsSound node state → IsAt node state headers → VotesAgreeAt node state headers

-- ---- after an event

-- the table agrees with the state after the event, once the rounds up to the floor are dropped from it
abbrev pub IsTableAfter : Node → State → Event → AssembliesView → Type 0
IsTableAfter node state event headers =
    (later : AssembliesView) → IsForgotten headers later (floor_in node (after node state event)) → IsAt node (after node state event) later

-- when a new own header comes: the author is the validator, the own vote is on this header, and the round has no own header yet. With the
-- header and the vote added the table agrees with the state after the event
pub record HeaderComesTo (node : Node) (state : State) (event : Event) (header : Header) (before : AssembliesView) : Type 0 where
  pub author : header.body.author.0 ≡ before.own
  pub on : is_on header.body (own_vote node header.body) ≡ true
  pub voter : (own_vote node header.body).voter.0 ≡ before.own
  pub free : assembly_at before header.body.round ≡ None
  pub after : (held : AssembliesView) → IsWith before held header.body.round (Some (started before.charter header (own_vote node header.body)))
      → IsTableAfter node state event held

abbrev pub HeaderComes : Type 0
HeaderComes = (node : Node) (state : State) (event : Event) (header : Header) (before : AssembliesView) → Comes node state event → IsAt node state before
    → event.message ≡ message.Header header → is_own node header.body.author ≡ true → HeaderComesTo node state event header before

-- the table's answer to a new vote: Complete with the certificate that the vote completes, or Counted if it completes none
abbrev pub added_by : Option Certificate → Added
added_by None = Counted
added_by (Some certificate) = Complete certificate

-- when a new vote comes: it is counted, and completes a certificate in the table exactly if it does in the node's state, and the same one.
-- With the vote added the table agrees with the state after the event
pub record VoteComesTo (node : Node) (state : State) (event : Event) (vote : Vote) (before : AssembliesView) : Type 0 where
  pub answer : answer_in before vote ≡ added_by (certificate_of node state event.message)
  pub counted : answer_in before vote ≡ Counted → certificate_of node state event.message ≡ None
  pub complete : (certificate : Certificate) → answer_in before vote ≡ Complete certificate → certificate_of node state event.message ≡ Some certificate
  pub completed : completed_at node (grown node state event.message) vote.round ≡ certificate_of node state event.message
  pub after : (counted : AssembliesView) → IsWith before counted vote.round (counted_in (answer_in before vote) before vote) → IsTableAfter node state event counted

abbrev pub VoteComes : Type 0
VoteComes = (node : Node) (state : State) (event : Event) (vote : Vote) (before : AssembliesView) → Comes node state event → IsHeaders before → IsAt node state before
    → event.message ≡ message.Vote vote → VoteComesTo node state event vote before

-- the message is neither a vote nor an own header, so that it changes no own header and no vote on one
abbrev pub is_other : Node → Message → Bool
is_other node (message.Vote vote) = false
is_other node (message.Header header) = not (is_own node header.body.author)
is_other node _ = true

-- any other new event leaves the table in agreement with the state after it, once the rounds up to the floor are dropped
abbrev pub OthersCome : Type 0
OthersCome = (node : Node) (state : State) (event : Event) (before : AssembliesView) → Comes node state event → IsAt node state before
    → is_other node event.message ≡ true → IsTableAfter node state event before
