-- That the outputs which callers have collected never contradict each other, if all of them are part of what a stop leaves.
use Rattle.std.specs.Prelude.{◌≡◌, ◌++◌, ℕ, List, length, take, drop, Some}
use Rattle.spec_machine.specs.After.{after_all}
use Rattle.spec_model.specs.Admitting.{IsLegal}
use Rattle.spec_model.specs.Giving.{kept}
use Rattle.spec_model.specs.Histories.{History}
use Rattle.spec_model.specs.Holdings.{order}
use Rattle.spec_model.specs.States.{State}
use Rattle.wire.specs.Lists.{Begins}
use Rattle.validator.specs.Setting.{node_of}
use Rattle.sigface.specs.Scheme.{Scheme}
use Rattle.spec_model.specs.Words.{Digest, Output}
use Rattle.wire.specs.declared.output.Output.TheVariants as output
use Rattle.spec_world.specs.Promise.{Ballot, vote_in, GoesOutWithin}
use Rattle.spec_world.specs.World.{Given, put_out}
use Rattle.node_seats.specs.Views.{events}
use Rattle.node_seats.specs.declared.view.View.{View}
use Rattle.node_shared.specs.Answers.{IsPutOutBy}
use Rattle.node_shared.specs.Home.{NodeView, IsBase}

-- a legal history that leads to the state with which a shared node began (its base)
pub record KeepsBase {S : Type 0} (scheme : Scheme S) (node : NodeView S) (began : History) : Type 0 where
  pub legal : IsLegal (node_of scheme node.setting) began
  pub base : IsBase scheme node (kept (node_of scheme node.setting) began)

-- a collected output as a thing given out: at the history `began`, followed by the events after which it was put out
abbrev pub given_as : {S : Type 0} (scheme : Scheme S) (node : NodeView S) (began : History) (view : View) (output : Output) → IsPutOutBy scheme node view output → Given
given_as scheme node began view output put = record { outgoing = put_out output; history = began ++ events (take put.count view.durable) }

-- An output that a seat has collected may go out within each history that starts with one leading to the node's base and then has all
-- events that the seat knows as settled.
abbrev pub CollectedIsWithin : Type 0 → Type 0
CollectedIsWithin S = (scheme : Scheme S) (node : NodeView S) (began left : History) (view : View) (output : Output) (put : IsPutOutBy scheme node view output)
    → KeepsBase scheme node began → Begins (began ++ events view.durable) left
    → GoesOutWithin (node_of scheme node.setting) left (given_as scheme node began view output put)

-- If one legal history has all events that two seats know as settled, in one run of a node or in two, no two votes that they have collected
-- differ for the same author and round.
abbrev pub CollectedVotesAgree : Type 0 → Type 0
CollectedVotesAgree S = (scheme : Scheme S) (node again : NodeView S) (began restarted left : History) (one other : View) (first second : Output) (vote also : Ballot)
    → node_of scheme again.setting ≡ node_of scheme node.setting → KeepsBase scheme node began → KeepsBase scheme again restarted → IsLegal (node_of scheme node.setting) left
    → Begins (began ++ events one.durable) left → Begins (restarted ++ events other.durable) left → IsPutOutBy scheme node one first → IsPutOutBy scheme again other second
    → vote_in first ≡ Some vote → vote_in second ≡ Some also → vote.author ≡ also.author → vote.round ≡ also.round → vote.header ≡ also.header

-- ---- orders

-- a seat has read these digests: whatever the base is, they are the order after the events that the seat knows as settled, from this place
-- on
abbrev pub IsReadBy : {S : Type 0} → Scheme S → NodeView S → View → ℕ → List Digest → Type 0
IsReadBy scheme node view from digests = (base : State) → IsBase scheme node base → digests ≡ drop from (after_all (node_of scheme node.setting) base (events view.durable)).order

-- these digests stand in an order at this place
abbrev pub StandFrom : List Digest → ℕ → List Digest → Type 0
StandFrom whole from digests = digests ≡ take (length digests) (drop from whole)

-- each piece of the order that a seat has collected or read stands in this one order at its place
pub record IsOfOrder {S : Type 0} (scheme : Scheme S) (node : NodeView S) (view : View) (whole : List Digest) : Type 0 where
  pub collected : (start : ℕ) (digests : List Digest) → IsPutOutBy scheme node view (output.Order start digests) → StandFrom whole start digests
  pub read : (from : ℕ) (digests : List Digest) → IsReadBy scheme node view from digests → StandFrom whole from digests

-- There is one such order for a seat: that of any legal history that starts with one leading to the node's base and then has all events
-- that the seat knows as settled. So seats of one run or of several runs collect and read pieces of one order, if one such history has the
-- events of all.
abbrev pub CollectedOrdersAgree : Type 0 → Type 0
CollectedOrdersAgree S = (scheme : Scheme S) (node : NodeView S) (began left : History) (view : View)
    → KeepsBase scheme node began → IsLegal (node_of scheme node.setting) left → Begins (began ++ events view.durable) left
    → IsOfOrder scheme node view (order (node_of scheme node.setting) left)
