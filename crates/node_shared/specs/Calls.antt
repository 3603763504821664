-- How a call of a shared node changes what its seats know.
use Rattle.std.specs.Prelude.{◌≡◌, true, false, List, [], ℕ, Option, IsNone, Result, IfOk, IfSome, OnOk, OnErr}
use Rattle.wire.specs.Lists.{Begins}
use Rattle.spec_machine.specs.After.{IsLegalAfter}
use Rattle.spec_model.specs.States.{State}
use Rattle.validator.specs.Setting.{node_of}
use Rattle.node_seats.specs.Sights.{SeatView}
use Rattle.node_seats.specs.Views.{events, HasOwn, IsSame}
use Rattle.node_shared.specs.Home.{NodeView, IsBase, IsOf, IsFlushOf, TakesNext, IsCheckpointAfter, taken_by}
use Rattle.node_shared.specs.declared.flush_seat.FlushSeat.{FlushSeat}
use Rattle.sigface.specs.Scheme.{Scheme}

-- The seat only looked: it is the same seat of the node, and knows the same events as settled. It has seen what it had seen before, and
-- perhaps more events, all legal after each base. The events that it brought are those among them that are marked with its number.
pub record Looked {S : Type 0} (scheme : Scheme S) (node : NodeView S) (before later : SeatView) : Type 0 where
  pub of_node : IsOf node later
  pub same : IsSame before later
  pub durable : later.view.durable ≡ before.view.durable
  pub more : Begins before.view.seen later.view.seen
  pub own : HasOwn later.view
  pub legal : (base : State) → IsBase scheme node base → IsLegalAfter (node_of scheme node.setting) base (events later.view.seen)

-- The seat learned what is settled: it is the same seat of the node. It has seen what it had seen before, and perhaps more events; and it
-- knows as settled what it knew before, and perhaps more. What it knows as settled is legal after each base. The events that it brought are
-- those that it has seen marked with its number.
pub record Learned {S : Type 0} (scheme : Scheme S) (node : NodeView S) (before later : SeatView) : Type 0 where
  pub of_node : IsOf node later
  pub same : IsSame before later
  pub more : Begins before.view.durable later.view.durable
  pub seen : Begins before.view.seen later.view.seen
  pub within : Begins later.view.durable later.view.seen
  pub own : HasOwn later.view
  pub legal : (base : State) → IsBase scheme node base → IsLegalAfter (node_of scheme node.setting) base (events later.view.durable)

-- The seat brought an event, whether it was new or not: it is the same seat of the node, and knows the same events as settled. If it knew
-- that the node is down, it still does; it may take the node down exactly if it might before. What it has seen is legal after each base,
-- and the events that it brought are those among them that are marked with its number.
pub record Brought {S : Type 0} (scheme : Scheme S) (node : NodeView S) (before later : SeatView) : Type 0 where
  pub of_node : IsOf node later
  pub id : later.id ≡ before.id
  pub number : later.view.number ≡ before.view.number
  pub down : before.view.down ≡ true → later.view.down ≡ true
  pub right : later.view.may_fail ≡ before.view.may_fail
  pub durable : later.view.durable ≡ before.view.durable
  pub own : HasOwn later.view
  pub legal : (base : State) → IsBase scheme node base → IsLegalAfter (node_of scheme node.setting) base (events later.view.seen)

-- The seat is the same, has seen the same events, and knows the same events as settled.
pub record Stays (before later : SeatView) : Type 0 where
  pub same : IsSame before later
  pub seen : later.view.seen ≡ before.view.seen
  pub durable : later.view.durable ≡ before.view.durable

-- the seat has seen no event since its node was made, and doesn't know that the node is down
pub record HasNothing (seat : SeatView) : Type 0 where
  pub seen : seat.view.seen ≡ []
  pub durable : seat.view.durable ≡ []
  pub mine : seat.view.mine ≡ []
  pub up : seat.view.down ≡ false

-- the second seat was split off the first: it knows what the first one does, has brought no event, and can't take the node down
pub record IsBeside {S : Type 0} (node : NodeView S) (seat other : SeatView) : Type 0 where
  pub of_node : IsOf node other
  pub seen : other.view.seen ≡ seat.view.seen
  pub durable : other.view.durable ≡ seat.view.durable
  pub down : other.view.down ≡ seat.view.down
  pub mine : other.view.mine ≡ []
  pub own : HasOwn other.view
  pub right : other.view.may_fail ≡ false

-- ---- the seat of the flusher

-- a call takes a group for the disk. The group is the next one of the events that the flush seat has seen; or there is none, where all of
-- these are settled. Where an allocation failed, nothing is taken
pub record Takes {E : Type 0} (before later : FlushSeat) (result : Result (Option (List (List ℕ))) E) : Type 0 where
  pub none : IfOk result (λ found. IsNone found → (later.taken ≡ before.taken) × (later.seat.view.durable ≡ later.seat.view.seen))
  pub group : IfOk result (λ found. IfSome found (λ group. TakesNext later group))
  pub err : OnErr result (later.taken ≡ before.taken)

-- a call takes everything for a checkpoint: all events that the flush seat has seen are taken, and these records are a checkpoint of them.
-- Where an allocation failed, nothing is taken
pub record TakesAll {S E : Type 0} (scheme : Scheme S) (node : NodeView S) (before later : FlushSeat) (result : Result (List (List ℕ)) E) : Type 0 where
  pub all : OnOk result ((taken_by later ≡ later.seat.view.seen) × (later.rewriting ≡ true))
  pub checkpoint : IfOk result (λ records. IsCheckpointAfter scheme node (taken_by later) records)
  pub err : OnErr result ((later.taken ≡ before.taken) × (later.rewriting ≡ false))

-- all events that had been taken are settled, and neither a group nor a checkpoint is in flight
pub record SettlesTaken {S : Type 0} (node : NodeView S) (before later : FlushSeat) : Type 0 where
  pub flush_of : IsFlushOf node later
  pub same : IsSame before.seat later.seat
  pub durable : later.seat.view.durable ≡ taken_by before
  pub settled : later.settled ≡ before.taken
  pub taken : later.taken ≡ before.taken
  pub idle : later.rewriting ≡ false

-- the flush seat counts as many settled and taken events as before, and a checkpoint is in flight exactly if one was before
pub record CountsAs (before later : FlushSeat) : Type 0 where
  pub settled : later.settled ≡ before.settled
  pub taken : later.taken ≡ before.taken
  pub rewriting : later.rewriting ≡ before.rewriting
