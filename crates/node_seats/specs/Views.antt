-- Events, each with the number of the seat that brought it, and what seats know of them.
use Rattle.std.specs.Prelude.{◌≡◌, ℕ, Bool, true, false, ◌==◌, ◌||◌, if◌then◌else◌, List, [], map}
use Rattle.std.specs.List.{filter}
use Rattle.spec_model.specs.Histories.{History}
use Rattle.spec_model.specs.Words.{Event}
use Rattle.wire.specs.declared.message.Message.TheVariants as message
use Rattle.node_seats.specs.Sights.{SeatView}
use Rattle.node_seats.specs.declared.view.Marked.{Marked}
use Rattle.node_seats.specs.declared.view.View.{View}

-- an event together with the number of the seat that brought it
abbrev pub mark : ℕ → Event → Marked
mark number event = record { by = number; event = event }

-- these events without the numbers of their seats, oldest first
abbrev pub events : List Marked → History
events marked = map (λ one. one.event) marked

-- the events that the seat of this number brought, in their order
abbrev pub events_by : ℕ → List Marked → History
events_by number marked = map (λ one. one.event) (filter (λ one. one.by == number) marked)

-- a seat's own events are just those that it has seen and that have its number
abbrev pub HasOwn : View → Type 0
HasOwn view = events_by view.number view.seen ≡ view.mine

-- the word that says whether the node is down: 1 if it is, and otherwise 0
abbrev pub flag : Bool → ℕ
flag down = if down then 1 else 0

-- what the first seat of a node knows; it alone has the right to take the node down
abbrev pub first_view : View
first_view = record {
  live = true;
  numbered = true;
  number = 0;
  seen = [];
  durable = [];
  mine = [];
  down = false;
  may_fail = true;
  heard = [];
  heard_durable = [];
}

-- a new seat made from this one: it knows what this one does, has brought no event, may not take the node down, and has no number yet
abbrev pub newcomer : View → View
newcomer view = record {
  live = view.live;
  numbered = false;
  number = 0;
  seen = view.seen;
  durable = view.durable;
  mine = [];
  down = view.down;
  may_fail = false;
  heard = [];
  heard_durable = [];
}

-- what a seat knows after another seat has shared its knowledge with it
abbrev pub informed : View → View → View
informed view other = record view { down = view.down || other.down; heard = other.seen; heard_durable = other.durable }

-- what is left of a seat that was merged into another one
abbrev pub spent : View
spent = record {
  live = false;
  numbered = false;
  number = 0;
  seen = [];
  durable = [];
  mine = [];
  down = false;
  may_fail = false;
  heard = [];
  heard_durable = [];
}

-- some event, which is used where any will do
abbrev pub no_event : Event
no_event = record { sender = record { 0 = 0 }; message = message.Coin (record { wave = 0; value = 0 }) }

-- ---- what every step leaves of a seat

-- The seat is the same: it belongs to the same words and has the same own events. If it knew that the node is down it still does. It has
-- kept its right to take the node down, or had none and has none.
pub record IsSame (before later : SeatView) : Type 0 where
  pub table : later.table ≡ before.table
  pub id : later.id ≡ before.id
  pub live : later.view.live ≡ before.view.live
  pub numbered : later.view.numbered ≡ before.view.numbered
  pub number : later.view.number ≡ before.view.number
  pub mine : later.view.mine ≡ before.view.mine
  pub down : before.view.down ≡ true → later.view.down ≡ true
  pub right : later.view.may_fail ≡ before.view.may_fail
