-- What a seat (a thread's knowledge of the events at a node) knows after each kind of step on the words, the shared counts.
use Rattle.std.specs.Prelude.{◌≡◌, ◌≢◌, ◌≤◌, ℕ, true, false, [], ◌∷◌, ◌++◌, length, take}
use Rattle.spec_model.specs.Histories.{History}
use Rattle.wire.specs.Lists.{Begins}
use Rattle.spec_model.specs.Words.{Event}
use Rattle.node_seats.specs.declared.view.View.{View}
use Rattle.node_seats.specs.Views.{events, mark, flag, HasOwn}

-- the seat has now seen all `count` accepted events; nothing else that it knows has changed
pub record Looks (Judged : History → Type 0) (before : View) (count : ℕ) (later : View) : Type 0 where
  pub rest : later ≡ record before { seen = later.seen }
  pub seen : Begins before.seen later.seen
  pub heard : Begins before.heard later.seen
  pub count_is : length later.seen ≡ count
  pub own : later.numbered ≡ true → HasOwn later
  pub judged : Judged (events later.seen)

-- the seat now knows that `count` events are settled, and which ones, and has seen them
pub record Reads (Judged : History → Type 0) (before : View) (count : ℕ) (later : View) : Type 0 where
  pub rest : later ≡ record before { seen = later.seen; durable = later.durable }
  pub durable : Begins before.durable later.durable
  pub heard : Begins before.heard_durable later.durable
  pub durable_seen : Begins later.durable later.seen
  pub seen : Begins before.seen later.seen
  pub same : length later.durable ≤ length before.seen → later.seen ≡ before.seen
  pub count_is : length later.durable ≡ count
  pub own : later.numbered ≡ true → HasOwn later
  pub judged : Judged (events later.durable)

-- the event was accepted, right after all events that the seat has seen
abbrev pub with_event : View → Event → View
with_event view event = record view { seen = view.seen ++ mark view.number event ∷ []; mine = view.mine ++ event ∷ [] }

-- If the number of accepted events was still `old`, this event was accepted right after exactly what the seat had seen. Otherwise the seat
-- has only looked
pub record Accepts (old : ℕ) (event : Event) (before : View) (count : ℕ) (later : View) : Type 0 where
  pub won : count ≡ old → (length before.seen ≡ old) × (later ≡ with_event before event)
  pub lost : count ≢ old → Looks (λ list. Unit {0}) before count later

-- the seat knows that the first `count` events that it has seen are settled
abbrev pub with_durable : View → ℕ → View
with_durable view count = record view { durable = take count view.seen }

-- If the number of settled events was still `old`, the first `new` events that the seat has seen are settled now; before, exactly those
-- were that it knew as settled. Otherwise the seat has only read
pub record Settles (old new : ℕ) (before : View) (count : ℕ) (later : View) : Type 0 where
  pub won : count ≡ old → (length before.durable ≡ old) × (later ≡ with_durable before new)
  pub lost : count ≢ old → Reads (λ list. Unit {0}) before count later

-- The seat now knows whether the node is down. A node that is down stays so; while the seat has the right to take the node down, it is up.
pub record ReadsDown (before : View) (count : ℕ) (later : View) : Type 0 where
  pub rest : later ≡ record before { down = later.down }
  pub stays : before.down ≡ true → later.down ≡ true
  pub right : before.may_fail ≡ true → later.down ≡ false
  pub count_is : flag later.down ≡ count

-- the node is down, and the seat has used up its right to take it down
abbrev pub with_down : View → View
with_down view = record view { down = true; may_fail = false }
