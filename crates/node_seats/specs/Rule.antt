-- The invariant of the words (the shared counts) and of what all seats know. It holds between any two steps.
use Rattle.std.specs.Prelude.{◌≡◌, ◌≤◌, ℕ, Bool, true, false, List, [], ◌∷◌, length, take}
use mathlib.Core.Option.{some}
use lib.ListN.{get_elem?}
use Rattle.spec_model.specs.Histories.{History}
use Rattle.wire.specs.Lists.{Begins}
use Rattle.node_seats.specs.declared.view.Marked.{Marked}
use Rattle.node_seats.specs.declared.view.View.{View}
use Rattle.node_seats.specs.Views.{events, events_by, flag}

-- What the seat with this number knows is true. It has seen a prefix of the accepted events and knows a prefix of the settled ones; its own
-- events are exactly those that it brought, and it has seen them; if it knows that the node is down, the node is. Only the first seat can
-- have the right to take the node down, and as long as it has that right the node is up.
pub record Fits (accepted settled : List Marked) (down : Bool) (number : ℕ) (view : View) : Type 0 where
  pub number_is : view.numbered ≡ true → view.number ≡ number
  pub seen : Begins view.seen accepted
  pub durable : Begins view.durable settled
  pub durable_seen : Begins view.durable view.seen
  pub heard : Begins view.heard accepted
  pub heard_durable : Begins view.heard_durable settled
  pub mine : events_by number accepted ≡ view.mine
  pub own : events_by number view.seen ≡ view.mine
  pub down_is : view.down ≡ true → down ≡ true
  pub right : view.may_fail ≡ true → (number ≡ 0) × (down ≡ false)

-- The first word is the number of accepted events; the second is the number of settled ones, which are a prefix of the accepted ones; the
-- third is 1 if the node is down, and otherwise 0. The accepted events are legal, each was brought by a seat that exists, and what each
-- live seat knows is true.
pub record IsKept (Legal : History → Type 0) (words : List ℕ) (views : List View) : Type 0 where
  pub accepted : List Marked
  pub settled : List Marked
  pub down : Bool
  pub words_are : words ≡ length accepted ∷ length settled ∷ flag down ∷ []
  pub begins : Begins settled accepted
  pub legal : (count : ℕ) → Legal (events (take count accepted))
  pub nobody : (number : ℕ) → length views ≤ number → events_by number accepted ≡ []
  pub fits : (number : ℕ) (view : View) → get_elem? views number ≡ some view → view.live ≡ true → Fits accepted settled down number view
