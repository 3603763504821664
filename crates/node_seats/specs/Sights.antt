-- What contracts see of a seat.
use Rattle.std.specs.Prelude.{ℕ}
use Rattle.atomic_table.specs.Seated.{TableId}
use Rattle.node_seats.specs.declared.view.View.{View}

-- a seat as contracts see it: the words that it belongs to, its number there, and what it knows
pub record SeatView : Type 0 where
  pub table : TableId
  pub id : ℕ
  pub view : View

-- the words as contracts see them: which ones they are, and the key with which they were made
pub record WordsView (K : Type 0) : Type 0 where
  pub table : TableId
  pub key : K
