-- What contracts see of a caller and of a flusher with its node.
use Rattle.std.specs.Prelude.{◌≡◌}
use Rattle.node_seats.specs.Sights.{SeatView}
use Rattle.validator.specs.Setting.{ConfigView}
use Rattle.node_shared.specs.Home.{NodeView, IsOf}
use Rattle.flusher.specs.declared.flusher.Flusher.{Flusher}

-- a caller: the configuration, the node, and the seat with which it calls the node
pub record CallerView (S : Type 0) : Type 0 where
  pub setting : ConfigView S
  pub node : NodeView S
  pub seat : SeatView

-- the seat of a caller belongs to the caller's node, and this node has the caller's configuration
pub record IsCalling {S : Type 0} (caller : CallerView S) : Type 0 where
  pub of_node : IsOf caller.node caller.seat
  pub setting : caller.node.setting ≡ caller.setting

-- after a call the caller has the same configuration and the same node as before
pub record StaysWith {S : Type 0} (before later : CallerView S) : Type 0 where
  pub setting : later.setting ≡ before.setting
  pub node : later.node ≡ before.node

-- a flusher with its node: the node, the seat with which the flusher calls it, and the flusher
pub record RoundsView (S D : Type 0) : Type 0 where
  pub node : NodeView S
  pub seat : SeatView
  pub flusher : Flusher D
