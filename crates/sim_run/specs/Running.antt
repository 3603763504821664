-- When the parts of a simulated node belong to one node.
use Rattle.std.specs.Prelude.{◌≡◌, IsSome}
use Rattle.flusher.specs.Rounds.{IsFlusherOf, journal_of}
use Rattle.flusher.specs.declared.flusher.Flusher.{Flusher}
use Rattle.journal.specs.Journal.{spare_of}
use Rattle.node_seats.specs.Sights.{SeatView}
use Rattle.node_shared.specs.Home.{NodeView, IsOf}
use Rattle.validator.specs.Setting.{ConfigView}
use Rattle.diskmodel.specs.Disk.{Device}
use Rattle.sigface.specs.Scheme.{Scheme}

-- the node has this configuration, the seat and the flusher are its own, and its journal is on two disks
pub record AreOne {S D : Type 0} (scheme : Scheme S) (device : Device D) (config : ConfigView S) (node : NodeView S) (seat : SeatView) (flusher : Flusher D) : Type 0 where
  pub set : node.setting ≡ config
  pub of_node : IsOf node seat
  pub flushes : IsFlusherOf scheme device node flusher
  pub pair : IsSome (spare_of (journal_of flusher))
