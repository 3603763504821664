-- How outputs go out of a member, step by step: the settled order is read, and then one output after the other is released.
use Rattle.std.specs.Prelude.{◌≡◌, ℕ, List, [], ◌∷◌, ◌++◌, map}
use Rattle.desk.specs.AtWorld.{IsAt, LeadsTo}
use Rattle.desk.specs.Desk as desk
use Rattle.spec_model.specs.Holdings.{order}
use Rattle.spec_model.specs.Nodes.{Node}
use Rattle.spec_world.specs.Lasting.{settled_in}
use Rattle.spec_world.specs.Steps.{read_order, release, Leads}
use Rattle.spec_world.specs.World.{World, Waiting}
use Rattle.cluster.specs.Member.{GivenOutView, HasPutOut, HasKept}
use Rattle.diskmodel.specs.Disk.{Device}

-- `given` is all that went out in this world, and the order in it is the whole settled order
pub record IsWhole (node : Node) (world : World) (given : GivenOutView) : Type 0 where
  pub out : HasPutOut node world given
  pub whole : given.order ≡ order node (settled_in world)

-- the desk's settled order was read, which is a move of its world
pub record HasRead {S D : Type 0} (node : Node) (device : Device D) (world : World) (desk : desk.DeskView S D) (later : GivenOutView) : Type 0 where
  pub to : World
  pub leads : Leads node world (read_order ∷ []) to
  pub at : IsAt node device to desk
  pub whole : IsWhole node to later

-- the first output that waited in the desk's queue went out
pub record IsReleasedNext {S D : Type 0} (node : Node) (device : Device D) (desk next : desk.DeskView S D) (before later : GivenOutView) : Type 0 where
  pub waiting : Waiting
  pub queue : desk.book.queue ≡ waiting ∷ next.book.queue
  pub outputs : later.outputs ≡ before.outputs ++ waiting.output ∷ []
  pub order : later.order ≡ before.order
  pub step : (world : World) → IsAt node device world desk
      → (ticket : ℕ) × LeadsTo node device world (release (record { ticket = ticket; output = waiting.output }) ∷ []) next

-- some outputs of the desk's queue went out, one after the other
pub record HasReleased {S D : Type 0} (node : Node) (device : Device D) (world : World) (desk next : desk.DeskView S D) (before later : GivenOutView) : Type 0 where
  pub went : List Waiting
  pub kept : HasKept desk next before later went
  pub to : World
  pub leads : Leads node world (map release went) to
  pub at : IsAt node device to next
  pub whole : IsWhole node to later
