-- What contracts see of one member of a cluster, and which state of the world (of disks, waiting events and outputs) it has reached.
use Rattle.std.specs.Prelude.{◌≡◌, ◌⊎◌, List, [], ◌∷◌, ◌++◌, map, Bool, true, false, Option, Some, None, Contains}
use Rattle.book.specs.Book.{Run, Stands, state_in, releasable}
use Rattle.desk.specs.AtWorld.{IsAt}
use Rattle.desk.specs.Desk.{IsOpened}
use Rattle.desk.specs.Desk as desk
use Rattle.journal.specs.Areas.{alone}
use Rattle.journal.specs.Journal.{disk_of, spare_of}
use Rattle.wire.specs.Lists.{Begins}
use Rattle.spec_model.specs.Holdings.{order}
use Rattle.spec_machine.specs.Machine.{proposed}
use Rattle.spec_model.specs.Nodes.{Node, IsNode}
use Rattle.spec_model.specs.Words.{Digest, Header, Output}
use Rattle.spec_world.specs.Promise.{order_given}
use Rattle.spec_world.specs.Steps.{Move, read_order, release, Leads, IsRun}
use Rattle.spec_world.specs.World.{World, Waiting, Given}
use Rattle.validator.specs.Setting.{ConfigView, node_of}
use Rattle.cluster.specs.Outputs.{outputs_in}
use Rattle.diskmodel.specs.Disk.{Device}
use Rattle.sigface.specs.Scheme.{Scheme}

-- what a member gave out over all its runs: its outputs, oldest first, and the longest order
pub record GivenOutView : Type 0 where
  pub outputs : List Output
  pub order : List Digest

-- what contracts see of a member: its setting, its desk (None after a stop from which it could not be opened), and what it gave out
pub record MemberView (S D : Type 0) : Type 0 where
  pub setting : ConfigView S
  pub desk : Option (desk.DeskView S D)
  pub out : GivenOutView

-- this desk is a member's: it has the member's setting, and its journal is on one disk
pub record IsOwn {S D : Type 0} (setting : ConfigView S) (one : desk.DeskView S D) : Type 0 where
  pub set : one.book.validator.setting ≡ setting
  pub alone : spare_of one.journal ≡ None

-- `digests` is the longest order that was given out in a world: it was given out, unless it is empty, and every other one is a prefix of it
pub record IsLongest (node : Node) (world : World) (digests : List Digest) : Type 0 where
  pub given : (digests ≡ []) ⊎ ((one : Given) × Contains world.given one × (order_given (order node one.history) one.outgoing ≡ Some digests))
  pub begins : (one : Given) (other : List Digest) → Contains world.given one → order_given (order node one.history) one.outgoing ≡ Some other → Begins other digests

-- `out` is all that went out in this world
pub record HasPutOut (node : Node) (world : World) (out : GivenOutView) : Type 0 where
  pub outputs : outputs_in world.given ≡ out.outputs
  pub order : IsLongest node world out.order

-- A member stands at a world of its node's runs: unless the desk is gone it stands there, and what the member gave out is what went out
-- there.
pub record StandsAt {S D : Type 0} (node : Node) (device : Device D) (world : World) (member : MemberView S D) : Type 0 where
  pub sound : IsNode node
  pub moves : List Move
  pub run : IsRun node moves world
  pub at : (one : desk.DeskView S D) → member.desk ≡ Some one → IsAt node device world one
  pub out : HasPutOut node world member.out

-- The member may have been opened on this disk: the disk in its desk has counted as many failed calls.
abbrev pub IsOn : {S D : Type 0} → Device D → D → MemberView S D → Type 0
IsOn {S} {D} device disk member = (one : desk.DeskView S D) → member.desk ≡ Some one → device.faults (disk_of one.journal) ≡ device.faults disk

-- A member is new: its desk was just opened on an empty disk, and has accepted nothing; no output waits in it, and nothing is in flight. The
-- member gave nothing out.
pub record IsNew {S D : Type 0} (scheme : Scheme S) (device : Device D) (member : MemberView S D) : Type 0 where
  pub desk : desk.DeskView S D
  pub has : member.desk ≡ Some desk
  pub opened : IsOpened (node_of scheme member.setting) device (alone []) desk
  pub accepted : desk.book.accepted ≡ 0
  pub outputs : member.out.outputs ≡ []
  pub order : member.out.order ≡ []

-- a member proposes what its node proposes after all events that it accepted: this header, or none
pub record Proposes {S D : Type 0} (node : Node) (member : MemberView S D) (found : Option Header) : Type 0 where
  pub desk : desk.DeskView S D
  pub has : member.desk ≡ Some desk
  pub proposes : (run : Run) → Stands node run desk.book → found ≡ proposed node (state_in node run)

-- ---- what goes out after a move

-- the moves of a world by which these outputs go out: the settled order is read first. Of a desk that is down nothing goes out
abbrev pub going_out : Bool → List Waiting → List Move
going_out true went = []
going_out false went = read_order ∷ map release went

-- outputs left the front of a desk's queue and were recorded after the earlier ones; `went` are those outputs, as the world saw them
pub record HasKept {S D : Type 0} (desk next : desk.DeskView S D) (before later : GivenOutView) (went : List Waiting) : Type 0 where
  pub took : List Waiting
  pub queue : desk.book.queue ≡ took ++ next.book.queue
  pub outputs : later.outputs ≡ before.outputs ++ map (λ waiting. waiting.output) took
  pub same : map (λ waiting. waiting.output) went ≡ map (λ waiting. waiting.output) took

-- all outputs that may go out after a move went out, and the world made the moves for that
pub record HasCollected {S D : Type 0} (node : Node) (device : Device D) (world : World) (desk next : desk.DeskView S D) (before later : GivenOutView) : Type 0 where
  pub went : List Waiting
  pub kept : HasKept desk next before later went
  pub none_left : releasable next.book ≡ None
  pub to : World
  pub leads : Leads node world (going_out desk.book.down went) to
  pub at : IsAt node device to next
  pub out : HasPutOut node to later

-- an allocation failed after a move, so that only some of the outputs went out, or none because the order could not be read
pub record HasCollectedSome {S D : Type 0} (node : Node) (device : Device D) (world : World) (desk next : desk.DeskView S D) (before later : GivenOutView) : Type 0 where
  pub went : List Waiting
  pub kept : HasKept desk next before later went
  pub moves : List Move
  pub are : (moves ≡ []) ⊎ (moves ≡ going_out desk.book.down went)
  pub to : World
  pub leads : Leads node world moves to
  pub at : IsAt node device to next
  pub out : HasPutOut node to later
