-- When a book belongs to a world, and the laws that what the book does is then a step of that world.
use Rattle.std.specs.Prelude.{◌≡◌, ◌⊎◌, ◌↔◌, ℕ, ◌+◌, ◌≤◌, ◌<◌, ◌^◌, List, [], ◌∷◌, ◌++◌, length, map, drop, Option, Some, None, All, Contains}
use Rattle.spec_model.specs.Admitting.{IsLegal}
use Rattle.spec_model.specs.Giving.{kept}
use Rattle.spec_model.specs.Histories.{History}
use Rattle.spec_model.specs.Nodes.{Node, IsNode}
use Rattle.spec_model.specs.Words.{Event, Output}
use Rattle.spec_records.specs.Records.{record_of}
use Rattle.diskmodel.specs.Outcomes.{AreBytes}
use Rattle.journal.specs.Snapshot.{bytes_for, CanPack}
use Rattle.spec_world.specs.World.{World, Waiting, Spare, IsCheckpointOf, taken_in, first_of, content_in}
use Rattle.spec_world.specs.Runs.{AreKeys, spare_calls, HasSettledGroup, HasSettledCheckpoint}
use Rattle.spec_world.specs.Steps.{Move, accept, take_to, device_call, settle, release, take_all, IsStep, Leads, IsRun}
use Rattle.book.specs.Book.{BookView, Run, Stands, settled_by, TakesNew, TakesKnown, releasable, releasable_within}
use Rattle.book.specs.Checkpoints.{SettlesAll}
use Rattle.book.specs.InFlight.{Flushes, GoesDown}
use Rattle.book.specs.Pending.{IsLongestBeginning}

-- the run that is going on in a world: its base is the state kept of the history that was there when the run began
abbrev pub run_of : Node → World → Run
run_of node world = record { base = kept node world.began; accepted = world.accepted; taken = taken_in world; settled = world.settled }

-- a rewriting settles `count` of the accepted events: those that were settled before it, and those of the first group in flight. It counts
-- as in flight in the world until that group is durable
pub record IsRewritingTo (world : World) (count : ℕ) : Type 0 where
  pub some : 1 ≤ length world.groups
  pub counts : length world.settled + length (first_of world.groups) ≡ count
  pub until_durable : (world.rewriting ≡ None) ↔ (1 ≤ world.durable)

-- the book's rewriting in flight is that of the world, and if the book has none, the world has none
abbrev pub IsRewriting : World → Option ℕ → Type 0
IsRewriting world None = world.rewriting ≡ None
IsRewriting world (Some count) = IsRewritingTo world count

-- a book belongs to a world: it stands at the world's run, which began with a legal history; both have the same rewriting in flight; and
-- each output in the book's queue waits in the world
pub record IsOf {S : Type 0} (node : Node) (world : World) (book : BookView S) : Type 0 where
  pub began : IsLegal node world.began
  pub stands : Stands node (run_of node world) book
  pub rewriting : IsRewriting world book.rewriting
  pub waits : All (Contains world.waiting) book.queue

-- this move leads from the world to a next one, to which the book belongs
pub record Moves {S : Type 0} (node : Node) (world : World) (move : Move) (book : BookView S) : Type 0 where
  pub next : World
  pub step : IsStep node world move next
  pub is_of : IsOf node next book

-- accepting an event, new or known, is a step of the world
abbrev pub AcceptIsAStep : Type 0 → Type 0
AcceptIsAStep S = (node : Node) (world : World) (before later : BookView S) (event : Event) → IsOf node world before
    → TakesNew node before later event ⊎ TakesKnown node before later event → Moves node world (accept event) later

-- the world takes this group, which is then the last one in flight, even if an earlier one isn't settled yet
pub record TakesAfter {S : Type 0} (node : Node) (world : World) (group : List (List ℕ)) (later : BookView S) : Type 0 where
  pub moves : Moves node world (take_to (length (taken_in world) + length group)) later
  pub events : History
  pub groups : moves.next.groups ≡ world.groups ++ events ∷ []
  pub records : group ≡ map record_of events

abbrev pub TakeIsAStep : Type 0 → Type 0
TakeIsAStep S = (node : Node) (world : World) (before later : BookView S) (group : List (List ℕ)) → IsOf node world before
    → IsLongestBeginning before.pending group later.pending → later ≡ record before { pending = later.pending; taken = before.taken + length group }
    → TakesAfter node world group later

-- settling is a step of the world. It settles the world's first group in flight, once that is durable. The records have to be that group's;
-- only during a rewriting they may be any, since that group is the one that the rewriting settles
abbrev pub SettleIsAStep : Type 0 → Type 0
SettleIsAStep S = (node : Node) (world : World) (before later : BookView S) (records : List (List ℕ)) → IsOf node world before → 1 ≤ world.durable
    → (before.rewriting ≡ None → map record_of (first_of world.groups) ≡ records) → Stands node (settled_by (run_of node world) before.rewriting (length records)) later
    → later.rewriting ≡ None → later.queue ≡ before.queue → Moves node world settle later

-- releasing an output is a step of the world in which it goes out
abbrev pub ReleaseIsAStep : Type 0 → Type 0
ReleaseIsAStep S = (node : Node) (world : World) (before later : BookView S) (output : Output) → IsOf node world before → releasable before ≡ Some output
    → later ≡ record before { queue = drop 1 before.queue } → Stands node (run_of node world) later
    → (ticket : ℕ) × Moves node world (release (record { ticket = ticket; output = output })) later

-- these outputs go out in the world one after the other, with their tickets, and the book belongs to the world after that
pub record ReleasesThere {S : Type 0} (node : Node) (world : World) (outputs : List Output) (later : BookView S) : Type 0 where
  pub waiting : List Waiting
  pub outputs_are : map (λ one. one.output) waiting ≡ outputs
  pub next : World
  pub leads : Leads node world (map release waiting) next
  pub is_of : IsOf node next later

-- when the outputs that may leave are released together, at most `room` of them, each release is a step of the world in which one goes out
abbrev pub ReleasesAreSteps : Type 0 → Type 0
ReleasesAreSteps S = (node : Node) (world : World) (before later : BookView S) (room : ℕ) → IsOf node world before
    → later ≡ record before { queue = drop (length (releasable_within room before)) before.queue } → ReleasesThere node world (releasable_within room before) later

-- a round of a single owner is a sequence of steps: a group is taken, its four device calls are made, and it is settled. If the disk had
-- the old bytes, it has the new ones afterwards
pub record FlushesThere {S : Type 0} (node : Node) (world : World) (count : ℕ) (old new : List ℕ) (later : BookView S) : Type 0 where
  pub next : World
  pub leads : Leads node world (take_to count ∷ device_call ∷ device_call ∷ device_call ∷ device_call ∷ settle ∷ []) next
  pub settled : HasSettledGroup node world count next
  pub is_of : IsOf node next later
  pub content : content_in world ≡ old → content_in next ≡ new

abbrev pub FlushIsSteps : Type 0 → Type 0
FlushIsSteps S = (node : Node) (moves : List Move) (world : World) (before later : BookView S) (old new : List ℕ) (count : ℕ) → IsNode node → IsRun node moves world → IsOf node world before
    → world.groups ≡ [] → Flushes node before later old new count → FlushesThere node world (length world.settled + count) old new later

-- When a round takes the book down, the group that it took is taken in one step of the world, and stays in flight. The device calls that
-- the round made before a call failed are further steps of the world, after this one.
abbrev pub FailIsAStep : Type 0 → Type 0
FailIsAStep S = (node : Node) (world : World) (before later : BookView S) → IsOf node world before → (down : GoesDown node before later) → TakesAfter node world down.group later

-- when all accepted events are taken for a checkpoint with these bytes, the rewriting is in flight in the world. The law allows that the
-- book is down then, as it is after a failed rewriting
abbrev pub TakeAllIsAStep : Type 0 → Type 0
TakeAllIsAStep S = (node : Node) (moves : List Move) (world : World) (before later : BookView S) (spare : Spare) (bytes : List ℕ) → IsNode node → IsRun node moves world → IsOf node world before
    → world.groups ≡ [] → world.spare ≡ Some spare → IsCheckpointOf node (spare.generation + 1) (kept node (world.began ++ world.accepted)) bytes
    → later ≡ record before { pending = []; taken = before.accepted; rewriting = Some before.accepted; down = later.down } → Moves node world (take_all bytes) later

-- a journal can write a checkpoint with these records and this generation, for a node whose committee has keys of 32 bytes
pub record CanWrite (node : Node) (generation : ℕ) (snapshot : List (List ℕ)) : Type 0 where
  pub keys : AreKeys node
  pub generation_fits : generation < 2 ^ 64
  pub packs : CanPack snapshot
  pub are_bytes : AreBytes (bytes_for generation snapshot)

-- a checkpoint of a single owner is a sequence of steps: all accepted events are taken, the eight device calls of the rewriting are made,
-- and it is settled
pub record CheckpointsThere {S : Type 0} (node : Node) (world : World) (spare : Spare) (bytes : List ℕ) (later : BookView S) : Type 0 where
  pub next : World
  pub leads : Leads node world (take_all bytes ∷ (spare_calls 8 ++ settle ∷ [])) next
  pub settled : HasSettledCheckpoint node world spare bytes next
  pub is_of : IsOf node next later

abbrev pub CheckpointIsSteps : Type 0 → Type 0
CheckpointIsSteps S = (node : Node) (moves : List Move) (world : World) (before later : BookView S) (spare : Spare) (snapshot : List (List ℕ)) → IsNode node → IsRun node moves world
    → IsOf node world before → world.groups ≡ [] → world.spare ≡ Some spare → CanWrite node (spare.generation + 1) snapshot → SettlesAll node before later snapshot
    → CheckpointsThere node world spare (bytes_for (spare.generation + 1) snapshot) later
