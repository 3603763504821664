-- What a flusher's rounds and checkpoints take, settle, leave on the disks, and report.
use Rattle.std.specs.Prelude.{◌≡◌, ◌⊎◌, ◌↔◌, ℕ, ◌+◌, ◌<◌, false, not, Bool, List, ◌∷◌, length, map, drop, Result, IsErrOf, IsTrue, IfOk, OnOk, OnErr}
use Rattle.std.specs.Option.{option_map_or}
use Rattle.diskmodel.specs.Disk.{Device}
use Rattle.journal.specs.Areas.{Areas, alone, pair_of}
use Rattle.journal.specs.Format.{file_with, group_bytes}
use Rattle.journal.specs.Journal.{disk_of, spare_of, IsAlive}
use Rattle.journal.specs.declared.journal.Journal.{Journal}
use Rattle.journal.specs.declared.layout.TheConstants.{MAX_JOURNAL_BYTES, OPEN}
use Rattle.journal.specs.Pairs.{areas_of, generation_in}
use Rattle.journal.specs.Snapshot.{bytes_for}
use Rattle.spec_machine.specs.After.{after_all, IsLegalAfter}
use Rattle.spec_model.specs.States.{State}
use Rattle.wire.specs.Lists.{Begins}
use Rattle.spec_records.specs.Records.{record_of}
use Rattle.spec_world.specs.World.{Holds}
use Rattle.book.specs.Checkpoints.{HasNoRoomFor}
use Rattle.book.specs.Pending.{IsLongestBeginning}
use Rattle.validator.specs.Setting.{node_of}
use Rattle.node_seats.specs.Sights.{SeatView}
use Rattle.node_seats.specs.Views.{events, IsSame}
use Rattle.node_seats.specs.declared.view.Marked.{Marked}
use Rattle.node_shared.specs.Home.{NodeView, IsBase, IsFlushOf, IsCheckpointAfter, taken_by}
use Rattle.node_shared.specs.declared.flush_seat.FlushSeat.{FlushSeat}
use Rattle.book.specs.declared.own.error.FlushError.{FlushError}
use Rattle.book.specs.declared.own.error.FlushError.TheVariants as errors
use Rattle.book.specs.declared.own.error.FlushError.TheVariants.{Memory, Full, Down}
use Rattle.flusher.specs.declared.flusher.Flusher.{Flusher}
use Rattle.sigface.specs.Scheme.{Scheme}

-- ---- the parts of a flusher: its journal, and the seat with which it takes and settles

abbrev pub journal_of : {D : Type 0} → Flusher D → Journal D
journal_of flusher = flusher.journal

abbrev pub seat_of : {D : Type 0} → Flusher D → FlushSeat
seat_of flusher = flusher.seat

-- the node is down, since a round or a checkpoint of this flusher failed
abbrev pub is_down : {D : Type 0} → Flusher D → Bool
is_down flusher = flusher.down

-- the settled events, and (taken_in) the events that were taken for the disk
abbrev pub settled_in : {D : Type 0} → Flusher D → List Marked
settled_in flusher = (seat_of flusher).seat.view.durable

abbrev pub taken_in : {D : Type 0} → Flusher D → List Marked
taken_in flusher = taken_by (seat_of flusher)

-- areas are the node's journal with the state after these events, which are legal, from some base of the node
pub record HoldsAfter {S : Type 0} (scheme : Scheme S) (node : NodeView S) (marked : List Marked) (areas : Areas) : Type 0 where
  pub base : State
  pub is_base : IsBase scheme node base
  pub legal : IsLegalAfter (node_of scheme node.setting) base (events marked)
  pub holds : Holds (node_of scheme node.setting) areas (after_all (node_of scheme node.setting) base (events marked))

-- the areas of a journal if the one that is read had these bytes
abbrev pub areas_at : {D : Type 0} → Device D → Journal D → List ℕ → Areas
areas_at device journal left = option_map_or (λ spare. pair_of spare.side left (device.content spare.disk)) (spare_of journal) (alone left)

-- for each state from which the earlier areas held the settled events, the areas now hold `more` from the same state
abbrev pub KeepsEarlier : {S : Type 0} → Scheme S → NodeView S → List Marked → List Marked → Areas → Areas → Type 0
KeepsEarlier scheme node settled more before left =
    let member = node_of scheme node.setting in
    (base : State) → Holds member before (after_all member base (events settled)) → Holds member left (after_all member base (events more))

-- areas are the node's journal with these events, and for each earlier state as before
pub record LeavesAfter {S : Type 0} (scheme : Scheme S) (node : NodeView S) (settled more : List Marked) (before left : Areas) : Type 0 where
  pub holds : HoldsAfter scheme node more left
  pub earlier : KeepsEarlier scheme node settled more before left

-- A flusher belongs to a node, as its seat does. As long as it hasn't taken the node down, it has the right to do so, everything taken is
-- settled, no checkpoint is in flight, and its journal can be appended to and holds exactly the settled events.
pub record IsFlusherOf {S D : Type 0} (scheme : Scheme S) (device : Device D) (node : NodeView S) (flusher : Flusher D) : Type 0 where
  pub seat : IsFlushOf node (seat_of flusher)
  pub right : (seat_of flusher).seat.view.may_fail ≡ not (is_down flusher)
  pub rests : is_down flusher ≡ false → (seat_of flusher).taken ≡ (seat_of flusher).settled
  pub idle : is_down flusher ≡ false → (seat_of flusher).rewriting ≡ false
  pub alive : is_down flusher ≡ false → IsAlive device (journal_of flusher)
  pub holds : is_down flusher ≡ false → HoldsAfter scheme node (settled_in flusher) (areas_of device (journal_of flusher))

-- ---- what a round takes

-- the records of the events in `all` that come after the settled ones
abbrev pub records_after : List Marked → List Marked → List (List ℕ)
records_after settled all = map record_of (drop (length settled) (events all))

-- what is taken is what is settled, and then the longest prefix of the other events in `all` that fits a group
pub record IsGroupOf (settled all taken : List Marked) : Type 0 where
  pub group : List (List ℕ)
  pub rest : List (List ℕ)
  pub longest : IsLongestBeginning (records_after settled all) group rest
  pub is : group ≡ records_after settled taken
  pub size : length taken ≡ length settled + length group

-- A round takes the longest prefix of the accepted events which aren't settled that fits a group. The accepted events include all that the
-- seat had seen. If all are settled, the round takes no more.
pub record TakesLongest (seen settled taken : List Marked) : Type 0 where
  pub all : List Marked
  pub had_seen : Begins seen all
  pub begins : Begins settled taken
  pub within : Begins taken all
  pub takes : ((all ≡ settled) × (taken ≡ settled)) ⊎ IsGroupOf settled all taken

-- ---- what a checkpoint takes

-- a checkpoint takes all accepted events, which include all that the seat had seen, and all that are settled
pub record TakesAll (seen settled taken : List Marked) : Type 0 where
  pub had_seen : Begins seen taken
  pub begins : Begins settled taken

-- ---- what a round or a checkpoint leaves on the disks

-- areas are the node's journal with what was settled before the call, or with all that the call took
abbrev pub HoldsEither : {S : Type 0} → Scheme S → NodeView S → List Marked → List Marked → Areas → Areas → Type 0
HoldsEither scheme node settled taken before left = LeavesAfter scheme node settled settled before left ⊎ LeavesAfter scheme node settled taken before left

-- the journal with these bytes has no room for the group that was taken
pub record HasNoRoom (content : List ℕ) (settled taken : List Marked) : Type 0 where
  pub some : length settled < length taken
  pub too_long : MAX_JOURNAL_BYTES < length content + length (group_bytes (records_after settled taken))

-- ---- what a round or a checkpoint reports

-- A round or a checkpoint reports Down if and only if the flusher is down already, and then changes nothing. If it reports Device or Full,
-- the flusher is down from then on.
pub record GoesDown {D : Type 0} (before later : Flusher D) (result : Result ℕ FlushError) : Type 0 where
  pub down : IsErrOf result Down ↔ IsTrue (is_down before)
  pub same : IsErrOf result Down → later ≡ before
  pub device : IsErrOf result errors.Device → IsTrue (is_down later)
  pub full : IsErrOf result Full → IsTrue (is_down later)
  pub nothing_else : IsTrue (is_down later) → IsErrOf result errors.Device ⊎ IsErrOf result Full ⊎ IsErrOf result Down

-- The seat that a call of a round or a checkpoint was given is the same afterwards; it has seen and knows as settled what it did before,
-- perhaps more; and if the call took the node down, it knows that.
pub record IsReportedOf (before later : SeatView) (result : Result ℕ FlushError) : Type 0 where
  pub same : IsSame before later
  pub more : Begins before.view.seen later.view.seen
  pub more_durable : Begins before.view.durable later.view.durable
  pub no_change : IsErrOf result Down → later ≡ before
  pub device : IsErrOf result errors.Device → IsTrue later.view.down
  pub full : IsErrOf result Full → IsTrue later.view.down

-- A round takes a group, and settles all that is taken; the seat then knows what is settled. If an allocation fails the round takes
-- nothing. A round that fails settles nothing.
pub record TakesAndSettles {D : Type 0} (seat later_seat : SeatView) (before later : Flusher D) (result : Result ℕ FlushError) : Type 0 where
  pub takes : IsErrOf result Down ⊎ IsErrOf result Memory ⊎ TakesLongest seat.view.seen (settled_in before) (taken_in later)
  pub memory : IsErrOf result Memory → (journal_of later ≡ journal_of before) × (taken_in later ≡ settled_in before)
  pub size : IfOk result (λ count. length (taken_in later) ≡ length (settled_in before) + count)
  pub settled : OnOk result (settled_in later ≡ taken_in later)
  pub reported : OnOk result (later_seat.view.durable ≡ taken_in later)
  pub not_settled : OnErr result (settled_in later ≡ settled_in before)

-- A checkpoint takes all accepted events and settles them; the seat then knows what is settled. If an allocation fails the checkpoint takes
-- nothing. A checkpoint that fails settles nothing.
pub record TakesAllAndSettles {D : Type 0} (seat later_seat : SeatView) (before later : Flusher D) (result : Result ℕ FlushError) : Type 0 where
  pub takes : IsErrOf result Down ⊎ IsErrOf result Memory ⊎ TakesAll seat.view.seen (settled_in before) (taken_in later)
  pub memory : IsErrOf result Memory → (journal_of later ≡ journal_of before) × (taken_in later ≡ settled_in before)
  pub settled : OnOk result (settled_in later ≡ taken_in later)
  pub reported : OnOk result (later_seat.view.durable ≡ taken_in later)
  pub not_settled : OnErr result (settled_in later ≡ settled_in before)

-- The records here are the checkpoint of all events that the call of the flusher has taken. The call reports Full if and only if the
-- journal has no room for these records, and then leaves the journal as it was.
pub record ReportsRoomToRewrite {S D : Type 0} (scheme : Scheme S) (node : NodeView S) (before later : Flusher D) (result : Result ℕ FlushError) : Type 0 where
  pub records : List (List ℕ)
  pub checkpoint : IsCheckpointAfter scheme node (taken_in later) records
  pub full : IsErrOf result Full ↔ HasNoRoomFor (journal_of before) records
  pub same : IsErrOf result Full → journal_of later ≡ journal_of before

-- a round reports Full if and only if the journal has no room for what it took, and then leaves the journal as it was
pub record ReportsRoom {D : Type 0} (device : Device D) (before later : Flusher D) (result : Result ℕ FlushError) : Type 0 where
  pub full : is_down before ≡ false → IsErrOf result Full ↔ HasNoRoom (device.content (disk_of (journal_of before))) (settled_in before) (taken_in later)
  pub same : IsErrOf result Full → journal_of later ≡ journal_of before

-- A call that is no round or checkpoint leaves as they are: what is settled and taken, the journal, and whether the flusher is down.
pub record StaysAsIs {D : Type 0} (before later : Flusher D) : Type 0 where
  pub settled : settled_in later ≡ settled_in before
  pub taken : taken_in later ≡ taken_in before
  pub journal : journal_of later ≡ journal_of before
  pub down : is_down later ≡ is_down before

-- ---- what the area that is read has afterwards

-- the records of what was settled were added to the area that is read, as one group
abbrev pub AddsSettled : {D : Type 0} → Device D → Flusher D → Flusher D → Type 0
AddsSettled device before later =
    device.content (disk_of (journal_of later)) ≡ file_with (device.content (disk_of (journal_of before))) (records_after (settled_in before) (settled_in later))

-- the area that is read has a checkpoint of all that is settled, and no events after it
pub record IsAtCheckpoint {S D : Type 0} (scheme : Scheme S) (device : Device D) (node : NodeView S) (flusher : Flusher D) : Type 0 where
  pub records : List (List ℕ)
  pub checkpoint : IsCheckpointAfter scheme node (settled_in flusher) records
  pub content : device.content (disk_of (journal_of flusher)) ≡ OPEN ∷ bytes_for (generation_in (journal_of flusher)) records
