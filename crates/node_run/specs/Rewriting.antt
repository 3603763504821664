-- When a journal on two disks is rewritten to a checkpoint, and what a rewriting does.
use Rattle.std.specs.Prelude.{◌≡◌, ◌⊎◌, ◌+◌, ◌≤◌, ℕ, Bool, true, List, [], ◌∷◌, length, Option, Some, None, Result, Ok, Err, IsErrOf, IsSome, OnOk, OnErr}
use Rattle.book.specs.Checkpoints.{HasNoRoomFor}
use Rattle.book.specs.declared.own.error.FlushError.{FlushError}
use Rattle.book.specs.declared.own.error.FlushError.TheVariants as errors
use Rattle.diskmodel.specs.Disk.{Device}
use Rattle.flusher.specs.Rounds.{journal_of, records_after, settled_in, taken_in, GoesDown, HasNoRoom, IsAtCheckpoint, IsReportedOf}
use Rattle.flusher.specs.declared.flusher.Flusher.{Flusher}
use Rattle.journal.specs.Format.{file_with, FitsGroup}
use Rattle.journal.specs.Journal.{disk_of, spare_of, IsAlive}
use Rattle.journal.specs.Pairs.{generation_in, HaveChangedPlaces}
use Rattle.journal.specs.Snapshot.{bytes_for}
use Rattle.journal.specs.declared.layout.TheConstants.{OPEN}
use Rattle.journal.specs.declared.journal.Journal.{Journal}
use Rattle.node.specs.Callers.{RoundsView}
use Rattle.node.specs.Rounds.{Flushes}
use Rattle.node_seats.specs.declared.view.Marked.{Marked}
use Rattle.node_shared.specs.Home.{NodeView, IsCheckpointAfter}
use Rattle.node_run.specs.declared.rule.Rule.{Rule}
use Rattle.sigface.specs.Scheme.{Scheme}
use Rattle.wire.specs.Lists.{Begins}

-- ---- the rule

-- the length of the area of a journal that is read
abbrev pub length_in : {D : Type 0} → Device D → Journal D → ℕ
length_in device journal = length (device.content (disk_of journal))

-- an area that now has the length `len` has grown by at least this many bytes since it had the length `was`
abbrev pub IsLonger : Option ℕ → ℕ → ℕ → Type 0
IsLonger None was len = ⊥
IsLonger (Some every) was len = was + every ≤ len

-- by this rule a checkpoint is due once the area that is read has this length
abbrev pub IsDue : Rule → ℕ → Type 0
IsDue rule len = IsLonger rule.every rule.since len

-- the rule after a checkpoint: it counts from the length of the area that the checkpoint wrote
abbrev pub counted_from : {D : Type 0} → Device D → Rule → Journal D → Rule
counted_from device rule journal = record rule { since = length_in device journal }

-- ---- a round, and the checkpoint that may follow it

-- a point of a run: the node's journal, and the events that are settled by then
pub record Point (D : Type 0) : Type 0 where
  pub journal : Journal D
  pub settled : List Marked

-- the point of a run at which this flusher is
abbrev pub point_of : {D : Type 0} → Flusher D → Point D
point_of flusher = record { journal = journal_of flusher; settled = settled_in flusher }

-- What became of the checkpoint after a round. None was due; or it was made, and the run is then at this point; or it was due and skipped,
-- since an allocation for it failed.
pub data Followed (D : Type 0) : Type 0 where
  none_due : Followed D
  made : Point D → Followed D
  skipped : Followed D

-- one step of a run: the point after a round, and what became of the checkpoint after it
pub record Step (D : Type 0) : Type 0 where
  pub grown : Point D
  pub followed : Followed D

-- the point after the checkpoint that followed a round, or after the round where none was made
abbrev pub following : {D : Type 0} → Point D → Followed D → Point D
following grown none_due = grown
following grown (made point) = point
following grown skipped = grown

abbrev pub point_after : {D : Type 0} → Step D → Point D
point_after step = following step.grown step.followed

-- the rule after the checkpoint that followed a round: it changes only where one was made
abbrev pub rule_following : {D : Type 0} → Device D → Rule → Followed D → Rule
rule_following device rule none_due = rule
rule_following device rule (made point) = counted_from device rule point.journal
rule_following device rule skipped = rule

abbrev pub rule_after : {D : Type 0} → Device D → Rule → Step D → Rule
rule_after device rule step = rule_following device rule step.followed

-- What one round settles: one more group, which has at least one event. That this is the longest group that fits is a clause of the round
-- itself.
pub record BringsGroup (settled later : List Marked) : Type 0 where
  pub begins : Begins settled later
  pub fits : FitsGroup (records_after settled later)

-- The area that is read has a checkpoint of all that is settled, and nothing after it.
pub record HasCheckpoint {S D : Type 0} (scheme : Scheme S) (device : Device D) (node : NodeView S) (point : Point D) : Type 0 where
  pub records : List (List ℕ)
  pub checkpoint : IsCheckpointAfter scheme node point.settled records
  pub content : device.content (disk_of point.journal) ≡ OPEN ∷ bytes_for (generation_in point.journal) records

-- A checkpoint follows a round exactly if one is due, unless it is skipped, which it is only if `memory` says that an allocation failed.
-- After a checkpoint the other area is read, all that was settled still is, and the point meets `Made`, which says what a checkpoint
-- leaves.
abbrev pub FollowsWhereDue : {D : Type 0} → Device D → (Point D → Type 0) → Rule → Bool → Point D → Followed D → Type 0
FollowsWhereDue device Made rule memory grown none_due = IsDue rule (length_in device grown.journal) → ⊥
FollowsWhereDue device Made rule memory grown (made point) =
    IsDue rule (length_in device grown.journal) × HaveChangedPlaces grown.journal point.journal × Begins grown.settled point.settled × Made point
FollowsWhereDue device Made rule memory grown skipped = IsDue rule (length_in device grown.journal) × (memory ≡ true)

-- One round leads from the point `first` to the point `grown`. It adds the records of what it settles to the area that is read, as one
-- group, and leaves the other area as it was.
pub record IsRound {D : Type 0} (device : Device D) (first grown : Point D) : Type 0 where
  pub adds : device.content (disk_of grown.journal) ≡ file_with (device.content (disk_of first.journal)) (records_after first.settled grown.settled)
  pub same_area : spare_of grown.journal ≡ spare_of first.journal
  pub brings : BringsGroup first.settled grown.settled

-- a step of a run: one round, after which a checkpoint follows where one is due
pub record IsStep {D : Type 0} (device : Device D) (Made : Point D → Type 0) (rule : Rule) (memory : Bool) (first : Point D) (step : Step D) : Type 0 where
  pub round : IsRound device first step.grown
  pub follows : FollowsWhereDue device Made rule memory step.grown step.followed

-- these steps, one after the other, lead from the point `first` to the point `last`; each checkpoint changes the rule
abbrev pub AreSteps : {D : Type 0} → Device D → (Point D → Type 0) → Rule → Bool → Point D → List (Step D) → Rule → Point D → Type 0
AreSteps device Made rule memory first [] later last = (later ≡ rule) × (last ≡ first)
AreSteps device Made rule memory first (step ∷ more) later last =
    IsStep device Made rule memory first step × AreSteps device Made (rule_after device rule step) memory (point_after step) more later last

-- Some steps lead from the point `first` to the point `last`. A checkpoint was skipped only if `memory` says that an allocation failed.
abbrev pub ByTheRule : {D : Type 0} → Device D → (Point D → Type 0) → Rule → Bool → Point D → Rule → Point D → Type 0
ByTheRule {D} device Made rule memory first later last = (steps : List (Step D)) × AreSteps device Made rule memory first steps later last

-- Nothing was to be settled, and point and rule are as before; or one step of the run was made, whose round settled this many records.
abbrev pub IsOneStep : {D : Type 0} → Device D → (Point D → Type 0) → Rule → Bool → Point D → ℕ → Rule → Point D → Type 0
IsOneStep {D} device Made rule memory first count later last =
    ((count ≡ 0) × (later ≡ rule) × (last ≡ first))
    ⊎ ((step : Step D) × IsStep device Made rule memory first step × (length step.grown.settled ≡ length first.settled + count) × (later ≡ rule_after device rule step) × (last ≡ point_after step))

-- ---- a checkpoint

-- the result of a checkpoint, without the generation that it gives
abbrev pub without_number : Result ℕ FlushError → Result (Unit {0}) FlushError
without_number (Ok generation) = Ok tt
without_number (Err error) = Err error

-- the journal at this point has no room for the group of the events that were taken and aren't settled
pub record HasNoRoomToAdd {D : Type 0} (device : Device D) (point : Point D) (taken : List Marked) : Type 0 where
  pub group : BringsGroup point.settled taken
  pub room : HasNoRoom (device.content (disk_of point.journal)) point.settled taken

-- The journal's two disks have no room, at this point, for a checkpoint of all that was taken. `Shows` says of which events a list of
-- records is a checkpoint.
pub record HasNoRoomToRewrite {D : Type 0} (Shows : List Marked → List (List ℕ) → Type 0) (point : Point D) (taken : List Marked) : Type 0 where
  pub pair : IsSome (spare_of point.journal)
  pub begins : Begins point.settled taken
  pub records : List (List ℕ)
  pub checkpoint : Shows taken records
  pub full : HasNoRoomFor point.journal records

-- What was to be written next has no room at this point: the group that was taken at the point `last`; or, after one round more, a
-- checkpoint, which was due by then.
abbrev pub LacksRoom : {D : Type 0} → Device D → (List Marked → List (List ℕ) → Type 0) → Rule → Point D → Point D → List Marked → Type 0
LacksRoom device Shows rule last point taken =
    ((point ≡ last) × HasNoRoomToAdd device point taken)
    ⊎ (IsRound device last point × IsDue rule (length_in device point.journal) × HasNoRoomToRewrite Shows point taken)

-- The run has come to this point from the point `first` by the rule, and what was to be written next has no room there. The journal can
-- still be appended to.
pub record IsFullAt {D : Type 0} (device : Device D) (Made : Point D → Type 0) (Shows : List Marked → List (List ℕ) → Type 0) (rule : Rule) (memory : Bool) (first point : Point D) (taken : List Marked) : Type 0 where
  pub last : Point D
  pub last_rule : Rule
  pub by_rule : ByTheRule device Made rule memory first last_rule last
  pub alive : IsAlive device point.journal
  pub lacks : LacksRoom device Shows last_rule last point taken

-- The flusher has come to where it is by the rule, and its journal has no room for what was to be written next.
abbrev pub HasNoPlace : {S D : Type 0} → Scheme S → Device D → NodeView S → Rule → Bool → Point D → Flusher D → Type 0
HasNoPlace scheme device node rule memory first flusher =
    IsFullAt device (HasCheckpoint scheme device node) (IsCheckpointAfter scheme node) rule memory first (point_of flusher) (taken_in flusher)

-- A checkpoint was attempted, with this result. If it succeeded, the area that it wrote is the one that is read from then on, and the rule
-- counts from that area's length.
pub record IsRewritten {S D : Type 0} (scheme : Scheme S) (device : Device D) (rule later_rule : Rule) (before later : RoundsView S D) (result : Result (Unit {0}) FlushError) : Type 0 where
  pub answer : Result ℕ FlushError
  pub answered : result ≡ without_number answer
  pub node : later.node ≡ before.node
  pub down : GoesDown before.flusher later.flusher answer
  pub reported : IsReportedOf before.seat later.seat answer
  pub flushes : Flushes scheme device before.node before.flusher later.flusher answer
  pub swapped : OnOk answer (HaveChangedPlaces (journal_of before.flusher) (journal_of later.flusher))
  pub writes : OnOk answer (IsAtCheckpoint scheme device before.node later.flusher)
  pub counts : OnOk answer (later_rule ≡ counted_from device rule (journal_of later.flusher))
  pub keeps : OnErr answer (later_rule ≡ rule)
  pub full : IsErrOf answer errors.Full
      → (journal_of later.flusher ≡ journal_of before.flusher) × IsAlive device (journal_of later.flusher)
      × HasNoRoomToRewrite (IsCheckpointAfter scheme before.node) (point_of later.flusher) (taken_in later.flusher)

-- A checkpoint was attempted if one was due; otherwise nothing was done.
abbrev pub RewritesWhereDue : {S D : Type 0} → Scheme S → Device D → Rule → Rule → RoundsView S D → RoundsView S D → Result (Unit {0}) FlushError → Type 0
RewritesWhereDue scheme device rule later_rule before later result =
    (IsDue rule (length_in device (journal_of before.flusher)) × IsRewritten scheme device rule later_rule before later result)
    ⊎ ((IsDue rule (length_in device (journal_of before.flusher)) → ⊥) × (result ≡ Ok tt) × (later ≡ before) × (later_rule ≡ rule))
