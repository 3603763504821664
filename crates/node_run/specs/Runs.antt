-- How the run of a node on its disks ends, and what a stop at any moment of it leaves on the disks.
use Rattle.std.specs.Prelude.{◌≡◌, ◌≢◌, ◌⊎◌, ◌<◌, ⊤, ℕ, Bool, true, false, List, [], ◌∷◌, Option, Some, None, Ok, All, IfSome, IsSome, IsTrue}
use Rattle.book.specs.Book.{GoesOutAfter, IsCheckpoint}
use Rattle.diskmodel.specs.Disk.{Device}
use Rattle.flusher.specs.Rounds.{journal_of, is_down, settled_in, LeavesAfter}
use Rattle.flusher.specs.declared.flusher.Flusher.{Flusher}
use Rattle.journal.specs.Areas.{Areas}
use Rattle.journal.specs.Journal.{disk_of, IsAlive}
use Rattle.journal.specs.Pairs.{areas_in, areas_of, generation_in, store_of}
use Rattle.journal.specs.Snapshot.{bytes_for}
use Rattle.journal.specs.Stores.{faults_in}
use Rattle.journal.specs.declared.error.JournalError.{JournalError}
use Rattle.journal.specs.declared.error.JournalError.TheVariants as errors
use Rattle.journal.specs.declared.error.JournalError.TheVariants.{Full}
use Rattle.journal.specs.declared.journal.Journal.{Journal}
use Rattle.journal.specs.declared.layout.TheConstants.{OPEN}
use Rattle.journal.specs.declared.store.Store.{Store}
use Rattle.journal.specs.declared.store.Store.TheVariants.{One, Two}
use Rattle.node_io.specs.declared.ending.Ending.{Ending}
use Rattle.node_io.specs.declared.faults.Faults.{Faults}
use Rattle.node_io.specs.declared.ending.Ending.TheVariants as endings
use Rattle.node.specs.Callers.{RoundsView}
use Rattle.node.specs.Disks.{MayBeLeft, AtEachMomentOn}
use Rattle.node_seats.specs.Views.{events}
use Rattle.node_seats.specs.declared.view.Marked.{Marked}
use Rattle.node_seats.specs.declared.view.View.{View}
use Rattle.node_shared.specs.Home.{NodeView}
use Rattle.opening.specs.Laws.{IsFullIn, IsLeftIn, IsReadIn}
use Rattle.opening.specs.Renewing.{KeepsStatesIn}
use Rattle.opening.specs.Stages.{IsDecodedThroughout}
use Rattle.opening.specs.Decoded.{decoded_in, Reports}
use Rattle.spec_machine.specs.After.{after_all, IsLegalAfter}
use Rattle.spec_model.specs.Histories.{History}
use Rattle.wire.specs.Lists.{Begins}
use Rattle.spec_model.specs.Nodes.{Node}
use Rattle.spec_model.specs.States.{State}
use Rattle.spec_model.specs.Words.{Output}
use Rattle.spec_world.specs.World.{Holds, StandsFor}
use Rattle.validator.specs.Setting.{ConfigView, node_of}
use Rattle.wire.specs.declared.keys.Key.{Key}
use Rattle.node_run.specs.Ends.{ReportsRounds}
use Rattle.node_run.specs.Members.{IsConfigOf}
use Rattle.node_run.specs.Rewriting.{length_in, point_of, ByTheRule, HasCheckpoint, HasNoPlace, IsFullAt, Point}
use Rattle.node_run.specs.Writing.{HasWritten, MayGo}
use Rattle.node_run.specs.declared.ran.Ran.{Ran}
use Rattle.node_run.specs.declared.rule.Rule.{Rule}
use Rattle.sigface.specs.Scheme.{Scheme}

-- these areas are a journal of the node. It has the same earlier state as before, followed by what was settled, and perhaps by more
pub record HoldsMore {S : Type 0} (scheme : Scheme S) (node : NodeView S) (settled : List Marked) (before left : Areas) : Type 0 where
  pub more : List Marked
  pub begins : Begins settled more
  pub leaves : LeavesAfter scheme node settled more before left

-- Whatever a stop leaves of the disks now is a journal of the node. It has the same earlier state as the journal of `first`, followed by
-- these settled events, and perhaps by more.
abbrev pub LeavesSettled : {S D : Type 0} → Scheme S → Device D → NodeView S → Flusher D → List Marked → Store D → Type 0
LeavesSettled scheme device node first settled left =
    (found : Areas) → MayBeLeft device left found
    → (it : HoldsMore scheme node (settled_in first) (areas_of device (journal_of first)) found) × Begins settled it.more

-- A node's rounds are done, and these faults are reported: of the journal as rounds report them, and none of outputs or of the input. If
-- the journal is reported as full, it has no room for what was to be written next. A stop at any moment leaves on the disks what was settled
-- before, and perhaps more; a stop at the end leaves all that is settled then. Unless a fault of the journal is reported, the disks were
-- written by the rule for checkpoints. Unless any fault is reported, all is settled that the rounds' seat had seen before.
pub record HasFlushed {S D : Type 0} (scheme : Scheme S) (device : Device D) (rule : Rule) (before later : RoundsView S D) (reports : Faults) : Type 0 where
  pub node : later.node ≡ before.node
  pub reported : ReportsRounds (faults_in device (store_of (journal_of before.flusher))) (faults_in device (store_of (journal_of later.flusher))) reports.journal
  -- a fault of the journal is reported exactly if a round or a checkpoint took the node down
  pub fell : IsSome reports.journal → IsTrue (is_down later.flusher)
  pub is_reported : is_down before.flusher ≡ false → IsTrue (is_down later.flusher) → IsSome reports.journal
  pub full : reports.journal ≡ Some Full → HasNoPlace scheme device before.node rule reports.memory (point_of before.flusher) later.flusher
  pub others : (reports.output ≡ false) × (reports.input ≡ false)
  pub settles : is_down later.flusher ≡ false → reports.memory ≡ false → Begins before.seat.view.seen (settled_in later.flusher)
  pub any_moment : is_down before.flusher ≡ false
      → AtEachMomentOn device (HoldsMore scheme before.node (settled_in before.flusher) (areas_of device (journal_of before.flusher)))
      (store_of (journal_of before.flusher)) (store_of (journal_of later.flusher))
  pub at_end : is_down before.flusher ≡ false → LeavesSettled scheme device before.node before.flusher (settled_in later.flusher) (store_of (journal_of later.flusher))
  pub by_rule : is_down before.flusher ≡ false → reports.journal ≡ None
      → (last : Rule) × ByTheRule device (HasCheckpoint scheme device before.node) rule reports.memory (point_of before.flusher) last (point_of later.flusher)

-- what contracts see of the flushing thread's work: its rounds, and its rule for checkpoints
pub record FlushingView (S D : Type 0) : Type 0 where
  pub rounds : RoundsView S D
  pub rule : Rule

-- The journal on these disks came about from the point `first` by the rule for checkpoints. A checkpoint was skipped only if `memory` says
-- that an allocation failed.
pub record ComesByRule {D : Type 0} (device : Device D) (Made : Point D → Type 0) (rule : Rule) (memory : Bool) (first : Point D) (left : Store D) : Type 0 where
  pub last : Point D
  pub last_rule : Rule
  pub by_rule : ByTheRule device Made rule memory first last_rule last
  pub is_left : left ≡ store_of last.journal

-- The journal of the node on these disks came about from the point `first` by the rule for checkpoints, and has no room for what was to be
-- written next.
pub record IsFullUp {S D : Type 0} (scheme : Scheme S) (device : Device D) (node : NodeView S) (rule : Rule) (memory : Bool) (first : Point D) (left : Store D) : Type 0 where
  pub last : Flusher D
  pub lacks : HasNoPlace scheme device node rule memory first last
  pub is_left : left ≡ store_of (journal_of last)

-- These outputs rest on events that are settled on the disks. Each may go out after some of the events that a seat knows as settled.
-- Whatever a stop leaves of the disks now has all those events, after the same earlier state as the journal of `first`.
pub record AreSettled {S D : Type 0} (scheme : Scheme S) (device : Device D) (node : NodeView S) (first : Flusher D) (left : Store D) (outputs : List Output) : Type 0 where
  pub view : View
  pub each : All (MayGo scheme node view) outputs
  pub on_disk : LeavesSettled scheme device node first view.durable left

-- The earlier areas decode to a state, and these areas are the node's journal at the state after some more legal events, or none. For each
-- state that a start might restore from the earlier areas, these areas are also the journal at that state after the same events.
pub record GoesOn (node : Node) (before left : Areas) : Type 0 where
  pub base : State
  pub is_decoded : decoded_in node before ≡ Ok base
  pub more : History
  pub legal : IsLegalAfter node base more
  pub holds : Holds node left (after_all node base more)
  pub earlier : (began : State) → StandsFor node before began → Holds node left (after_all node began more)

-- what a stop leaves decodes to the same state or error as something that a stop might have left of these disks
pub record IsReadAsOneOf {D : Type 0} (node : Node) (disks : Device D) (store : Store D) (left : Areas) : Type 0 where
  pub was : Areas
  pub might : MayBeLeft disks store was
  pub same : decoded_in node left ≡ decoded_in node was

-- with this ending no fault of the journal occurred. An allocation may have failed nevertheless: `may_lack_memory` says with which endings
abbrev pub is_all_brought : Ending → Bool
is_all_brought endings.Done = true
is_all_brought endings.Input = true
is_all_brought endings.Output = true
is_all_brought other = false

-- with this ending an allocation may have failed
abbrev pub may_lack_memory : Ending → Bool
may_lack_memory endings.Done = false
may_lack_memory endings.Input = false
may_lack_memory other = true

-- by how many bytes a journal may grow until it is rewritten: by `every` on two disks; on one disk it is never rewritten
abbrev pub every_on : {D : Type 0} → Store D → ℕ → Option ℕ
every_on (One disk) every = None
every_on (Two first second) every = Some every

-- the rule for checkpoints of a journal that was opened on these disks
abbrev pub rule_on : {D : Type 0} → Device D → Store D → ℕ → Journal D → Rule
rule_on device store every opened = record { every = every_on store every; since = length_in device opened }

-- the point at which a run begins once the journal was opened: nothing is settled
abbrev pub point_at : {D : Type 0} → Journal D → Point D
point_at opened = record { journal = opened; settled = [] }

-- The area that is read has a checkpoint of the state that the settled events lead to from this base, and nothing after it.
pub record HasCheckpointFrom {D : Type 0} (node : Node) (disks : Device D) (base : State) (point : Point D) : Type 0 where
  pub records : List (List ℕ)
  pub checkpoint : IsCheckpoint node (after_all node base (events point.settled)) records
  pub content : disks.content (disk_of point.journal) ≡ OPEN ∷ bytes_for (generation_in point.journal) records

-- A journal was opened on these disks: it can be appended to, and keeps each state that a start could have restored from them.
pub record IsOpenedOn {D : Type 0} (node : Node) (disks : Device D) (store : Store D) : Type 0 where
  pub journal : Journal D
  pub read : IsReadIn node disks store journal
  pub keeps : KeepsStatesIn node (areas_in disks store) (areas_of disks journal)
  pub alive : IsAlive disks journal
  pub base : State
  pub is_read : decoded_in node (areas_in disks store) ≡ Ok base

-- A journal was opened on these disks. From then on the disks were written by rounds, and by a checkpoint exactly after each round by which
-- the area that is read had grown by `every` bytes since the opening or the last checkpoint. Such a checkpoint was skipped only if an
-- allocation may have failed.
pub record IsRewrittenEach {D : Type 0} (node : Node) (disks : Device D) (store : Store D) (every : ℕ) (memory : Bool) (left : Store D) : Type 0 where
  pub opened : IsOpenedOn node disks store
  pub comes : ComesByRule disks (HasCheckpointFrom node disks opened.base) (rule_on disks store every opened.journal) memory (point_at opened.journal) left

-- these records are a checkpoint of the state that the events lead to from this base
abbrev pub ShowsFrom : Node → State → List Marked → List (List ℕ) → Type 0
ShowsFrom node base taken records = IsCheckpoint node (after_all node base (events taken)) records

-- A journal was opened on these disks, and the disks were written by the rule until what was to be written next had no room: the group that
-- a round took, or a checkpoint that was due. Since the ending reports one fault alone, an allocation may have failed too, and a checkpoint
-- may have been skipped for that.
pub record IsFullAfter {D : Type 0} (node : Node) (disks : Device D) (store : Store D) (every : ℕ) (left : Store D) : Type 0 where
  pub opened : IsOpenedOn node disks store
  pub last : Point D
  pub taken : List Marked
  pub full : IsFullAt disks (HasCheckpointFrom node disks opened.base) (ShowsFrom node opened.base) (rule_on disks store every opened.journal) true (point_at opened.journal) last taken
  pub is_left : left ≡ store_of last.journal

-- A journal was opened on these disks. What a stop before that leaves is read as something that a stop might have left before the run. What
-- a stop after it leaves stands for the state as which the disks were read, or for that state and events after it.
pub record IsKeptThroughout {D : Type 0} (node : Node) (disks : Device D) (store left : Store D) : Type 0 where
  pub opened : IsOpenedOn node disks store
  pub in_opening : AtEachMomentOn disks (IsReadAsOneOf node disks store) store (store_of opened.journal)
  pub past_it : AtEachMomentOn disks (GoesOn node (areas_in disks store)) (store_of opened.journal) left

-- A run of a node may end in this way: not for its arguments, nor for the text of its committee.
abbrev pub IsEndOfRun : Ending → Type 0
IsEndOfRun endings.Usage = ⊥
IsEndOfRun (endings.Config error) = ⊥
IsEndOfRun other = ⊤

-- A run of a node on its disks, with this ending and the disks that it leaves. If the disks could be opened, the node ran on them. Device
-- is reported exactly if a device call failed. Full is reported where the opening had no room for a journal in the second version, or the
-- run had none for what it was to write next. Any other error of the journal is the one to which the disks decoded; what a stop leaves in a
-- world of the node decodes to no error. The disks are lost only if a thread could not be made. What a stop at any moment leaves decodes to
-- something that a stop might have left before the run, or to the state at its start followed by more events. If the ending reports no
-- fault of writing to the disks, a journal on two disks was rewritten each time that it had grown by `every` bytes.
pub record RunsOver {D : Type 0} (node : Node) (disks : Device D) (store : Store D) (every : ℕ) (ending : Ending) (left : Option (Store D)) : Type 0 where
  pub ends : IsEndOfRun ending
  pub device : ending ≡ endings.Journal errors.Device → IfSome left (λ later. faults_in disks store < faults_in disks later)
  pub no_fault : ending ≢ endings.Journal errors.Device → IfSome left (λ later. faults_in disks later ≡ faults_in disks store)
  pub reported_as : (error : JournalError) → ending ≡ endings.Journal error → (error ≡ errors.Device) ⊎ (error ≡ Full) ⊎ Reports error (decoded_in node (areas_in disks store))
  pub never_refused : IsLeftIn node (areas_in disks store) → (error : JournalError) → ending ≡ endings.Journal error → (error ≡ errors.Device) ⊎ (error ≡ Full)
  pub full : ending ≡ endings.Journal Full → IsFullIn node disks store ⊎ IfSome left (IsFullAfter node disks store every)
  pub lost : left ≡ None → ending ≡ endings.Memory
  pub any_moment : IfSome left (λ later. AtEachMomentOn disks (λ areas. IsReadAsOneOf node disks store areas ⊎ GoesOn node (areas_in disks store) areas) store later)
  -- no node was opened, or one was, and the disks have kept its state since then
  pub keeps : IfSome left (λ later. IsDecodedThroughout node disks store later ⊎ IsKeptThroughout node disks store later)
  pub rewritten : is_all_brought ending ≡ true → IfSome left (IsRewrittenEach node disks store every (may_lack_memory ending))
  -- if an allocation failed, the disks decode as before, since no node was opened; or a node ran on them
  pub lacks : ending ≡ endings.Memory → IfSome left (λ later. IsDecodedThroughout node disks store later ⊎ IsRewrittenEach node disks store every true later)

-- the output goes out after a prefix of these events, from this state on
pub record GoesOutAfterPrefix (node : Node) (base : State) (settled : History) (output : Output) : Type 0 where
  pub events : History
  pub begins : Begins events settled
  pub goes_out : GoesOutAfter node base events output

-- These outputs rest on events that are on the disks that a run leaves. There are settled events such that each output goes out after a
-- prefix of them, beginning at the state to which the disks decoded at the start. Whatever a stop at the end leaves of the disks decodes to
-- the state after all these events, and perhaps after more.
pub record AreOnDisk {D : Type 0} (node : Node) (disks : Device D) (store left : Store D) (outputs : List Output) : Type 0 where
  pub base : State
  pub is_read : decoded_in node (areas_in disks store) ≡ Ok base
  pub settled : History
  pub each : All (GoesOutAfterPrefix node base settled) outputs
  pub on_disk : (found : Areas) → MayBeLeft disks left found → (it : GoesOn node (areas_in disks store) found) × Begins settled it.more

-- there is no output, or the outputs rest on events that are on the disks
abbrev pub NoneOrOnDisk : {D : Type 0} → Node → Device D → Store D → Store D → List Output → Type 0
NoneOrOnDisk node disks store left outputs = (outputs ≡ []) ⊎ AreOnDisk node disks store left outputs

-- with this ending no write of an output failed: a failed write is reported as Output, or a fault of the journal is reported, which goes
-- first
abbrev pub is_all_written : Ending → Bool
is_all_written endings.Output = false
is_all_written (endings.Journal error) = false
is_all_written other = true

-- the ending reports that an allocation failed, or a fault of the journal, which is reported first if there are both
abbrev pub IsOfLoss : Ending → Type 0
IsOfLoss ending = (ending ≡ endings.Memory) ⊎ ((error : JournalError) × (ending ≡ endings.Journal error))

-- All that a run has written are frames of outputs, one after the other. The events on which the outputs rest are on the disks that the run
-- gives back, whatever a stop leaves of these. Only if the writer failed may the last frame be missing or cut short. If the writer is lost,
-- the ending reports it.
pub record GivesOnly {D W : Type 0} (node : Node) (disks : Device D) (contents : W → Option (List ℕ)) (store : Store D) (writer : W) (ran : Ran D W) : Type 0 where
  pub written : IfSome ran.store (λ left. IfSome ran.writer (λ later. HasWritten (NoneOrOnDisk node disks store left) (is_all_written ran.ending ≡ true) (contents writer) (contents later)))
  pub lost : ran.writer ≡ None → IsOfLoss ran.ending

-- the node is on two disks
abbrev pub AreTwo : {D : Type 0} → Store D → Type 0
AreTwo (One disk) = ⊥
AreTwo (Two first second) = ⊤

-- the member with this number, in the committee that some text describes, ran on two disks, with this result
pub record RunsAs {D W : Type 0} (scheme : Scheme Key) (device : Device D) (contents : W → Option (List ℕ)) (own : List ℕ) (every : ℕ) (writer : W) (ran : Ran D W) : Type 0 where
  pub text : List ℕ
  pub config : ConfigView Key
  pub is_of : IsConfigOf text own config
  pub store : Store D
  pub two : AreTwo store
  pub runs : RunsOver (node_of scheme config) device store every ran.ending ran.store
  pub gives : GivesOnly (node_of scheme config) device contents store writer ran
