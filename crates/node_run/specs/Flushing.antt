-- What a round does, together with the checkpoint that is due after it.
use Rattle.std.specs.Prelude.{◌≡◌, ⊤, ℕ, Bool, false, Result, Ok, Err, IfOk, IsErrOf, IsSome}
use Rattle.book.specs.declared.own.error.FlushError.{FlushError}
use Rattle.book.specs.declared.own.error.FlushError.TheVariants as errors
use Rattle.diskmodel.specs.Disk.{Device, ReportsFault}
use Rattle.flusher.specs.Rounds.{journal_of, is_down, settled_in, taken_in, GoesDown, KeepsEarlier}
use Rattle.journal.specs.Journal.{spare_of}
use Rattle.journal.specs.Pairs.{areas_of, store_of}
use Rattle.journal.specs.Stores.{faults_in}
use Rattle.node.specs.Callers.{RoundsView}
use Rattle.node.specs.Disks.{AtEachMomentOn}
use Rattle.wire.specs.Lists.{Begins}
use Rattle.node_run.specs.Rewriting.{ByTheRule, HasCheckpoint, HasNoPlace, IsOneStep, point_of}
use Rattle.node_run.specs.Runs.{HoldsMore, LeavesSettled}
use Rattle.node_run.specs.declared.rule.Rule.{Rule}
use Rattle.sigface.specs.Scheme.{Scheme}

-- after a round with this result no further round is made: nothing was pending, or the round failed
abbrev pub IsOver : Result ℕ FlushError → Type 0
IsOver (Ok count) = count ≡ 0
IsOver (Err error) = ⊤

-- A round of a node, and after it the checkpoint, if one is due and no allocation for it fails. A stop at any moment leaves on the disks
-- what was settled before, and perhaps more after it.
pub record FlushesOnce {S D : Type 0} (scheme : Scheme S) (device : Device D) (rule later_rule : Rule) (missed : Bool) (before later : RoundsView S D) (result : Result ℕ FlushError) : Type 0 where
  pub node : later.node ≡ before.node
  pub seen : Begins before.seat.view.seen later.seat.view.seen
  pub more : Begins (settled_in before.flusher) (settled_in later.flusher)
  pub down : GoesDown before.flusher later.flusher result
  pub cause : ReportsFault errors.Device (faults_in device (store_of (journal_of before.flusher))) (faults_in device (store_of (journal_of later.flusher))) result
  pub full : IsErrOf result errors.Full → HasNoPlace scheme device before.node rule missed (point_of before.flusher) later.flusher
  -- if nothing was pending, all is settled that the seat had seen
  pub nothing : result ≡ Ok 0 → Begins before.seat.view.seen (settled_in later.flusher)
  -- If an allocation of the round fails, the journal is unchanged, and nothing is taken that isn't settled. If only an allocation of the
  -- checkpoint fails, the result is no error.
  pub memory : IsErrOf result errors.Memory
      → (journal_of later.flusher ≡ journal_of before.flusher) × (settled_in later.flusher ≡ settled_in before.flusher) × (taken_in later.flusher ≡ settled_in later.flusher)
  -- the result is the number of records that the round settled
  pub count : IfOk result (λ count. IsOneStep device (HasCheckpoint scheme device before.node) rule missed (point_of before.flusher) count later_rule (point_of later.flusher))
  -- if the journal had some state followed by what was settled before the call, it now has the same state followed by what is settled now
  pub earlier : is_down later.flusher ≡ false
      → KeepsEarlier scheme before.node (settled_in before.flusher) (settled_in later.flusher) (areas_of device (journal_of before.flusher)) (areas_of device (journal_of later.flusher))
  pub any_moment : is_down before.flusher ≡ false
      → AtEachMomentOn device (HoldsMore scheme before.node (settled_in before.flusher) (areas_of device (journal_of before.flusher)))
      (store_of (journal_of before.flusher)) (store_of (journal_of later.flusher))
  pub at_end : IsOver result → is_down before.flusher ≡ false → LeavesSettled scheme device before.node before.flusher (settled_in later.flusher) (store_of (journal_of later.flusher))
  -- unless the node went down, a checkpoint was made exactly if one was due; or `missed` says that one was skipped
  pub by_rule : is_down later.flusher ≡ false → ByTheRule device (HasCheckpoint scheme device before.node) rule missed (point_of before.flusher) later_rule (point_of later.flusher)
  -- a journal that may be rewritten is on two disks
  pub pair : (IsSome rule.every → IsSome (spare_of (journal_of before.flusher))) → IsSome later_rule.every → IsSome (spare_of (journal_of later.flusher))
