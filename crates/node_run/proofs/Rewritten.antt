-- A checkpoint, where one is due.
use Rattle.std.proofs.Common.{◌≡◌, ℕ, List, Option, Some, None, Result, Err, refl, sym, subst, ◌∙◌, inl, inr}
use Rattle.std.specs.Prelude.{◌⊎◌, IsErrOf, IsSome, OnErr, OnOk}
use Rattle.book.specs.Checkpoints.{HasNoRoomFor}
use Rattle.book.specs.declared.own.error.FlushError.{FlushError}
use Rattle.book.specs.declared.own.error.FlushError.TheVariants as flush
use Rattle.diskmodel.specs.Disk.{Device}
use Rattle.flusher.specs.Rounds.{journal_of, settled_in, taken_in, GoesDown, IsAtCheckpoint, IsReportedOf, ReportsRoomToRewrite}
use Rattle.flusher.specs.declared.flusher.Flusher.{Flusher}
use Rattle.journal.specs.Journal.{spare_of, IsAlive}
use Rattle.journal.specs.Pairs.{HaveChangedPlaces}
use Rattle.journal.specs.declared.journal.Journal.{Journal}
use Rattle.node.specs.Callers.{RoundsView}
use Rattle.node.specs.Rounds.{Flushes}
use Rattle.node_seats.specs.declared.view.Marked.{Marked}
use Rattle.node_shared.specs.Home.{IsCheckpointAfter, NodeView}
use Rattle.sigface.specs.Scheme.{Scheme}
use Rattle.wire.specs.Lists.{Begins}
use Rattle.node_run.specs.Rewriting.{IsDue, IsLonger, HasNoRoomToRewrite, RewritesWhereDue, counted_from, length_in, point_of, without_number}
use Rattle.node_run.specs.declared.rule.Rule.{Rule}

-- where a checkpoint is due there are so many bytes after which it is
pub some_every : (every : Option ℕ) (was len : ℕ) → IsLonger every was len → IsSome every
some_every None was len due = absurd due
some_every (Some every) was len due = refl

-- what a checkpoint took that answered Full
took : (settled taken : List Marked) (answer : Result ℕ FlushError) → IsErrOf answer flush.Full → IsErrOf answer flush.Down ⊎ Begins settled taken → Begins settled taken
took settled taken answer full (inl down) = absurd (let bad : ◌≡◌ {A = Result ℕ FlushError} (Err flush.Full) (Err flush.Down) = sym full ∙ down in cc)
took settled taken answer full (inr begins) = begins

-- one that answered Full had no room
no_room : {S D : Type 0} (scheme : Scheme S) (device : Device D) (node : NodeView S) (before later : Flusher D) (answer : Result ℕ FlushError) → IsAlive device (journal_of before)
    → IsSome (spare_of (journal_of later)) → Flushes scheme device node before later answer → IsErrOf answer flush.Down ⊎ IsErrOf answer flush.Memory ⊎ ReportsRoomToRewrite scheme node before later answer
    → IsErrOf answer flush.Full
    → (journal_of later ≡ journal_of before) × IsAlive device (journal_of later) × HasNoRoomToRewrite (IsCheckpointAfter scheme node) (point_of later) (taken_in later)
no_room {S} {D} scheme device node before later answer alive pair flushes = by
  where
    by : IsErrOf answer flush.Down ⊎ IsErrOf answer flush.Memory ⊎ ReportsRoomToRewrite scheme node before later answer → IsErrOf answer flush.Full
        → (journal_of later ≡ journal_of before) × IsAlive device (journal_of later) × HasNoRoomToRewrite (IsCheckpointAfter scheme node) (point_of later) (taken_in later)
    by (inl down) full = absurd (let bad : ◌≡◌ {A = Result ℕ FlushError} (Err flush.Full) (Err flush.Down) = sym full ∙ down in cc)
    by (inr (inl memory)) full = absurd (let bad : ◌≡◌ {A = Result ℕ FlushError} (Err flush.Full) (Err flush.Memory) = sym full ∙ memory in cc)
    by (inr (inr room)) full =
        let settled : settled_in later ≡ settled_in before =
        subst (λ (it : Result ℕ FlushError). OnErr it (settled_in later ≡ settled_in before)) full flushes.not_settled in (
          room.same full,
          subst (IsAlive device) (sym (room.same full)) alive,
          record {
            pair = pair;
            begins = subst (λ (l : List Marked). Begins l (taken_in later)) (sym settled) (took (settled_in before) (taken_in later) answer full flushes.takes);
            records = room.records;
            checkpoint = room.checkpoint;
            full = subst (λ (j : Journal D). HasNoRoomFor j room.records) (sym (room.same full)) (room.full.0 full);
          },
        )

-- it was due, and taken
pub was_due : {S D : Type 0} (scheme : Scheme S) (device : Device D) (rule later_rule : Rule) (before later : RoundsView S D) (answer : Result ℕ FlushError) (result : Result (Unit {0}) FlushError)
    → IsSome (spare_of (journal_of before.flusher)) → IsDue rule (length_in device (journal_of before.flusher)) → result ≡ without_number answer
    → later.node ≡ before.node → GoesDown before.flusher later.flusher answer
    → IsReportedOf before.seat later.seat answer → Flushes scheme device before.node before.flusher later.flusher answer
    → OnOk answer (HaveChangedPlaces (journal_of before.flusher) (journal_of later.flusher)) → OnOk answer (IsAtCheckpoint scheme device before.node later.flusher)
    → OnOk answer (later_rule ≡ counted_from device rule (journal_of later.flusher))
    → OnErr answer (later_rule ≡ rule)
    → IsErrOf answer flush.Down ⊎ IsErrOf answer flush.Memory ⊎ ReportsRoomToRewrite scheme before.node before.flusher later.flusher answer
    → IsAlive device (journal_of before.flusher) → RewritesWhereDue scheme device rule later_rule before later result
was_due scheme device rule later_rule before later answer result pair due answered node down reported flushes swapped writes counts keeps room alive = inl (
  due,
  record {
    answer = answer;
    answered = answered;
    node = node;
    down = down;
    reported = reported;
    flushes = flushes;
    swapped = swapped;
    writes = writes;
    counts = counts;
    keeps = keeps;
    full = no_room scheme device before.node before.flusher later.flusher answer alive (flushes.disks.1 pair) flushes room;
  },
)
