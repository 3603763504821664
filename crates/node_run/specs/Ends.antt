-- What is reported of a round that failed, and of a certificate that can't wait.
use Rattle.std.specs.Prelude.{◌≡◌, ◌≢◌, ◌⊎◌, ◌<◌, ℕ, Bool, true, false, Option, Some, None, IsSome, IfSome, IsTrue}
use Rattle.book.specs.declared.own.error.FlushError.{FlushError}
use Rattle.book.specs.declared.own.error.FlushError.TheVariants as flush
use Rattle.journal.specs.declared.error.JournalError.{JournalError}
use Rattle.journal.specs.declared.error.JournalError.TheVariants as journal
use Rattle.header.specs.declared.refusal.Refusal.TheVariants as refusal
use Rattle.node_io.specs.declared.faults.Faults.{Faults}
use Rattle.node_io.specs.declared.rejection.Rejection.{Rejection}
use Rattle.node_io.specs.declared.rejection.Rejection.TheVariants.{Refused}
use Rattle.waiter.specs.declared.refusal.WaitRefusal.{WaitRefusal}
use Rattle.waiter.specs.declared.refusal.WaitRefusal.TheVariants as waiter

-- the faults that a run reports of a round that failed with this error. Of Down it reports nothing, since the fault that took the node down
-- was reported before
abbrev pub faults_after : FlushError → Faults
faults_after flush.Memory = record { journal = None; output = false; memory = true; input = false }
faults_after flush.Device = record { journal = Some journal.Device; output = false; memory = false; input = false }
faults_after flush.Full = record { journal = Some journal.Full; output = false; memory = false; input = false }
faults_after flush.Down = record { journal = None; output = false; memory = false; input = false }

-- the refusal that is reported of a certificate that can't wait: an allocation failed, or else its parents are missing
abbrev pub reported_of_wait : WaitRefusal → Rejection
reported_of_wait waiter.Memory = Refused refusal.Memory
reported_of_wait other = Refused refusal.MissingParents

-- the reported fault is Device exactly if the disks' number of faults, which was `first`, has risen
pub record ReportsDisk (first now : ℕ) (fault : Option JournalError) : Type 0 where
  pub device : fault ≡ Some journal.Device → first < now
  pub no_fault : fault ≢ Some journal.Device → now ≡ first

-- what rounds report of a journal: nothing, that a device call failed, or that the journal is full
pub record ReportsRounds (first now : ℕ) (fault : Option JournalError) : Type 0 where
  pub disk : ReportsDisk first now fault
  pub which : IfSome fault (λ error. (error ≡ journal.Device) ⊎ (error ≡ journal.Full))

-- What all rounds of a run report of a journal. They report a fault exactly if one of them took the node down: that a device call failed,
-- or that the journal is full.
pub record ReportsJournal (first now : ℕ) (was_down is_down : Bool) (fault : Option JournalError) (HasNoPlace : Type 0) : Type 0 where
  pub fell : IsSome fault → IsTrue is_down
  pub reported : was_down ≡ false → IsTrue is_down → IsSome fault
  pub full : fault ≡ Some journal.Full → HasNoPlace
  pub rounds : ReportsRounds first now fault
