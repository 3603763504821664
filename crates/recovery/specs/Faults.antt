-- Why a script ends early: a fault of the journal or of the writer.
use Rattle.journal.specs.declared.error.JournalError.{JournalError}
use Rattle.journal.specs.declared.error.JournalError.TheVariants as journal
use Rattle.recovery.specs.declared.driving.DriveError.{DriveError}
use Rattle.recovery.specs.declared.driving.DriveError.TheVariants.{Memory, Device, Damaged, ConfigMismatch, Full, Output}
use Rattle.wire_write.specs.declared.frames.WriteError.{WriteError}
use Rattle.wire_write.specs.declared.frames.WriteError.TheVariants as writing

-- the error of a script that has the same name as this error of the journal
abbrev pub ended_by : JournalError → DriveError
ended_by journal.Memory = Memory
ended_by journal.Device = Device
ended_by (journal.Damaged place) = Damaged place
ended_by journal.ConfigMismatch = ConfigMismatch
ended_by journal.Full = Full

abbrev pub unwritten : WriteError → DriveError
unwritten writing.Memory = Memory
unwritten writing.Output = Output
