-- What was written of a command's outputs, also if the writer fails.
use Rattle.std.specs.Prelude.{◌≡◌, ◌<◌, ⊤, ℕ, List, [], Option, Some, None, length, drop}
use Rattle.std.specs.Io.KnownBytes.{Appends}
use Rattle.wire.specs.Lists.{Begins}
use Rattle.spec_model.specs.Words.{Output}
use Rattle.wire.specs.Outputs.{frame_of}
use Rattle.book.specs.Book.{BookView, releasable}
use Rattle.wire_write.specs.Frames.{AppendsLess}
use Rattle.recovery.specs.declared.driving.DriveError.{DriveError}
use Rattle.recovery.specs.declared.driving.DriveError.TheVariants.{Device, Full, Output as WriterFailed}

-- the command failed because of the disk: a device call failed, or the journal is full
abbrev pub EndsAtDisk : DriveError → Type 0
EndsAtDisk Device = ⊤
EndsAtDisk Full = ⊤
EndsAtDisk other = ⊥

-- After a failed call the writer has got a further prefix of these bytes: not all of them if the writer failed, and none if the command
-- failed because of the disk.
pub record AppendsPart (error : DriveError) (old new : Option (List ℕ)) (bytes : List ℕ) : Type 0 where
  pub part : List ℕ
  pub begins : Begins part bytes
  pub less : error ≡ WriterFailed → length part < length bytes
  pub none : EndsAtDisk error → part ≡ []
  pub appends : Appends old new part

-- the first output of a book's queue, which may go out, was written and left the queue
pub record WritesFirst {S : Type 0} (before later : BookView S) (old new : Option (List ℕ)) : Type 0 where
  pub output : Output
  pub is : releasable before ≡ Some output
  pub left : later ≡ record before { queue = drop 1 before.queue }
  pub appends : Appends old new (frame_of output)

-- only a part of the first output of a book's queue was written
pub record WritesPartOfFirst {S : Type 0} (before : BookView S) (old new : Option (List ℕ)) : Type 0 where
  pub output : Output
  pub is : releasable before ≡ Some output
  pub appends : AppendsLess old new (frame_of output)

-- no output of a book's queue may go out, and nothing was written
pub record WritesNone {S : Type 0} (before later : BookView S) (old new : Option (List ℕ)) : Type 0 where
  pub none : releasable before ≡ None
  pub same : later ≡ before
  pub keeps : new ≡ old
