-- How the opening of a journal on two disks ends, once a reader has taken its records.
use Rattle.std.specs.Prelude.{◌≡◌, ◌≢◌, List, Some, Result, Ok, Err}
use Rattle.diskmodel.specs.Disk.{Device as Disks}
use Rattle.journal.specs.Areas.{stands_in}
use Rattle.journal.specs.Pairs.{areas_of, store_of}
use Rattle.journal.specs.declared.error.Failed.{Failed}
use Rattle.journal.specs.declared.error.JournalError.{JournalError}
use Rattle.journal.specs.declared.error.JournalError.TheVariants.{Device, Full}
use Rattle.journal.specs.declared.journal.Journal.{Journal}
use Rattle.journal.specs.declared.record.Record.{Record}
use Rattle.journal.specs.declared.store.Store.{Store}
use Rattle.journal.specs.declared.version.Version.TheVariants.{First}
use Rattle.sigface.specs.Scheme.{Scheme}
use Rattle.spec_model.specs.Nodes.{Node}
use Rattle.validator.specs.Setting.{ConfigView, node_of}
use Rattle.validator.specs.Standing.{ValidatorView}
use Rattle.opening.specs.PairReplayed.{version_in}
use Rattle.opening.specs.Renewing.{IsRenewed, IsPlaced}
use Rattle.opening.specs.Decoded.{decoded_in, Reports, StandsAt}

-- the result of a renewal (an empty journal gets its configuration, one in version 1 is rewritten): it succeeded, or failed with this error
abbrev pub done : Result (Unit {0}) JournalError
done = Ok tt

abbrev pub gives_up : JournalError → Result (Unit {0}) JournalError
gives_up error = Err error

-- the opening succeeded: a validator holds the state that the areas decode to, and the journal is in version 2
pub record IsReady {S D : Type 0} (scheme : Scheme S) (device : Disks D) (setting : ConfigView S) (old : Journal D) (validator : ValidatorView S) (new : Journal D) : Type 0 where
  pub set : validator.setting ≡ setting
  pub stands : StandsAt (node_of scheme setting) (decoded_in (node_of scheme setting) (areas_of device old)) validator.tables
  pub is : IsRenewed (node_of scheme setting) device old done new
  pub placed : (records : List Record) → stands_in (areas_of device old) ≡ Ok records → IsPlaced (node_of scheme setting) device (version_in records) old new

-- the opening failed, and hands the disks back with an error
pub data IsGivenUp {D : Type 0} (node : Node) (device : Disks D) (old : Journal D) (failed : Failed JournalError (Store D)) : Type 0 where
  -- something is wrong with the records, or an allocation failed; the disks are as before
  at_records : failed.error ≢ Device → failed.error ≢ Full → Reports failed.error (decoded_in node (areas_of device old)) → failed.disk ≡ store_of old → IsGivenUp node device old failed
  -- the renewal of the journal failed. Only a journal in version 1 can lack the room for its checkpoint
  at_renewal : (new : Journal D) → IsRenewed node device old (gives_up failed.error) new
      → (failed.error ≡ Full → (records : List Record) → stands_in (areas_of device old) ≡ Ok records → version_in records ≡ Some First)
      → failed.disk ≡ store_of new → IsGivenUp node device old failed

abbrev pub IsFinished : {S D : Type 0} → Scheme S → Disks D → ConfigView S → Journal D → Result (ValidatorView S × Journal D) (Failed JournalError (Store D)) → Type 0
IsFinished scheme device setting old (Ok opened) = IsReady scheme device setting old opened.0 opened.1
IsFinished scheme device setting old (Err failed) = IsGivenUp (node_of scheme setting) device old failed
