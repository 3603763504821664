-- What the opening of a node on one disk or on two reports, and what it leaves on the disks.
use Rattle.std.specs.Prelude.{◌≡◌, ◌≢◌, Result, IfErr}
use Rattle.diskmodel.specs.Disk.{Device as Disks}
use Rattle.journal.specs.Journal.{disk_after}
use Rattle.journal.specs.Pairs.{areas_in}
use Rattle.journal.specs.Stores.{faults_in, ReportsFaultsBack}
use Rattle.journal.specs.declared.error.Failed.{Failed}
use Rattle.journal.specs.declared.error.JournalError.{JournalError}
use Rattle.journal.specs.declared.error.JournalError.TheVariants.{Memory, Device, Full}
use Rattle.journal.specs.declared.store.Store.{Store}
use Rattle.opening.specs.Laws.{IsLeftIn, IsNoRefusalOfBoth, IsFullIn, IsUnchanged, KeepsAlone}
use Rattle.opening.specs.Stages.{IsDecodedThroughout}
use Rattle.opening.specs.Decoded.{decoded_in, Reports}
use Rattle.spec_model.specs.Nodes.{Node}

-- What is reported, and what is left on the disks, when a node's journal is opened and then some value is made, for which an allocation may
-- fail. The value holds the disks; after an error they are handed back.
pub record IsStartingOn {T D : Type 0} (node : Node) (device : Disks D) (disks_in : T → Store D) (store : Store D) (result : Result T (Failed JournalError (Store D))) : Type 0 where
  -- any error other than Memory, Device and Full is the one to which the areas decode
  pub reports : IfErr result (λ failed. failed.error ≢ Device → failed.error ≢ Full → Reports failed.error (decoded_in node (areas_in device store)))
  pub full : IfErr result (λ failed. failed.error ≡ Full → IsFullIn node device store)
  -- the error is Device exactly if a device call failed
  pub cause : ReportsFaultsBack (faults_in device) disks_in Device store result
  -- what a stop at any moment of the opening leaves decodes to the same state or error as something that a stop just before the opening
  -- might have left
  pub any_moment : IsDecodedThroughout node device store (disk_after disks_in result)
  pub keeps : KeepsAlone node device store (disk_after disks_in result)
  -- if the areas are what a stop left in a world of the node, the only errors are that a device call or an allocation failed, or that there
  -- is no room
  pub never_refused : IfErr result (λ failed. IsLeftIn node (areas_in device store) → IsNoRefusalOfBoth failed.error)
  -- after any error other than Device and Memory the records are as before
  pub unchanged : IfErr result (λ failed. failed.error ≢ Device → failed.error ≢ Memory → IsUnchanged device store failed.disk)
