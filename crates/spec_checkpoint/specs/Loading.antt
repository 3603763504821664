-- Whether the first records of a journal can be loaded: the node's configuration, and then the records of a checkpoint's state.
use Rattle.std.specs.Prelude.{◌≡◌, ℕ, ◌+◌, ◌==◌, ◌&&◌, ◌||◌, not, Bool, List, [], ◌∷◌, Result, Ok, Err, Option, Some, None, option_map, if◌then◌else◌}
use Rattle.std.specs.List.{list_all, position_from}
use Rattle.std.specs.Option.{option_or}
use Rattle.std.specs.Str.{bytes_eq}
use Rattle.journal.specs.declared.version.Version.{Version}
use Rattle.journal.specs.declared.version.Version.TheVariants.{First, Second}
use Rattle.spec_machine.specs.Sound.{IsSound}
use Rattle.spec_model.specs.Nodes.{Node}
use Rattle.spec_records.specs.Records.{configuration_of, CanReport}
use Rattle.spec_checkpoint.specs.Data.{Checkpoint, IsWritten}
use Rattle.spec_checkpoint.specs.Faults.{record_tests, is_whole_sound}
use Rattle.spec_checkpoint.specs.Meaning.{state_in}
use Rattle.spec_checkpoint.specs.Reading.{checkpoint_read}
use Rattle.spec_checkpoint.specs.Records.{state_records}

-- what is at fault: the record at this place, as the first one; or only all records together
pub data LoadFault : Type 0 where
  at_record : ℕ → LoadFault
  of_whole : LoadFault

-- A record is the node's own configuration, in a version that can express it: version 2 always can, version 1 if each stake is 1.
abbrev pub is_configuration : Node → List ℕ → Bool
is_configuration node bytes =
    bytes_eq bytes (configuration_of Second node.charter node.own)
    || (list_all (λ stake. stake == 1) node.charter.stakes && bytes_eq bytes (configuration_of First node.charter node.own))

-- the first fault of a checkpoint whose records come after the configuration: the first record that is unsound, or else the whole
abbrev pub unsound : Node → Checkpoint → Option LoadFault
unsound node checkpoint =
    option_or (option_map at_record (position_from not 1 (record_tests node checkpoint))) (if is_whole_sound node checkpoint then None else Some of_whole)

-- the first fault of records: the first one that breaks the format, or else the fault of the checkpoint that they are read as
abbrev pub fault_of_read : Node → Result Checkpoint ℕ → Option LoadFault
fault_of_read node (Ok checkpoint) = unsound node checkpoint
fault_of_read node (Err place) = Some (at_record (place + 1))

-- The first fault of all records: the configuration is tested first, then the format of all others, and then whether the checkpoint is
-- sound.
unfoldable pub load_fault : Node → List (List ℕ) → Option LoadFault
load_fault node [] = Some (at_record 0)
load_fault node (first ∷ records) = if is_configuration node first then fault_of_read node (checkpoint_read node records) else Some (at_record 0)

-- The records consist of the node's configuration and of those that a node writes for the checkpoint of a sound state.
pub record AreLoadable (node : Node) (records : List (List ℕ)) (checkpoint : Checkpoint) : Type 0 where
  pub version : Version
  pub can_report : CanReport version node.charter
  pub are : records ≡ configuration_of version node.charter node.own ∷ state_records checkpoint
  pub written : IsWritten node checkpoint
  pub sound : IsSound node (state_in node checkpoint)
