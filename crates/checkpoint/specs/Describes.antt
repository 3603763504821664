-- When the records of a checkpoint describe a validator's tables.
use Rattle.std.specs.Prelude.{◌≡◌, ℕ, List, ◌∷◌, drop, All, Ok, None}
use Rattle.journal.specs.declared.version.Version.TheVariants.{Second}
use Rattle.spec_machine.specs.Sound.{IsSound}
use Rattle.spec_model.specs.Nodes.{Node, IsNode}
use Rattle.spec_model.specs.States.{State}
use Rattle.spec_model.specs.Words.{Author}
use Rattle.spec_records.specs.Records.{configuration_of}
use Rattle.spec_checkpoint.specs.Data.{Checkpoint, IsWritten}
use Rattle.spec_checkpoint.specs.Loading.{load_fault}
use Rattle.spec_checkpoint.specs.Meaning.{state_in}
use Rattle.spec_checkpoint.specs.Reading.{checkpoint_read}
use Rattle.spec_checkpoint.specs.Records.{state_records}
use Rattle.wire.specs.Fields.{AreBytes}
use Rattle.admission.specs.Standing.{AreAt}
use Rattle.admission.specs.declared.tables.Tables.{Tables}

-- the tables hold a sound state of the node. The records are the node's configuration in the second version, followed by those of a
-- checkpoint that the node may write of this state
pub record Describes (node : Node) (tables : Tables) (records : List (List ℕ)) : Type 0 where
  pub checkpoint : Checkpoint
  pub written : IsWritten node checkpoint
  pub sound : IsSound node (state_in node checkpoint)
  pub at : AreAt node (state_in node checkpoint) tables
  pub are : records ≡ configuration_of Second node.charter node.own ∷ state_records checkpoint

-- the tables hold this sound state of a node with this number
pub record StandFor (own : Author) (tables : Tables) (node : Node) (state : State) : Type 0 where
  pub number : node.own ≡ own
  pub node_is : IsNode node
  pub sound : IsSound node state
  pub at : AreAt node state tables

-- ---- laws

-- records that describe tables have no fault, and are read as the sound state that the tables hold. So tables that are loaded from them
-- hold the same state
abbrev pub KeptIsLoaded : Type 0
KeptIsLoaded = (node : Node) (tables : Tables) (records : List (List ℕ)) → IsNode node → All AreBytes records → Describes node tables records
    → (load_fault node records ≡ None)
    × ((checkpoint : Checkpoint) → checkpoint_read node (drop 1 records) ≡ Ok checkpoint → IsSound node (state_in node checkpoint) × AreAt node (state_in node checkpoint) tables)
