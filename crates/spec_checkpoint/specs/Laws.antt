-- Laws of checkpoints.
use Rattle.std.specs.Prelude.{◌≡◌, ◌⊎◌, ◌↔◌, ℕ, ◌+◌, ◌<◌, List, [], length, take, get_or, All, Result, Ok, Err, None, true, false}
use Rattle.spec_machine.specs.Machine.{fresh}
use Rattle.spec_machine.specs.Sound.{IsSound}
use Rattle.spec_model.specs.Admitting.{IsLegal}
use Rattle.spec_model.specs.Giving.{kept}
use Rattle.spec_model.specs.Histories.{History}
use Rattle.spec_model.specs.Nodes.{Node, IsNode}
use Rattle.wire.specs.Fields.{AreBytes}
use Rattle.spec_checkpoint.specs.Data.{Checkpoint, blank, IsCanonical, IsWritten}
use Rattle.spec_checkpoint.specs.Faults.{has_no_fault}
use Rattle.spec_checkpoint.specs.Loading.{load_fault, AreLoadable}
use Rattle.spec_checkpoint.specs.Meaning.{state_in}
use Rattle.spec_checkpoint.specs.Reading.{is_cut_short, kind_of, checkpoint_read}
use Rattle.spec_checkpoint.specs.Records.{state_records}

-- the checkpoint of a node without events stands for the fresh state
abbrev pub BlankIsFresh : Type 0
BlankIsFresh = (node : Node) → state_in node blank ≡ fresh node

-- a canonical checkpoint without a fault stands for a sound state
abbrev pub NoFaultIsSound : Type 0
NoFaultIsSound = (node : Node) (checkpoint : Checkpoint) → IsNode node → IsCanonical node checkpoint → has_no_fault node checkpoint ≡ true
    → IsSound node (state_in node checkpoint)

-- a checkpoint that a node writes of a sound state has no fault
abbrev pub SoundHasNoFault : Type 0
SoundHasNoFault = (node : Node) (checkpoint : Checkpoint) → IsWritten node checkpoint → IsSound node (state_in node checkpoint) → has_no_fault node checkpoint ≡ true

-- a checkpoint of the state kept of a legal history has no fault
abbrev pub KeptHasNoFault : Type 0
KeptHasNoFault = (node : Node) (checkpoint : Checkpoint) (history : History) → IsWritten node checkpoint → IsLegal node history → state_in node checkpoint ≡ kept node history
    → has_no_fault node checkpoint ≡ true

-- records are read as this checkpoint if and only if it is canonical and they are its records
abbrev pub ReadAsWritten : Type 0
ReadAsWritten = (node : Node) (records : List (List ℕ)) (checkpoint : Checkpoint) → All AreBytes records
    → (checkpoint_read node records ≡ Ok checkpoint) ↔ (IsCanonical node checkpoint × (records ≡ state_records checkpoint))

-- no two different canonical checkpoints have the same records
abbrev pub OneCheckpoint : Type 0
OneCheckpoint = (node : Node) (one other : Checkpoint) → IsCanonical node one → IsCanonical node other → state_records one ≡ state_records other → one ≡ other

-- loading finds no fault in records if and only if they are those that a node writes of some sound state
abbrev pub LoadsTheSound : Type 0
LoadsTheSound = (node : Node) (records : List (List ℕ)) → IsNode node → All AreBytes records
    → (load_fault node records ≡ None) ↔ ((checkpoint : Checkpoint) × AreLoadable node records checkpoint)

-- ---- the first record that doesn't follow the format

-- a function that reads records as a checkpoint; the definitions below are about any such function
abbrev pub Reader : Type 0
Reader = List (List ℕ) → Result Checkpoint ℕ

-- no list of records that has these first `count` records can be read
pub record IsNoneRead (read : Reader) (records : List (List ℕ)) (count : ℕ) : Type 0 where
  pub none : (others : List (List ℕ)) (checkpoint : Checkpoint) → take count others ≡ take count records → read others ≡ Ok checkpoint → ⊥

-- the records up to this place can be read, and end with a piece (of the order or of the coins) that isn't full; the next record is one
-- more piece of its kind
pub record IsCutShortBy (read : Reader) (records : List (List ℕ)) (place : ℕ) : Type 0 where
  pub checkpoint : Checkpoint
  pub within : place + 1 < length records
  pub reads : read (take (place + 1) records) ≡ Ok checkpoint
  pub cut : is_cut_short checkpoint (kind_of (get_or records (place + 1) [])) ≡ true
  pub none : IsNoneRead read records (place + 2)

-- The record at this place is the first that breaks the format, and it does so by itself: not because the record before it is a piece that
-- isn't full.
pub record IsFirstUnread (read : Reader) (records : List (List ℕ)) (place : ℕ) : Type 0 where
  pub within : place < length records
  pub so_far : Checkpoint
  pub before : read (take place records) ≡ Ok so_far
  pub uncut : is_cut_short so_far (kind_of (get_or records place [])) ≡ false
  pub here : IsNoneRead read records (place + 1) ⊎ IsCutShortBy read records place

-- Reading fails at a place if and only if the record there is the first that breaks the format: the records before it can be read, but no
-- list that goes on with this record can. A piece that isn't full breaks the format only if another piece of its kind comes after it: no
-- list that has both can be read.
abbrev pub FailsAtFirst : Type 0
FailsAtFirst = (node : Node) (records : List (List ℕ)) (place : ℕ) → (checkpoint_read node records ≡ Err place) ↔ IsFirstUnread (checkpoint_read node) records place
