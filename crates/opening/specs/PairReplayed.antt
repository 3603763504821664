-- How far a reader of the records of a journal on two disks has got. What is said of the records so far holds whatever records follow, so
-- it stays true as they come.
use Rattle.std.specs.Prelude.{◌≡◌, ◌≢◌, All, ℕ, false, List, [], ◌∷◌, ◌++◌, Option, Some, None, Err}
use Rattle.journal.specs.Configuration.{shaped_version}
use Rattle.journal.specs.declared.error.JournalError.{JournalError}
use Rattle.journal.specs.declared.error.JournalError.TheVariants.{Memory, Device, Damaged, Full}
use Rattle.journal.specs.declared.record.Record.{Record}
use Rattle.journal.specs.declared.version.Version.{Version}
use Rattle.checkpoint.specs.Reader.{fault_of}
use Rattle.checkpoint.specs.declared.error.LoadError.{LoadError}
use Rattle.checkpoint.specs.declared.error.LoadError.TheVariants as load
use Rattle.sigface.specs.Scheme.{Scheme}
use Rattle.spec_checkpoint.specs.Loading.{load_fault, at_record, of_whole}
use Rattle.spec_model.specs.States.{State}
use Rattle.spec_world.specs.World.{bytes_of}
use Rattle.validator.specs.Loading.{LoadingView}
use Rattle.validator.specs.Setting.{ConfigView, node_of}
use Rattle.validator.specs.Standing.{AreAtSound, ValidatorView}
use Rattle.opening.specs.Decoded.{own_fault, or_damaged, read_events, is_event, gates_of, gate_of, read_pair}
use Rattle.opening.specs.declared.reached.Reached.{Reached}
use Rattle.opening.specs.declared.reached.Reached.TheVariants.{Empty, Configured, Checkpoint, Standing, Failed}

-- the version in whose form of a configuration the first record is; None if there is no record, or if it is in no such form
abbrev pub version_in : List Record → Option Version
version_in [] = None
version_in (first ∷ rest) = shaped_version first.bytes

-- an error that is about the bytes: it is not a failed allocation, a failed disk or a lack of room
pub record IsOfBytesAlone (error : JournalError) : Type 0 where
  pub memory : error ≢ Memory
  pub device : error ≢ Device
  pub full : error ≢ Full

-- the reader has taken one record: the node's own configuration in this version, from the group with this gate
pub record IsConfigured {S : Type 0} (scheme : Scheme S) (setting : ConfigView S) (records : List Record) (version : Version) (gate : ℕ) : Type 0 where
  pub first : Record
  pub are : records ≡ first ∷ []
  pub at : first.gate ≡ gate
  pub shape : shaped_version first.bytes ≡ Some version
  pub own : own_fault (node_of scheme setting) first ≡ None

-- The reader has taken the configuration, a head from the same group, and then records of a checkpoint's state. `gates` are the gates of
-- all of them except the head.
pub record IsLoadingTo {S : Type 0} (scheme : Scheme S) (setting : ConfigView S) (records : List Record) (loading : LoadingView S) (gates : List ℕ) : Type 0 where
  pub first : Record
  pub head : Record
  pub state : List Record
  pub are : records ≡ first ∷ head ∷ state
  pub shares : head.gate ≡ first.gate
  pub own : own_fault (node_of scheme setting) first ≡ None
  pub set : loading.setting ≡ setting
  pub came : loading.records ≡ bytes_of (first ∷ state)
  pub gates_are : gates ≡ gates_of (first ∷ state)
  pub of_state : All (λ one. is_event one ≡ false) state

-- the reader's validator holds a state, and whatever records follow are read as events after that state
pub record IsStandingAt {S : Type 0} (scheme : Scheme S) (setting : ConfigView S) (records : List Record) (validator : ValidatorView S) : Type 0 where
  pub set : validator.setting ≡ setting
  pub some : records ≢ []
  pub state : State
  pub at : AreAtSound (node_of scheme setting) validator.tables state
  pub on : (more : List Record) → read_pair (node_of scheme setting) (records ++ more) ≡ or_damaged (read_events (node_of scheme setting) state more)

-- the reader's validator holds a state, and `one` and whatever records follow it are read as events after that state
pub record IsStandingBefore {S : Type 0} (scheme : Scheme S) (setting : ConfigView S) (records : List Record) (one : Record) (validator : ValidatorView S) : Type 0 where
  pub set : validator.setting ≡ setting
  pub state : State
  pub at : AreAtSound (node_of scheme setting) validator.tables state
  pub on : (more : List Record) → read_pair (node_of scheme setting) (records ++ one ∷ more) ≡ or_damaged (read_events (node_of scheme setting) state (one ∷ more))

-- the records taken so far give this error, whatever records follow them
pub record IsFailedAs {S : Type 0} (scheme : Scheme S) (setting : ConfigView S) (records : List Record) (error : JournalError) : Type 0 where
  pub some : records ≢ []
  pub on : (more : List Record) → read_pair (node_of scheme setting) (records ++ more) ≡ Err error
  pub of_bytes : IsOfBytesAlone error

-- how far a reader has got that has taken these records: a case for each stage
abbrev pub HasReached : {S : Type 0} → Scheme S → ConfigView S → List Record → Reached S → Type 0
HasReached scheme setting records Empty = records ≡ []
HasReached scheme setting records (Configured version gate) = IsConfigured scheme setting records version gate
HasReached scheme setting records (Checkpoint loading gates) = IsLoadingTo scheme setting records loading gates.items
HasReached scheme setting records (Standing validator) = IsStandingAt scheme setting records validator
HasReached scheme setting records (Failed error) = IsFailedAs scheme setting records error

-- ---- a reader takes one more record

-- the error that is reported if records with these gates can't be loaded as a checkpoint
abbrev pub error_at : List ℕ → LoadError → JournalError
error_at gates load.Memory = Memory
error_at gates (load.Unsound place) = Damaged (gate_of gates (at_record place))
error_at gates load.UnsoundWhole = Damaged (gate_of gates of_whole)

-- one more record was added to the records of a checkpoint that are being loaded
pub record IsPutTo {S : Type 0} (old : LoadingView S) (old_gates : List ℕ) (bytes : List ℕ) (gate : ℕ) (new : LoadingView S) (gates : List ℕ) : Type 0 where
  pub put : new ≡ record old { records = old.records ++ bytes ∷ [] }
  pub gates_are : gates ≡ old_gates ++ gate ∷ []

-- with this record the checkpoint is at fault, because of this record or an earlier one, and whatever follows
pub record IsFaultOf {S : Type 0} (scheme : Scheme S) (old : LoadingView S) (old_gates : List ℕ) (bytes : List ℕ) (gate : ℕ) (error : JournalError) : Type 0 where
  pub cause : LoadError
  pub is : error ≡ error_at (old_gates ++ gate ∷ []) cause
  pub other : cause ≢ load.Memory
  pub fault : (more : List (List ℕ)) → load_fault (node_of scheme old.setting) (old.records ++ bytes ∷ more) ≡ fault_of cause

abbrev pub IsPut : {S : Type 0} → Scheme S → LoadingView S → List ℕ → List ℕ → ℕ → Reached S → Type 0
IsPut scheme old old_gates bytes gate (Checkpoint loading gates) = IsPutTo old old_gates bytes gate loading gates.items
IsPut scheme old old_gates bytes gate (Failed error) = IsFaultOf scheme old old_gates bytes gate error
IsPut scheme old old_gates bytes gate _ = ⊥
