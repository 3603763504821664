-- That decoding is right: bytes decode to a state if and only if they stand for it, as the model of a node's runs defines that.
use Rattle.std.specs.Prelude.{◌≡◌, ◌≢◌, ◌⊎◌, ⊤, ℕ, List, [], None, Result, Ok, Err, IfOk, IfErr, IsSome}
use Rattle.diskmodel.specs.Disk.{AtEachMoment, Device as Disks}
use Rattle.diskmodel.specs.Outcomes.{AreBytes}
use Rattle.journal.specs.Areas.{Areas, alone, pair, stands_in}
use Rattle.journal.specs.Journal.{disk_after, spare_of, ReportsFaultBack, IsAlive, IsClosedUp}
use Rattle.journal.specs.Pairs.{areas_in, areas_of, store_of}
use Rattle.journal.specs.Stores.{faults_in, ReportsFaultsBack}
use Rattle.journal.specs.declared.error.Failed.{Failed}
use Rattle.journal.specs.declared.error.JournalError.{JournalError}
use Rattle.journal.specs.declared.error.JournalError.TheVariants.{Memory, Device, Full}
use Rattle.journal.specs.declared.journal.Journal.{Journal}
use Rattle.journal.specs.declared.store.Store.{Store}
use Rattle.journal.specs.declared.store.Store.TheVariants.{One, Two}
use Rattle.spec_machine.specs.Sound.{IsSound}
use Rattle.spec_model.specs.Admitting.{IsLegal}
use Rattle.spec_model.specs.Giving.{kept}
use Rattle.spec_model.specs.Histories.{History}
use Rattle.spec_model.specs.Nodes.{Node, IsNode}
use Rattle.spec_model.specs.States.{State}
use Rattle.opening.specs.Renewing.{KeepsStatesIn, IsFullOf, IsNewest, HasBegun, IsReadOn}
use Rattle.opening.specs.Stages.{IsDecodedThroughout}
use Rattle.opening.specs.Decoded.{decoded, decoded_in, Reports, StandsAt, IsDecodedAsOneOf, KeepsRecords}
use Rattle.admission.specs.declared.tables.Tables.{Tables}
use Rattle.sigface.specs.Scheme.{Scheme}
use Rattle.validator.specs.Setting.{ConfigView, node_of}
use Rattle.validator.specs.Standing.{AreAtSound, ValidatorView}
use Rattle.spec_world.specs.Runs.{AreKeys}
use Rattle.spec_world.specs.Steps.{Move, IsRecovered, IsRun}
use Rattle.spec_world.specs.World.{World, Holds, StandsFor, MayStop}

-- ---- laws of a journal on one disk

-- these bytes, as the content of the node's only disk, stand for this state (a start restores it from them), and the state is what is kept
-- of some legal history
pub record IsOfBytes (node : Node) (bytes : List ℕ) (state : State) : Type 0 where
  pub stands_for : StandsFor node (alone bytes) state
  pub history : History
  pub legal : IsLegal node history
  pub keeps : kept node history ≡ state

-- for all bytes: the state that they decode to is one that they stand for, and is kept of some legal history
abbrev pub DecodedStandsFor : Type 0
DecodedStandsFor = (node : Node) (bytes : List ℕ) (state : State) → IsNode node → AreBytes bytes → decoded node bytes ≡ Ok state
    → IsOfBytes node bytes state

-- for all bytes that stand for a state: they decode to that state
abbrev pub WhatStandsIsDecoded : Type 0
WhatStandsIsDecoded = (node : Node) (bytes : List ℕ) (state : State) → AreKeys node → StandsFor node (alone bytes) state → decoded node bytes ≡ Ok state

-- bytes decode to, and stand for, the state kept of a history that recovery may find in this world
pub record IsFound (node : Node) (world : World) (bytes : List ℕ) : Type 0 where
  pub history : History
  pub is_decoded : decoded node bytes ≡ Ok (kept node history)
  pub stands_for : StandsFor node (alone bytes) (kept node history)
  pub recovered : IsRecovered node world history

-- for all worlds that the runs of a node reach: whatever a stop leaves of the one disk decodes to a state that recovery may find
abbrev pub WorldsAreDecoded : Type 0
WorldsAreDecoded = (node : Node) (moves : List Move) (world : World) (bytes : List ℕ) → IsNode node → AreKeys node → IsRun node moves world
    → MayStop world (alone bytes) → IsFound node world bytes

-- ---- the same laws of one disk or of two

-- each byte of these areas is a number below 256
abbrev pub AreBytesIn : Areas → Type 0
AreBytesIn (alone bytes) = AreBytes bytes
AreBytesIn (pair one other) = AreBytes one × AreBytes other

-- the areas stand for a sound state. (A checkpoint may hold a state that no history leads to, if something else wrote it)
pub record IsOfAreas (node : Node) (areas : Areas) (state : State) : Type 0 where
  pub stands_for : StandsFor node areas state
  pub sound : IsSound node state

-- for all areas: the state that they decode to is sound, and they stand for it
abbrev pub DecodedInStandsFor : Type 0
DecodedInStandsFor = (node : Node) (areas : Areas) (state : State) → IsNode node → AreBytesIn areas → decoded_in node areas ≡ Ok state
    → IsOfAreas node areas state

-- for all areas that stand for a state: they decode to that state
abbrev pub WhatStandsIsDecodedIn : Type 0
WhatStandsIsDecodedIn = (node : Node) (areas : Areas) (state : State) → IsNode node → AreKeys node → StandsFor node areas state → decoded_in node areas ≡ Ok state

-- areas decode to, and stand for, the state kept of a history that recovery may find in this world
pub record IsFoundIn (node : Node) (world : World) (areas : Areas) : Type 0 where
  pub history : History
  pub is_decoded : decoded_in node areas ≡ Ok (kept node history)
  pub stands_for : StandsFor node areas (kept node history)
  pub recovered : IsRecovered node world history

-- for all worlds that the runs of a node reach: whatever a stop leaves of the disks decodes to a state that recovery may find
abbrev pub WorldsAreDecodedIn : Type 0
WorldsAreDecodedIn = (node : Node) (moves : List Move) (world : World) (areas : Areas) → IsNode node → AreKeys node → IsRun node moves world
    → MayStop world areas → IsFoundIn node world areas

-- ---- what an opening answers

-- the bytes of a disk stand for the state kept of some legal history, and the validator's tables hold that state
pub record StandsForAt (node : Node) (bytes : List ℕ) (tables : Tables) : Type 0 where
  pub history : History
  pub stands_for : StandsFor node (alone bytes) (kept node history)
  pub legal : IsLegal node history
  pub at : AreAtSound node tables (kept node history)

-- bytes are a proper journal of the node with the state kept of some legal history; they decode to it, and the validator's tables hold it
pub record HoldsAt (node : Node) (bytes : List ℕ) (tables : Tables) : Type 0 where
  pub history : History
  pub decoded_as : decoded node bytes ≡ Ok (kept node history)
  pub holds : Holds node (alone bytes) (kept node history)
  pub legal : IsLegal node history
  pub at : AreAtSound node tables (kept node history)

-- for each state that the bytes before stand for, the bytes later are a proper journal of the node with that state
abbrev pub KeepsStates : Node → List ℕ → List ℕ → Type 0
KeepsStates node before later = (state : State) → StandsFor node (alone before) state → Holds node (alone later) state

-- bytes that a stop may leave of one disk at some moment of a node's runs
pub record IsLeft (node : Node) (bytes : List ℕ) : Type 0 where
  pub moves : List Move
  pub world : World
  pub run : IsRun node moves world
  pub may_stop : MayStop world (alone bytes)

-- all bytes that a stop can leave of one disk in a node's runs decode to some state
abbrev pub AreLeftDecoded : Node → Type 0
AreLeftDecoded node = (bytes : List ℕ) → IsLeft node bytes → (state : State) × (decoded node bytes ≡ Ok state)

-- the error is a failed call on a disk, or a failed allocation
abbrev pub IsNoRefusal : JournalError → Type 0
IsNoRefusal error = (error ≡ Device) ⊎ (error ≡ Memory)

-- What an opening of one disk reports and leaves, whatever it opens: the result holds the disk, or an error hands it back.
pub record IsOpening {T D : Type 0} (node : Node) (device : Disks D) (disk_in : T → D) (disk : D) (result : Result T (Failed JournalError D)) : Type 0 where
  -- each error, except a failed allocation or a failed disk, is what is wrong with the bytes
  pub reports : IfErr result (λ failed. failed.error ≢ Device → Reports failed.error (decoded node (device.content disk)))
  pub never_full : IfErr result (λ failed. failed.error ≢ Full)
  -- the error is Device if and only if the disk has counted a failed call
  pub cause : ReportsFaultBack device disk_in Device disk result
  -- whatever a stop at any moment of the opening leaves decodes to the same state as something that a stop before the opening could leave
  pub any_moment : AtEachMoment device disk (disk_after disk_in result) (IsDecodedAsOneOf node (device.outcome disk))
  -- A stop keeps the records, even those of another node; if there were none, the configuration may have been added. If what is left is
  -- read as no records, it is an outcome from before the opening, byte for byte.
  pub keeps : AtEachMoment device disk (disk_after disk_in result) (KeepsRecords node (device.outcome disk))
  -- what a stop leaves of the node's own runs can always be opened, unless the disk or an allocation fails
  pub never_refused : IfErr result (λ failed. IsLeft node (device.content disk) → IsNoRefusal failed.error)

-- ---- an opening of one disk or of two

-- areas stand for a state, and the validator's tables hold that state
pub record StandsForIn (node : Node) (areas : Areas) (tables : Tables) : Type 0 where
  pub state : State
  pub stands_for : StandsFor node areas state
  pub at : AreAtSound node tables state

-- areas are a proper journal of the node with a state; they decode to it, and the validator's tables hold it
pub record HoldsIn (node : Node) (areas : Areas) (tables : Tables) : Type 0 where
  pub state : State
  pub decoded_as : decoded_in node areas ≡ Ok state
  pub holds : Holds node areas state
  pub at : AreAtSound node tables state

-- a journal is on as many disks as were opened; of two disks, the area that is read is the right one
abbrev pub IsReadIn : {D : Type 0} → Node → Disks D → Store D → Journal D → Type 0
IsReadIn node device (One disk) journal = spare_of journal ≡ None
IsReadIn node device (Two first second) journal = IsSome (spare_of journal) × IsReadOn node (device.content first) (device.content second) journal

-- the result of a call on two disks; the two disks that an error hands back are given as a store
abbrev pub with_store : {T D : Type 0} → Result T (Failed JournalError (D × D)) → Result T (Failed JournalError (Store D))
with_store (Ok given) = Ok given
with_store (Err failed) = Err (record { error = failed.error; disk = Two failed.disk.0 failed.disk.1 })

-- areas that a stop may leave at some moment of a node's runs
pub record IsLeftIn (node : Node) (areas : Areas) : Type 0 where
  pub moves : List Move
  pub world : World
  pub run : IsRun node moves world
  pub may_stop : MayStop world areas

-- all areas that a stop can leave in a node's runs decode to some state
abbrev pub AreLeftDecodedIn : Node → Type 0
AreLeftDecodedIn node = (areas : Areas) → IsLeftIn node areas → (state : State) × (decoded_in node areas ≡ Ok state)

-- the error is a failed disk, a failed allocation, or that a journal in version 1 has no room for its checkpoint
abbrev pub IsNoRefusalOfBoth : JournalError → Type 0
IsNoRefusalOfBoth error = IsNoRefusal error ⊎ (error ≡ Full)

-- Full can be reported of two disks only: their journal is in version 1, and has no room for its checkpoint.
abbrev pub IsFullIn : {D : Type 0} → Node → Disks D → Store D → Type 0
IsFullIn node device (One disk) = ⊥
IsFullIn node device (Two first second) = IsFullOf node (device.content first) (device.content second)

-- After a failed opening one disk has its former bytes, except that those after its closed gate may be gone; two areas are read as before.
abbrev pub IsUnchanged : {D : Type 0} → Disks D → Store D → Store D → Type 0
IsUnchanged device (One disk) (One left) = (device.content left ≡ device.content disk) ⊎ IsClosedUp (device.content disk) (device.content left)
IsUnchanged device (Two first second) (Two now also) = stands_in (areas_in device (Two now also)) ≡ stands_in (areas_in device (Two first second))
IsUnchanged device old new = ⊥

-- A stop at any moment of an opening of one disk keeps the records, even those of another node; if there were none, the configuration may
-- have been added. If what is left is read as no records, it is an outcome from before the opening, byte for byte.
abbrev pub KeepsAlone : {D : Type 0} → Node → Disks D → Store D → Store D → Type 0
KeepsAlone node device (One old) (One new) = AtEachMoment device old new (KeepsRecords node (device.outcome old))
KeepsAlone node device (Two first second) (Two now also) = ⊤
KeepsAlone node device old new = ⊥

-- What an opening of one disk or of two reports and leaves, whatever it opens: the result holds the disks, or an error hands them back.
pub record IsOpeningOn {T D : Type 0} (node : Node) (device : Disks D) (disks_in : T → Store D) (store : Store D) (result : Result T (Failed JournalError (Store D))) : Type 0 where
  -- each error, except a failed allocation, a failed disk or a lack of room, is what is wrong with the areas
  pub reports : IfErr result (λ failed. failed.error ≢ Device → failed.error ≢ Full → Reports failed.error (decoded_in node (areas_in device store)))
  pub full : IfErr result (λ failed. failed.error ≡ Full → IsFullIn node device store)
  -- the error is Device if and only if a disk has counted a failed call
  pub cause : ReportsFaultsBack (faults_in device) disks_in Device store result
  -- what a stop at any moment leaves decodes to the same as some outcome from before the opening
  pub any_moment : IsDecodedThroughout node device store (disk_after disks_in result)
  pub keeps : KeepsAlone node device store (disk_after disks_in result)
  -- what a stop leaves of the node's own runs can always be opened, unless a disk or an allocation fails or a checkpoint has no room
  pub never_refused : IfErr result (λ failed. IsLeftIn node (areas_in device store) → IsNoRefusalOfBoth failed.error)
  -- after an error the records are as before, unless a disk failed
  pub unchanged : IfErr result (λ failed. failed.error ≢ Device → IsUnchanged device store failed.disk)

-- All that an opening of one disk or of two promises, if it opens a validator and its journal.
pub record IsOpenedIn {S D : Type 0} (scheme : Scheme S) (device : Disks D) (setting : ConfigView S) (store : Store D)
    (result : Result (ValidatorView S × Journal D) (Failed JournalError (Store D))) : Type 0 where
  pub set : IfOk result (λ opened. opened.0.setting ≡ setting)
  pub stands : IfOk result (λ opened. StandsAt (node_of scheme setting) (decoded_in (node_of scheme setting) (areas_in device store)) opened.0.tables)
  pub same : IfOk result (λ opened. decoded_in (node_of scheme setting) (areas_of device opened.1) ≡ decoded_in (node_of scheme setting) (areas_in device store))
  pub alive : IfOk result (λ opened. IsAlive device opened.1)
  pub configured : IfOk result (λ opened. stands_in (areas_of device opened.1) ≢ Ok [])
  pub begun : IfOk result (λ opened. HasBegun device opened.1)
  pub disks : IfOk result (λ opened. IsReadIn (node_of scheme setting) device store opened.1)
  pub newest : IfOk result (λ opened. IsSome (spare_of opened.1) → IsNewest (areas_of device opened.1))
  pub stands_for : IfOk result (λ opened. StandsForIn (node_of scheme setting) (areas_in device store) opened.0.tables)
  pub kept : IfOk result (λ opened. KeepsStatesIn (node_of scheme setting) (areas_in device store) (areas_of device opened.1))
  pub holds : IfOk result (λ opened. HoldsIn (node_of scheme setting) (areas_of device opened.1) opened.0.tables)
  pub opening : IsOpeningOn (node_of scheme setting) device (λ opened. store_of opened.1) store result
