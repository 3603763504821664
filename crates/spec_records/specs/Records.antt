-- The records of the journal: how an event and a node's configuration are written.
use Rattle.std.specs.Prelude.{◌≡◌, ◌≢◌, ⊤, ℕ, ◌<◌, ◌^◌, List, [], ◌∷◌, ◌++◌, length, None, All}
use Rattle.std.specs.List.{flat_map}
use Rattle.std.specs.Int.{w16, w32, to_be_bytes}
use Rattle.committee.specs.Charter.{Charter, IsCharter}
use Rattle.header.specs.Checks.{fault_of, accepts_all}
use Rattle.wire.specs.Events.{Event}
use Rattle.wire.specs.Fields.{HasBytes}
use Rattle.wire.specs.Grammar.{IsMessage}
use Rattle.wire.specs.Encoding.{encoding}
use Rattle.wire.specs.declared.keys.Author.{Author}
use Rattle.journal.specs.Configuration.{number_of}
use Rattle.journal.specs.declared.version.Version.{Version}
use Rattle.journal.specs.declared.version.Version.TheVariants.{First, Second}

-- the record of an event: its kind, the sender's number, the message
abbrev pub record_of : Event → List ℕ
record_of event = 1 ∷ to_be_bytes w16 event.sender.0 ++ encoding event.message

-- ---- a node's configuration

-- the stakes that a configuration has: none in version 1, and all of them in version 2
abbrev pub stakes_of : Version → List ℕ → List ℕ
stakes_of First stakes = []
stakes_of Second stakes = flat_map (to_be_bytes w32) stakes

-- the record of a node's configuration: kind, version, own number, depth, number of workers, greatest number of batches, number of members,
-- their keys, and in version 2 their stakes
abbrev pub configuration_of : Version → Charter → Author → List ℕ
configuration_of version charter own =
    0 ∷ number_of version ∷ to_be_bytes w16 own.0 ++ to_be_bytes w16 charter.depth ++ to_be_bytes w16 charter.workers ++ to_be_bytes w32 charter.batches
    ++ to_be_bytes w16 (length charter.keys) ++ flat_map (λ key. key.0) charter.keys ++ stakes_of version charter.stakes

-- a configuration in this version can express the committee: version 1 has no stakes, so each stake has to be 1
abbrev pub CanReport : Version → Charter → Type 0
CanReport First charter = All (λ stake. stake ≡ 1) charter.stakes
CanReport Second charter = ⊤

-- what a configuration is made of: a sound committee whose keys have 32 bytes each, and an own number that fits two bytes
pub record IsConfiguration (charter : Charter) (own : Author) : Type 0 where
  pub sound : IsCharter charter
  pub keys : All (λ key. HasBytes 32 key.0) charter.keys
  pub fits : own.0 < 2 ^ 16

-- ---- laws

-- An event passed the checks of a committee, except those of signatures, and keeps all limits. The model's `IsTaken` says the same of a
-- node and its committee; it stands twice because neither crate stands on the other.
pub record IsChecked (charter : Charter) (event : Event) : Type 0 where
  pub message : IsMessage event.message
  pub passed : fault_of charter accepts_all event ≡ None

-- no two different events that can be taken have the same record
abbrev pub OneRecord : Type 0
OneRecord = (charter : Charter) (one other : Event) → IsCharter charter → IsChecked charter one → IsChecked charter other
    → record_of one ≡ record_of other → one ≡ other

-- no event has the same record as a configuration, in any version
abbrev pub NoConfiguration : Type 0
NoConfiguration = (event : Event) (version : Version) (charter : Charter) (own : Author) → record_of event ≢ configuration_of version charter own

-- no two different configurations that their versions can express have the same record
abbrev pub OneConfiguration : Type 0
OneConfiguration = (version other : Version) (charter also : Charter) (own number : Author) → IsConfiguration charter own → IsConfiguration also number
    → CanReport version charter → CanReport other also → configuration_of version charter own ≡ configuration_of other also number
    → (charter ≡ also) × (own ≡ number)
