-- The form of the record of a node's configuration, which is the first record of a journal.
use Rattle.std.specs.Prelude.{ℕ, ◌+◌, ◌*◌, ◌==◌, ◌&&◌, Bool, List, [], ◌∷◌, length, Option, Some, None, slice_index, if◌then◌else◌}
use Rattle.std.specs.Int.{w16, from_be_bytes}
use Rattle.journal.specs.declared.configuration.TheConstants.{CONFIGURATION, SETTINGS_BYTES, KEY_BYTES, STAKE_BYTES}
use Rattle.journal.specs.declared.version.Version.{Version}
use Rattle.journal.specs.declared.version.Version.TheVariants.{First, Second}

-- the byte that names a version of the format
abbrev pub number_of : Version → ℕ
number_of First = 1
number_of Second = 2

-- the number of members that the record of a configuration says
abbrev pub members_in : List ℕ → ℕ
members_in bytes = from_be_bytes w16 (slice_index bytes 12 ∷ slice_index bytes 13 ∷ [])

-- how many bytes the stakes of this many members take in a configuration; none in version 1, which has no stakes
abbrev pub stakes_size : Version → ℕ → ℕ
stakes_size First members = 0
stakes_size Second members = members * STAKE_BYTES

-- how many bytes the configuration of this many members takes in a version of the format
abbrev pub size_in : Version → ℕ → ℕ
size_in version members = SETTINGS_BYTES + members * KEY_BYTES + stakes_size version members

-- bytes start like a configuration: with the kind of this record, and then the number of the version
abbrev pub has_front : Version → List ℕ → Bool
has_front version bytes = (slice_index bytes 0 == CONFIGURATION) && (slice_index bytes 1 == number_of version)

-- bytes have the form of a configuration of a version: the right first bytes, and the length that their number of members requires
unfoldable pub is_configuration : Version → List ℕ → Bool
is_configuration version bytes = has_front version bytes && (length bytes == size_in version (members_in bytes))

-- the version of the configuration whose form these bytes have; None if they have the form of none
abbrev pub shaped_version : List ℕ → Option Version
shaped_version bytes = if is_configuration First bytes then Some First else if is_configuration Second bytes then Some Second else None
