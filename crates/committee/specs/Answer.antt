-- Which committee the text of a file describes, or why it describes none: the first refusal that applies.
use Rattle.std.specs.Prelude.{Bool, not, ◌||◌, nat_le, List, [], length, Option, Some, None, is_none, unwrap_or, Result, Ok, Err, if◌then◌else◌}
use Rattle.std.specs.List.{list_any, filter_map}
use Rattle.toml.specs.Data.{Data, Members}
use Rattle.wire.specs.declared.keys.Key.{Key}
use Rattle.committee.specs.declared.error.CommitteeError.{CommitteeError}
use Rattle.committee.specs.declared.error.CommitteeError.TheVariants.{NotToml, BadSize, BadKey, RepeatedKey, BadLimit, BadStake}
use Rattle.committee.specs.Charter.{Charter, quorum_of}
use Rattle.committee.specs.Keys.{key_of, is_no_key, repeats}
use Rattle.committee.specs.File.{members_in, has_stakes, is_size, depth_in, workers_in, batches_in, stakes_in}

-- the elements of the file's list of members; no elements if there is no such list
abbrev pub listed : Members → List Data
listed file = unwrap_or (members_in file) []

-- the keys in the file's list of members
abbrev pub keys_in : Members → List Key
keys_in file = filter_map key_of (listed file)

-- BadSize: there is no list of members, or no committee may have so many of them
abbrev pub has_bad_size : Members → Bool
has_bad_size file = is_none (members_in file) || not (is_size (has_stakes file) (length (listed file)))

-- BadKey: an element of the list of members is no key
abbrev pub has_bad_key : Members → Bool
has_bad_key file = list_any is_no_key (listed file)

-- RepeatedKey: two members have the same key
abbrev pub has_repeated_key : Members → Bool
has_repeated_key file = repeats (keys_in file)

-- BadLimit: the depth, the number of workers or the number of batches is no whole number within its bounds
abbrev pub has_bad_limit : Members → Bool
has_bad_limit file = is_none (depth_in file) || is_none (workers_in file) || is_none (batches_in file)

-- the committee that a file without a fault describes
abbrev pub charter_in : Members → Charter
charter_in file = record {
  keys = keys_in file;
  stakes = unwrap_or (stakes_in (length (listed file)) file) [];
  depth = unwrap_or (depth_in file) 0;
  workers = unwrap_or (workers_in file) 0;
  batches = unwrap_or (batches_in file) 0;
}

-- BadStake: the stakes aren't one whole number within the bounds for each member, or one member's stake alone is a quorum
abbrev pub has_bad_stake : Members → Bool
has_bad_stake file =
    is_none (stakes_in (length (listed file)) file)
    || list_any (λ stake. nat_le (quorum_of (charter_in file)) stake) (charter_in file).stakes

-- the answer for a file: the first refusal that applies, and otherwise the committee
abbrev pub answer : Members → Result Charter CommitteeError
answer file =
    if has_bad_size file then Err BadSize
    else if has_bad_key file then Err BadKey
    else if has_repeated_key file then Err RepeatedKey
    else if has_bad_limit file then Err BadLimit
    else if has_bad_stake file then Err BadStake
    else Ok (charter_in file)

-- the answer for a text: NotToml if it is no TOML document, and otherwise the answer for that
abbrev pub answer_to : Option Members → Result Charter CommitteeError
answer_to None = Err NotToml
answer_to (Some file) = answer file
