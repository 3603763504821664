-- What a committee file contains.
use Rattle.std.specs.Prelude.{codes, pos, negsuc, ℕ, ◌%◌, length, replicate, Bool, ◌==◌, ◌&&◌, ◌||◌, not, nat_le, ℤ, List, [], ◌∷◌, Option, Some}
use Rattle.std.specs.Prelude.{None, is_some, is_none, option_map, option_and_then, if◌then◌else◌}
use Rattle.std.specs.List.{list_any, filter_map}
use Rattle.std.specs.Option.{option_map_or}
use Rattle.toml.specs.Data.{Data, as_integer, Items, no_items, item, Members, get_member, as_array}
use Rattle.committee.specs.declared.limits.TheConstants.{MIN_DEPTH, MAX_DEPTH, DEFAULT_DEPTH, MIN_WORKERS, MAX_WORKERS, DEFAULT_WORKERS, MIN_HELD_BATCHES, MAX_HELD_BATCHES, DEFAULT_HELD_BATCHES}
use Rattle.committee.specs.declared.members.TheConstants.{MIN_MEMBERS, MAX_MEMBERS}
use Rattle.committee.specs.declared.stakes.TheConstants.{MIN_STAKE, MAX_STAKE, DEFAULT_STAKE}

-- the elements of a TOML array, as a list
abbrev pub elements : Items → List Data
elements no_items = []
elements (item element rest) = element ∷ elements rest

-- the elements of the file's list of members; None if there is no such list
abbrev pub members_in : Members → Option (List Data)
members_in file = option_map elements (option_and_then as_array (get_member (codes "members") file))

-- the file has a value `stakes`, of whatever type
abbrev pub has_stakes : Members → Bool
has_stakes file = is_some (get_member (codes "stakes") file)

-- a committee may have n members: from 4 to 31; without stakes in the file the number also has to be 3 f + 1
abbrev pub is_size : Bool → ℕ → Bool
is_size staked n = (nat_le MIN_MEMBERS n && nat_le n MAX_MEMBERS) && (staked || (n % 3 == 1))

-- a number if it is within these bounds, and otherwise None
abbrev pub number_within : ℕ → ℕ → ℤ → Option ℕ
number_within least greatest (pos n) = if nat_le least n && nat_le n greatest then Some n else None
number_within least greatest (negsuc n) = None

-- a limit of the committee: the number in the file if it is a whole one within the bounds, and the default if the file has none
abbrev pub limit : ℕ → ℕ → ℕ → Option Data → Option ℕ
limit least greatest default None = Some default
limit least greatest default (Some value) = option_and_then (number_within least greatest) (as_integer value)

-- the depth that the file says: 2 to 1000 rounds, 50 if it says none
abbrev pub depth_in : Members → Option ℕ
depth_in file = limit MIN_DEPTH MAX_DEPTH DEFAULT_DEPTH (get_member (codes "depth") file)

-- the number of workers of a member that the file says: 1 to 16, and 1 if it says none
abbrev pub workers_in : Members → Option ℕ
workers_in file = limit MIN_WORKERS MAX_WORKERS DEFAULT_WORKERS (get_member (codes "workers") file)

-- how many batches a node may hold, of all members together, as the file says: 1 to 1048576, and 1048576 if it says none
abbrev pub batches_in : Members → Option ℕ
batches_in file = limit MIN_HELD_BATCHES MAX_HELD_BATCHES DEFAULT_HELD_BATCHES (get_member (codes "batches") file)

-- the stake in an element of the list of stakes: a whole number from 1 to 1000000
abbrev pub stake_in : Data → Option ℕ
stake_in element = option_and_then (number_within MIN_STAKE MAX_STAKE) (as_integer element)

-- an element is no stake
abbrev pub is_no_stake : Data → Bool
is_no_stake element = is_none (stake_in element)

-- the stakes in a list, if it has one for each of `size` members
abbrev pub stakes_among : ℕ → List Data → Option (List ℕ)
stakes_among size list =
    if (length list == size) && not (list_any is_no_stake list) then Some (filter_map stake_in list) else None

-- the stakes of `size` members: those in the file, if it has a list of one for each; 1 for each member if the file has no stakes
abbrev pub stakes_in : ℕ → Members → Option (List ℕ)
stakes_in size file =
    option_map_or (λ value. option_and_then (λ items. stakes_among size (elements items)) (as_array value)) (get_member (codes "stakes") file)
    (Some (replicate size DEFAULT_STAKE))
