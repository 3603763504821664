-- A committee, and how much its members weigh. What a set of members weighs is the sum of their stakes.
use Rattle.std.specs.Prelude.{◌≡◌, ◌≢◌, ℕ, ◌+◌, ◌-◌, ◌*◌, ◌/◌, ◌<◌, ◌≤◌, Bool, List, length, cond, sum, sum_by, get_or, All, AllPairs}
use Rattle.std.specs.List.{range_with_len}
use Rattle.wire.specs.declared.keys.Key.{Key}
use Rattle.committee.specs.declared.limits.TheConstants.{MIN_DEPTH, MAX_DEPTH, MIN_WORKERS, MAX_WORKERS, MIN_HELD_BATCHES, MAX_HELD_BATCHES}
use Rattle.committee.specs.declared.members.TheConstants.{MIN_MEMBERS, MAX_MEMBERS}
use Rattle.committee.specs.declared.stakes.TheConstants.{MIN_STAKE, MAX_STAKE}

-- a committee: the members' keys in the order of their numbers, the members' stakes, the depth in rounds, how many workers each member has,
-- and how many batches a node may hold, of all members together
pub record Charter : Type 0 where
  pub keys : List Key
  pub stakes : List ℕ
  pub depth : ℕ
  pub workers : ℕ
  pub batches : ℕ

-- ---- weights

-- the numbers of a committee's members, if it has this size: 0, 1, and so on
abbrev pub numbers : ℕ → List ℕ
numbers size = range_with_len 0 size

-- the stake of the member with this number; 0 if no member has it
abbrev pub stake_of : Charter → ℕ → ℕ
stake_of charter member = get_or charter.stakes member 0

-- the weight of the members for whom a test holds: the sum of their stakes
abbrev pub weight : Charter → (ℕ → Bool) → ℕ
weight charter holds = sum_by (λ member. cond (holds member) (stake_of charter member) 0) (numbers (length charter.keys))

-- the sum of all members' stakes
abbrev pub total_of : Charter → ℕ
total_of charter = sum charter.stakes

-- the tolerated weight: what the members who aren't honest may weigh together at most, which is less than a third of the total
abbrev pub tolerated_of : Charter → ℕ
tolerated_of charter = (total_of charter - 1) / 3

-- the least weight of a quorum: more than two thirds of the total
abbrev pub quorum_of : Charter → ℕ
quorum_of charter = 2 * total_of charter / 3 + 1

-- the least weight of support: at least a third of the total, so more than is tolerated, so that one of the supporters is honest
abbrev pub support_of : Charter → ℕ
support_of charter = (total_of charter + 2) / 3

-- ---- what holds of every committee

-- a committee is sound: its number of members is allowed, no key occurs twice, each member has a stake within the limits, no member alone
-- is a quorum, and its other limits are within their bounds
pub record IsCharter (charter : Charter) : Type 0 where
  pub size : (MIN_MEMBERS ≤ length charter.keys) × (length charter.keys ≤ MAX_MEMBERS)
  pub distinct : AllPairs (λ one other. one ≢ other) charter.keys
  pub staked : length charter.stakes ≡ length charter.keys
  pub stakes : All (λ stake. (MIN_STAKE ≤ stake) × (stake ≤ MAX_STAKE)) charter.stakes
  pub shared : All (λ stake. stake < quorum_of charter) charter.stakes
  pub depth : (MIN_DEPTH ≤ charter.depth) × (charter.depth ≤ MAX_DEPTH)
  pub workers : (MIN_WORKERS ≤ charter.workers) × (charter.workers ≤ MAX_WORKERS)
  pub batches : (MIN_HELD_BATCHES ≤ charter.batches) × (charter.batches ≤ MAX_HELD_BATCHES)
