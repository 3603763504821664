-- What two sets of members of one committee share, whether one of them is honest, and other laws of weights.
use Rattle.std.specs.Prelude.{◌≡◌, ℕ, ◌+◌, ◌*◌, ◌<◌, ◌≤◌, ◌&&◌, Bool, true, not, length, count_by, All}
use Rattle.committee.specs.Charter.{Charter, IsCharter, numbers, weight, total_of, tolerated_of, quorum_of, support_of}

-- any two quorums share members who weigh more than is tolerated, so at least one honest member
abbrev pub QuorumsOverlap : Type 0
QuorumsOverlap = (charter : Charter) (first second : ℕ → Bool) → IsCharter charter
    → quorum_of charter ≤ weight charter first
    → quorum_of charter ≤ weight charter second
    → tolerated_of charter < weight charter (λ member. first member && second member)

-- any quorum shares a member with any members who weigh enough for support
abbrev pub QuorumMeetsSupport : Type 0
QuorumMeetsSupport = (charter : Charter) (quorum support : ℕ → Bool) → IsCharter charter
    → quorum_of charter ≤ weight charter quorum
    → support_of charter ≤ weight charter support
    → 0 < weight charter (λ member. quorum member && support member)

-- a member of the committee for whom the test holds
pub record Holder (charter : Charter) (test : ℕ → Bool) : Type 0 where
  pub member : ℕ
  pub within : member < length charter.keys
  pub holds : test member ≡ true

-- if the members for whom a test holds weigh more than 0, there is such a member
abbrev pub SomeIfWeighs : Type 0
SomeIfWeighs = (charter : Charter) (holds : ℕ → Bool) → 0 < weight charter holds → Holder charter holds

-- members who weigh enough for support weigh more than is tolerated
abbrev pub SupportIsHonest : Type 0
SupportIsHonest = (charter : Charter) → IsCharter charter → tolerated_of charter < support_of charter

-- if members who weigh what is tolerated are taken away, the others still weigh a quorum
abbrev pub ToleratedLeaveQuorum : Type 0
ToleratedLeaveQuorum = (charter : Charter) → IsCharter charter → quorum_of charter + tolerated_of charter ≤ total_of charter

-- if the faulty members weigh no more than is tolerated, all others together are a quorum
abbrev pub HonestAreQuorum : Type 0
HonestAreQuorum = (charter : Charter) (faulty : ℕ → Bool) → IsCharter charter
    → weight charter faulty ≤ tolerated_of charter
    → quorum_of charter ≤ weight charter (λ member. not (faulty member))

-- if the faulty members weigh no more than is tolerated, any two quorums share a member who isn't faulty
abbrev pub QuorumsShareHonest : Type 0
QuorumsShareHonest = (charter : Charter) (faulty first second : ℕ → Bool) → IsCharter charter
    → weight charter faulty ≤ tolerated_of charter
    → quorum_of charter ≤ weight charter first
    → quorum_of charter ≤ weight charter second
    → Holder charter (λ member. (first member && second member) && not (faulty member))

-- if the faulty members weigh no more than is tolerated, any members who weigh enough for support include one who isn't faulty
abbrev pub SupportHasHonest : Type 0
SupportHasHonest = (charter : Charter) (faulty support : ℕ → Bool) → IsCharter charter
    → weight charter faulty ≤ tolerated_of charter
    → support_of charter ≤ weight charter support
    → Holder charter (λ member. support member && not (faulty member))

-- in a committee of 3 f + 1 members of stake 1 a quorum has 2 f + 1 members, support needs f + 1, and f are tolerated
pub record EqualSizes (charter : Charter) (f : ℕ) : Type 0 where
  pub quorum : quorum_of charter ≡ 2 * f + 1
  pub support : support_of charter ≡ f + 1
  pub tolerated : tolerated_of charter ≡ f

-- weights count members: the total is the number of members, and a set of members weighs as much as it has members
pub record AreCounted (charter : Charter) : Type 0 where
  pub total : total_of charter ≡ length charter.keys
  pub weight : (holds : ℕ → Bool) → weight charter holds ≡ count_by holds (numbers (length charter.keys))
  pub sizes : (f : ℕ) → length charter.keys ≡ 3 * f + 1 → EqualSizes charter f

-- if each member has the stake 1, weights count members
abbrev pub EqualStakes : Type 0
EqualStakes = (charter : Charter) → IsCharter charter → All (λ stake. stake ≡ 1) charter.stakes → AreCounted charter
