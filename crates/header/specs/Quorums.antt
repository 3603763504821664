-- That a message which passed its tests has parents and votes of a quorum.
use Rattle.std.specs.Prelude.{◌≡◌, ℕ, ◌≤◌, ◌==◌, Bool, List, length, None, sum_by, All}
use Rattle.std.specs.List.{list_any}
use Rattle.committee.specs.Charter.{Charter, IsCharter, weight, quorum_of}
use Rattle.wire.specs.Events.{Event}
use Rattle.wire.specs.Grammar.{IsMessage}
use Rattle.wire.specs.declared.message.Message.{Message}
use Rattle.wire.specs.declared.message.Message.TheVariants as message
use Rattle.wire.specs.declared.references.ParentReference.{ParentReference}
use Rattle.wire.specs.declared.votes.VoteEntry.{VoteEntry}
use Rattle.header.specs.Checks.{Accepts, named_weight, fault_of}

-- a member is the author of one of the parents
abbrev pub is_parent : List ParentReference → ℕ → Bool
is_parent parents member = list_any (λ parent. parent.author.0 == member) parents

-- a member is the voter of one of the votes
abbrev pub is_voter : List VoteEntry → ℕ → Bool
is_voter votes member = list_any (λ vote. vote.voter.0 == member) votes

-- the authors of these parents weigh a quorum
abbrev pub HasParents : Charter → List ParentReference → Type 0
HasParents charter parents = quorum_of charter ≤ weight charter (is_parent parents)

-- the voters of these votes weigh a quorum
abbrev pub HasVotes : Charter → List VoteEntry → Type 0
HasVotes charter votes = quorum_of charter ≤ weight charter (is_voter votes)

-- the authors of a header's parents weigh a quorum; of a certificate, the authors of the parents do, and the voters too
abbrev pub HasQuorums : Charter → Message → Type 0
HasQuorums charter (message.Header header) = HasParents charter header.body.parents
HasQuorums charter (message.Certificate certificate) = HasParents charter certificate.header.parents × HasVotes charter certificate.votes
HasQuorums charter _ = Unit {0}

-- a message within its limits that passes all its tests has parents, and if it is a certificate votes, of a quorum
abbrev pub PassedHaveQuorums : Type 0
PassedHaveQuorums = (charter : Charter) (accepts : Accepts) (event : Event) → IsCharter charter → IsMessage event.message
    → fault_of charter accepts event ≡ None
    → HasQuorums charter event.message

-- weights count parents and votes: what they weigh in the tests is how many they are
pub record AreCounted (charter : Charter) : Type 0 where
  pub parents : (parents : List ParentReference) → sum_by (λ parent. named_weight charter parent.author) parents ≡ length parents
  pub votes : (votes : List VoteEntry) → sum_by (λ vote. named_weight charter vote.voter) votes ≡ length votes

abbrev pub OnesAreCounted : Type 0
OnesAreCounted = (charter : Charter) → All (λ stake. stake ≡ 1) charter.stakes → AreCounted charter
