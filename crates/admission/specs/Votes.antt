-- When a book of votes agrees with the votes for others that a state has.
use Rattle.std.specs.Prelude.{◌≡◌, ◌≢◌, ℕ, not, Bool, false, None}
use Rattle.std.specs.FinMap as map
use Rattle.wire.specs.declared.message.Message.TheVariants as message
use Rattle.spec_model.specs.Admitting.{is_own}
use Rattle.spec_model.specs.Nodes.{Node}
use Rattle.spec_model.specs.Slots.{header_digest}
use Rattle.spec_model.specs.States.{State}
use Rattle.spec_model.specs.Words.{Author, HeaderBody, Message}
use Rattle.votebook.specs.Slot.{slot_of}
use Rattle.votebook.specs.Votes.{Votes, voted_in}

-- the book has the state's votes in all slots of other members. In the node's own slots it has none: there an own header stands for the
-- vote
pub record HasVotes (node : Node) (state : State) (votes : Votes) : Type 0 where
  pub others : (author : Author) (round : ℕ) → author.0 ≢ node.own.0 → voted_in votes author round ≡ state.votes round author.0
  pub own : (author : Author) (round : ℕ) → author.0 ≡ node.own.0 → voted_in votes author round ≡ None

-- the book to which the vote for this header is added
abbrev pub with_vote : Votes → HeaderBody → Votes
with_vote votes header = map.insert votes (slot_of header.author header.round) (header_digest header)

-- the message is a header of another member
abbrev pub is_peers_header : Node → Message → Bool
is_peers_header node (message.Header header) = not (is_own node header.body.author)
is_peers_header node _ = false
