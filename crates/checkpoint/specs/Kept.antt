-- The checkpoint that is written of what a validator's tables hold.
use Rattle.std.specs.Prelude.{◌≡◌, ◌≢◌, ℕ, IsTrue, List, All, filter, map}
use Rattle.committee.specs.Charter.{numbers}
use Rattle.committee.specs.Sets.{has}
use Rattle.committee.specs.declared.members.TheConstants.{MAX_MEMBERS}
use Rattle.committee.specs.declared.sets.MemberSet.{MemberSet}
use Rattle.wire.specs.References.{votes_rise}
use Rattle.batchstore.specs.declared.held.Held.{Held}
use Rattle.votebook.specs.declared.slot.Slot.{Slot}
use Rattle.spec_model.specs.Nodes.{Node}
use Rattle.spec_model.specs.States.{State}
use Rattle.spec_model.specs.Words.{Certificate, Digest}
use Rattle.spec_checkpoint.specs.Data.{KeptBatch, KeptVote, KeptHeader, Checkpoint, IsWritten}
use Rattle.spec_checkpoint.specs.Meaning.{state_in}
use Rattle.admission.specs.Kept.{IsKeptOf}
use Rattle.admission.specs.declared.kept.Kept.{Kept}
use Rattle.admission.specs.declared.kept.VotedHeader.{VotedHeader}

-- the members of a set below a number, sorted by number
unfoldable pub members_below : MemberSet → ℕ → List ℕ
members_below set count = filter (has set) (numbers count)

-- the members of a set, sorted by number
abbrev pub members_in : MemberSet → List ℕ
members_in set = members_below set MAX_MEMBERS

-- what a checkpoint has of a batch; the batch's digest isn't written, since it can be computed
abbrev pub keep_of : Held → KeptBatch
keep_of held = record { named = held.named; members = members_in held.acknowledged; batch = held.batch }

abbrev pub batch_of : Digest × Held → KeptBatch
batch_of entry = keep_of entry.1

-- what a checkpoint has of the node's vote for another member's header: the header's slot and digest
abbrev pub vote_of : Slot × Digest → KeptVote
vote_of entry = record { author = entry.0.author; round = entry.0.round; header = entry.1 }

-- what a checkpoint has of an own header: the header with the other members' votes. The node's own vote isn't written, since the node can
-- sign it again
abbrev pub header_of : VotedHeader → KeptHeader
header_of voted = record { header = voted.header; votes = voted.votes.items }

-- what a checkpoint has of a certificate; the certificate's digest isn't written, since it can be computed
abbrev pub certificate_of : Certificate × Digest → Certificate
certificate_of entry = entry.0

abbrev pub checkpoint_of : Kept → Checkpoint
checkpoint_of kept = record {
  order = kept.order.items;
  batches = map batch_of kept.batches.items;
  votes = map vote_of kept.votes.items;
  headers = map header_of kept.headers.items;
  certificates = map certificate_of kept.certificates.items;
  coins = kept.coins;
}

-- the votes kept with an own header, beside the node's own, are other members': they are sorted by voter, and no voter occurs twice
pub record AreOfOthers (own : ℕ) (voted : VotedHeader) : Type 0 where
  pub rise : IsTrue (votes_rise voted.votes.items)
  pub others : All (λ entry. entry.voter.0 ≢ own) voted.votes.items

-- ---- laws

-- the checkpoint that is made of the parts of a sound state is one that a node may write, and it is read back as the same state
abbrev pub CheckpointIsState : Type 0
CheckpointIsState = (node : Node) (state : State) (kept : Kept) → IsKeptOf node state kept → All (AreOfOthers node.own.0) kept.headers.items
    → IsWritten node (checkpoint_of kept) × (state_in node (checkpoint_of kept) ≡ state)
