-- The parts from which a validator's tables are restored, and the state that they hold then.
use Rattle.std.specs.Prelude.{◌≡◌, ℕ, ◌<◌, IsTrue, List, All, AllPairs, map, length}
use Rattle.std.specs.FinMap as finmap
use Rattle.std.specs.List.Sorted.{IsStrictlySortedBy}
use Rattle.std.specs.Map.{keys_of, values_of}
use Rattle.committee.specs.Charter.{Charter}
use Rattle.sigface.specs.declared.seed.TableSeed.{TableSeed}
use Rattle.batchstore.specs.Kept.{IsUnderItsDigest}
use Rattle.certify.specs.Assembled.{AssemblyView, is_on, restored}
use Rattle.spec_machine.specs.Sound.{IsSound}
use Rattle.spec_model.specs.Nodes.{Node, IsNode}
use Rattle.spec_model.specs.States.{State}
use Rattle.spec_model.specs.Words.{Author, Header, Vote, VoteEntry}
use Rattle.votebook.specs.Slot.{slot_cmp}
use Rattle.sequencer.specs.Restored.{Parts, ArePartsOf}
use Rattle.admission.specs.Batches.{HasBatches}
use Rattle.admission.specs.Headers.{AssembliesView, assembly_at}
use Rattle.admission.specs.Headers as headers
use Rattle.admission.specs.Votes.{HasVotes}
use Rattle.admission.specs.declared.kept.Kept.{Kept}
use Rattle.admission.specs.declared.kept.VotedHeader.{VotedHeader}

-- ---- own headers

-- the entry of an own header in the table: its round, and its assembly, which is the header with the votes on it
abbrev pub entry_of : Charter → VotedHeader → ℕ × AssemblyView
entry_of charter voted = (voted.header.body.round, restored charter voted.header voted.vote voted.votes.items)

-- the table that is restored from these own headers
abbrev pub table_of : Charter → ℕ → List VotedHeader → AssembliesView
table_of charter own voted = record { charter = charter; own = own; rounds = map (entry_of charter) voted }

-- a header is this member's own, with the member's vote on it, and the other votes are of members
pub record IsVotedBy (charter : Charter) (own : ℕ) (header : Header) (vote : Vote) (votes : List VoteEntry) : Type 0 where
  pub author : header.body.author.0 ≡ own
  pub voter : vote.voter.0 ≡ own
  pub on : IsTrue (is_on header.body vote)
  pub members : All (λ entry. entry.voter.0 < length charter.keys) votes

-- these are own headers of a member, sorted by round
pub record AreVotedBy (charter : Charter) (own : ℕ) (voted : List VotedHeader) : Type 0 where
  pub rising : AllPairs (λ one other. one.header.body.round < other.header.body.round) voted
  pub each : All (λ one. IsVotedBy charter own one.header one.vote one.votes.items) voted

-- two tables of own headers are equal: they have the same committee and owner, and the same assembly in each round
pub record IsSameTable (one other : AssembliesView) : Type 0 where
  pub charter : one.charter ≡ other.charter
  pub own : one.own ≡ other.own
  pub rounds : (round : ℕ) → assembly_at one round ≡ assembly_at other round

-- ---- all tables

-- the parts from which the sequencer is restored: the certificates, the coins and the order
abbrev pub parts_of : Charter → Kept → Parts
parts_of charter kept = record {
  charter = charter;
  floor = kept.floor;
  last = kept.last;
  held = kept.certificates.items;
  coins = kept.coins;
  order = kept.order.items;
}

-- these parts are those of a sound state of the node: its batches, with whatever seed their table hashes; its votes for other members' headers, sorted by slot; the own headers
-- with the votes on them, sorted by round; the certificates, sorted by slot; the coins and the order
pub record IsKeptOf (node : Node) (state : State) (kept : Kept) : Type 0 where
  pub node_is : IsNode node
  pub sound : IsSound node state
  pub digested : All IsUnderItsDigest kept.batches.items
  pub batches : (seed : TableSeed) → HasBatches node state (record { charter = node.charter; own = node.own.0; seed = seed; held = values_of kept.batches.items })
  pub votes_rise : IsStrictlySortedBy slot_cmp (keys_of kept.votes.items)
  pub votes : HasVotes node state (finmap.from_entries kept.votes.items)
  pub voted : AreVotedBy node.charter node.own.0 kept.headers.items
  pub headers : headers.IsAt node state (table_of node.charter node.own.0 kept.headers.items)
  pub parts : ArePartsOf node state (parts_of node.charter kept)

-- these are the parts of some sound state of this member of the committee
abbrev pub IsKept : Charter → Author → Kept → Type 0
IsKept charter own kept =
    (node : Node) × (state : State) × (node.charter ≡ charter) × (node.own ≡ own) × IsKeptOf node state kept
