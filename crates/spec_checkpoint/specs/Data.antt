-- What a checkpoint holds: the state of a node as plain data, in the order of the checkpoint's records.
use Rattle.std.specs.Prelude.{◌≢◌, ◌<◌, ◌^◌, ℕ, ◌==◌, ◌&&◌, ◌||◌, nat_lt, Bool, IsTrue, List, [], length, All}
use Rattle.wire.specs.Batches.{IsBatch}
use Rattle.wire.specs.Fields.{IsNumber, IsDigest, IsRound}
use Rattle.wire.specs.Grammar.{IsHeader, IsCertificate}
use Rattle.wire.specs.References.{AreVotes}
use Rattle.wire.specs.Rising.{rises}
use Rattle.spec_model.specs.Nodes.{Node}
use Rattle.spec_model.specs.Words.{BatchView, Certificate, Digest, Header, VoteEntry}

-- a batch in a checkpoint: whether an own header names it, and which other members acknowledged it, sorted by number
pub record KeptBatch : Type 0 where
  pub named : Bool
  pub members : List ℕ
  pub batch : BatchView

-- a vote in a checkpoint: the author and round of another member's header, and the digest that the node voted for
pub record KeptVote : Type 0 where
  pub author : ℕ
  pub round : ℕ
  pub header : Digest

-- an own header in a checkpoint, and the votes of other members on it that count, sorted by voter
pub record KeptHeader : Type 0 where
  pub header : Header
  pub votes : List VoteEntry

-- A checkpoint. Batches are in the order in which they were accepted; votes and certificates are sorted by round and then by author, and
-- own headers by round. Genesis certificates are not in it.
pub record Checkpoint : Type 0 where
  pub order : List Digest
  pub batches : List KeptBatch
  pub votes : List KeptVote
  pub headers : List KeptHeader
  pub certificates : List Certificate
  pub coins : List ℕ

-- the checkpoint of a node that has taken no event
abbrev pub blank : Checkpoint
blank = record { order = []; batches = []; votes = []; headers = []; certificates = []; coins = [] }

-- ---- the checkpoints that a node writes

-- one place in a list that is sorted by round and then by author comes before another
abbrev pub place_before : ℕ → ℕ → ℕ → ℕ → Bool
place_before round author other_round other_author = nat_lt round other_round || ((round == other_round) && nat_lt author other_author)

-- A batch as a node writes it: the members who acknowledged it are others than the node, sorted by number, none twice; their number fits
-- two bytes
pub record IsKeptBatch (node : Node) (kept : KeptBatch) : Type 0 where
  pub few : IsNumber (length kept.members)
  pub each : All IsNumber kept.members
  pub rise : IsTrue (rises (λ one other. nat_lt one other) kept.members)
  pub others : All (λ member. member ≢ node.own.0) kept.members
  pub batch : IsBatch kept.batch

pub record IsKeptVote (kept : KeptVote) : Type 0 where
  pub author : IsNumber kept.author
  pub round : IsRound kept.round
  pub header : IsDigest kept.header

-- an own header as a node writes it: the votes on it are those of other members
pub record IsKeptHeader (node : Node) (kept : KeptHeader) : Type 0 where
  pub header : IsHeader kept.header
  pub votes : AreVotes kept.votes
  pub others : All (λ entry. entry.voter.0 ≢ node.own.0) kept.votes

-- a certificate as a node writes it: its round is above 0
pub record IsKeptCertificate (kept : Certificate) : Type 0 where
  pub certificate : IsCertificate kept
  pub above : 0 < kept.header.round

-- A checkpoint is canonical: each field fits its width, each part of a message its limits, and every sorted list is strictly ascending. So
-- a state has only one checkpoint.
pub record IsCanonical (node : Node) (checkpoint : Checkpoint) : Type 0 where
  pub order : All IsDigest checkpoint.order
  pub batches : All (IsKeptBatch node) checkpoint.batches
  pub votes : All IsKeptVote checkpoint.votes
  pub votes_rise : IsTrue (rises (λ one other. place_before one.round one.author other.round other.author) checkpoint.votes)
  pub headers : All (IsKeptHeader node) checkpoint.headers
  pub headers_rise : IsTrue (rises (λ one other. nat_lt one.header.body.round other.header.body.round) checkpoint.headers)
  pub certificates : All IsKeptCertificate checkpoint.certificates
  pub certificates_rise : IsTrue (rises (λ one other. place_before one.header.round one.header.author.0 other.header.round other.header.author.0) checkpoint.certificates)
  pub coins : All (λ coin. coin < 2 ^ 64) checkpoint.coins

-- a checkpoint as a node writes it: it is canonical, and its votes are for headers of other members
pub record IsWritten (node : Node) (checkpoint : Checkpoint) : Type 0 where
  pub canonical : IsCanonical node checkpoint
  pub others : All (λ vote. vote.author ≢ node.own.0) checkpoint.votes
