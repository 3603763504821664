-- Which values are proper messages, and which bytes encode them.
use Rattle.std.specs.Prelude.{◌≡◌, ℕ, ◌<◌, ◌^◌, List}
use Rattle.wire.specs.declared.header.HeaderBody.{HeaderBody}
use Rattle.wire.specs.declared.header.Header.{Header}
use Rattle.wire.specs.declared.header.Vote.{Vote}
use Rattle.wire.specs.declared.header.Certificate.{Certificate}
use Rattle.wire.specs.declared.message.BatchAck.{BatchAck}
use Rattle.wire.specs.declared.message.Coin.{Coin}
use Rattle.wire.specs.declared.message.Message.{Message}
use Rattle.wire.specs.declared.message.Message.TheVariants as message
use Rattle.wire.specs.Fields.{IsAuthor, IsDigest, IsSignature, IsRound, IsWave}
use Rattle.wire.specs.Batches.{IsBatch}
use Rattle.wire.specs.References.{AreBatches, AreParents, AreVotes}
use Rattle.wire.specs.Encoding.{encoding}

-- a proper acknowledgement names a member, and the digest of a batch
pub record IsAck (a : BatchAck) : Type 0 where
  pub author : IsAuthor a.author
  pub batch : IsDigest a.batch

-- a proper header body has an author, a round, and lists of batches and parents that are within their limits and sorted
pub record IsHeaderBody (h : HeaderBody) : Type 0 where
  pub author : IsAuthor h.author
  pub round : IsRound h.round
  pub batches : AreBatches h.batches
  pub parents : AreParents h.parents

-- a proper header has a proper body, and a signature of 64 bytes
pub record IsHeader (h : Header) : Type 0 where
  pub body : IsHeaderBody h.body
  pub signature : IsSignature h.signature

-- a proper vote has a header's digest, round and author, a voter, and a signature of 64 bytes
pub record IsVote (v : Vote) : Type 0 where
  pub header : IsDigest v.header
  pub round : IsRound v.round
  pub author : IsAuthor v.author
  pub voter : IsAuthor v.voter
  pub signature : IsSignature v.signature

-- a proper certificate has a proper header body, and a list of votes that is within its limit and sorted
pub record IsCertificate (c : Certificate) : Type 0 where
  pub header : IsHeaderBody c.header
  pub votes : AreVotes c.votes

-- a proper coin has a wave, and a value of eight bytes
pub record IsCoin (c : Coin) : Type 0 where
  pub wave : IsWave c.wave
  pub value : c.value < 2 ^ 64

-- a proper message of each kind
abbrev pub IsMessage : Message → Type 0
IsMessage (message.Batch b) = IsBatch b
IsMessage (message.BatchAck a) = IsAck a
IsMessage (message.Header h) = IsHeader h
IsMessage (message.Vote v) = IsVote v
IsMessage (message.Certificate c) = IsCertificate c
IsMessage (message.Coin c) = IsCoin c

-- the value is a proper message, and these bytes are its one encoding
abbrev pub Spells : Message → List ℕ → Type 0
Spells m bytes = IsMessage m × (bytes ≡ encoding m)
