-- Sound states: those from which a node can go on, whoever wrote them down.
use Rattle.std.specs.Prelude.{◌≡◌, ◌≢◌, ◌<◌, ◌≤◌, ◌↔◌, ◌⊎◌, ◌^◌, ℕ, ◌==◌, ◌&&◌, not, Bool, true, false, [], length, All, AllPairs, Some, None, is_some, option_map}
use Rattle.wire.specs.Fields.{IsDigest, IsRound, IsSignature}
use Rattle.wire.specs.declared.message.Message.TheVariants as message
use Rattle.committee.specs.Charter.{weight}
use Rattle.spec_model.specs.Admitting.{IsTaken}
use Rattle.spec_model.specs.Holdings.{batch_digest, is_vote_on, own_vote, genesis, is_low, all_held}
use Rattle.spec_model.specs.Nodes.{Node, size_of, quorum}
use Rattle.spec_model.specs.Ordering.{top}
use Rattle.spec_model.specs.Slots.{same_digest, header_digest, is_of_slot}
use Rattle.spec_model.specs.States.{State, has_own_batch, ledger_in, floor_in}
use Rattle.spec_model.specs.Words.{Certificate, Digest, Header, Vote}

-- The batches of a sound state. Each passes the checks as one from its author; no digest occurs twice; there are no more than the committee
-- allows. Only own batches are named or have acknowledgements, which are of other members.
pub record AreBatches (node : Node) (state : State) : Type 0 where
  pub passed : All (λ batch. IsTaken node (record { sender = batch.author; message = message.Batch batch })) state.batches
  pub distinct : AllPairs (λ one other. same_digest (batch_digest one) (batch_digest other) ≡ false) state.batches
  pub few : length state.batches ≤ node.charter.batches
  pub acked : (digest : Digest) (member : ℕ) → state.acked digest member ≡ true → has_own_batch node state digest ≡ true
  pub by_members : (digest : Digest) (member : ℕ) → state.acked digest member ≡ true → (member < size_of node) × (member ≢ node.own.0)
  pub named : (digest : Digest) → state.named digest ≡ true → has_own_batch node state digest ≡ true

-- A header of a sound state is the node's own, of a round that isn't low. It passes the checks, its parents are held, and the node's own
-- vote on it counts
pub record IsOwnHeader (node : Node) (state : State) (round : ℕ) (header : Header) : Type 0 where
  pub place : is_of_slot round node.own.0 header.body ≡ true
  pub passed : IsTaken node (record { sender = node.own; message = message.Header header })
  pub high : is_low (floor_in node state) round ≡ false
  pub held : all_held state.slots (floor_in node state) header.body ≡ true
  pub voted : state.counted round node.own.0 ≡ Some (own_vote node header.body)

-- a vote that counts in a sound state is a member's vote on the own header of its round
pub record IsCounted (node : Node) (state : State) (round voter : ℕ) (vote : Vote) : Type 0 where
  pub header : Header
  pub held : state.own_headers round ≡ Some header
  pub on : is_vote_on header.body voter vote ≡ true
  pub member : voter < size_of node
  pub signature : IsSignature vote.signature

-- this member has a vote that counts in this round
abbrev pub counts : State → ℕ → ℕ → Bool
counts state round voter = is_some (state.counted round voter)

-- One of the votes completed the certificate of an own header: the certificate is there, and without that vote the others weigh less than a
-- quorum.
pub record IsCompleted (node : Node) (state : State) (round : ℕ) (header : Header) : Type 0 where
  pub certificate : Certificate
  pub held : state.slots round node.own.0 ≡ Some certificate
  pub of : certificate.header ≡ header.body
  pub last : ℕ
  pub other : last ≢ node.own.0
  pub counted : counts state round last ≡ true
  pub short : weight node.charter (λ voter. counts state round voter && not (voter == last)) < quorum node

-- The votes of a sound state. The node's votes are for members, in rounds that aren't low; its vote for itself is for its own header. Own
-- headers and the votes on them are well formed; and if these votes weigh a quorum, one of them has completed the certificate.
pub record AreVotes (node : Node) (state : State) : Type 0 where
  pub high : (round author : ℕ) (digest : Digest) → state.votes round author ≡ Some digest → is_low (floor_in node state) round ≡ false
  pub for_members : (round author : ℕ) (digest : Digest) → state.votes round author ≡ Some digest → author < size_of node
  pub digests : (round author : ℕ) (digest : Digest) → state.votes round author ≡ Some digest → IsDigest digest
  pub rounds : (round author : ℕ) (digest : Digest) → state.votes round author ≡ Some digest → IsRound round
  pub own : (round : ℕ) → state.votes round node.own.0 ≡ option_map (λ header. header_digest header.body) (state.own_headers round)
  pub headers : (round : ℕ) (header : Header) → state.own_headers round ≡ Some header → IsOwnHeader node state round header
  pub counted : (round voter : ℕ) (vote : Vote) → state.counted round voter ≡ Some vote → IsCounted node state round voter vote
  pub complete : (round : ℕ) (header : Header) → state.own_headers round ≡ Some header
      → quorum node ≤ weight node.charter (counts state round) → IsCompleted node state round header

-- a certificate of a round above 0 in a sound state passes the checks, and its parents are held
pub record IsReceived (node : Node) (state : State) (certificate : Certificate) : Type 0 where
  pub above : 0 < certificate.header.round
  pub passed : IsTaken node (record { sender = node.own; message = message.Certificate certificate })
  pub held : all_held state.slots (floor_in node state) certificate.header ≡ true

-- The certificates of a sound state. Each stands at its round and author, at or above the floor; those above round 0 pass the checks. At
-- floor 0 all genesis certificates are there. The greatest round is that of some certificate
pub record AreCertificates (node : Node) (state : State) : Type 0 where
  pub placed : (round author : ℕ) (c : Certificate) → state.slots round author ≡ Some c → is_of_slot round author c.header ≡ true
  pub above : (round author : ℕ) (c : Certificate) → state.slots round author ≡ Some c → floor_in node state ≤ round
  pub passed : (round author : ℕ) (c : Certificate) → state.slots round author ≡ Some c → (c ≡ genesis author) ⊎ IsReceived node state c
  pub of_members : (round author : ℕ) (c : Certificate) → state.slots round author ≡ Some c → author < size_of node
  pub genesis : floor_in node state ≡ 0 → (author : ℕ) → author < size_of node → state.slots 0 author ≡ Some (genesis author)
  pub highest : (round author : ℕ) (c : Certificate) → state.slots round author ≡ Some c → round ≤ state.highest
  pub reached : (author : ℕ) × (c : Certificate) × (state.slots state.highest author ≡ Some c)

-- a state is sound: batches, votes and certificates are as above; coins fit 64 bits; the order has digests, and has none if and only if no
-- leader is committed
pub record IsSound (node : Node) (state : State) : Type 0 where
  pub batches : AreBatches node state
  pub votes : AreVotes node state
  pub certificates : AreCertificates node state
  pub coins : All (λ coin. coin < 2 ^ 64) state.coins
  pub ordered : All IsDigest state.order
  pub order : (state.order ≡ []) ↔ (top (ledger_in node state) ≡ None)
