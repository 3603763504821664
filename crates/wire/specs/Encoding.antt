-- The one encoding of each message in bytes. Numbers are big-endian.
use Rattle.std.specs.Prelude.{ℕ, ◌+◌, ◌*◌, List, ◌∷◌, ◌++◌, length}
use Rattle.std.specs.List.{flat_map}
use Rattle.std.specs.Int.{w16, w64, to_be_bytes}
use Rattle.wire.specs.declared.header.HeaderBody.{HeaderBody}
use Rattle.wire.specs.declared.header.Header.{Header}
use Rattle.wire.specs.declared.header.Vote.{Vote}
use Rattle.wire.specs.declared.header.Certificate.{Certificate}
use Rattle.wire.specs.declared.message.BatchAck.{BatchAck}
use Rattle.wire.specs.declared.message.Coin.{Coin}
use Rattle.wire.specs.declared.message.Message.{Message}
use Rattle.wire.specs.declared.message.Message.TheVariants as message
use Rattle.wire.specs.declared.references.BatchReference.{BatchReference}
use Rattle.wire.specs.declared.references.ParentReference.{ParentReference}
use Rattle.wire.specs.declared.votes.VoteEntry.{VoteEntry}
use Rattle.wire.specs.Batches.{batch_body, body_len}

-- the bytes of an acknowledgement: who acknowledges, and the batch's digest
abbrev pub ack_bytes : BatchAck → List ℕ
ack_bytes a = to_be_bytes w16 a.author.0 ++ a.batch.0

-- the bytes of a batch that a header names: its digest, and its worker
abbrev pub batch_reference_bytes : BatchReference → List ℕ
batch_reference_bytes b = b.digest.0 ++ to_be_bytes w16 b.worker

-- the bytes of a parent that a header names: its author, and the certificate's digest
abbrev pub parent_reference_bytes : ParentReference → List ℕ
parent_reference_bytes p = to_be_bytes w16 p.author.0 ++ p.certificate.0

-- the bytes of a vote in a certificate: the voter, and the signature
abbrev pub vote_entry_bytes : VoteEntry → List ℕ
vote_entry_bytes v = to_be_bytes w16 v.voter.0 ++ v.signature.0

-- the bytes of the batches that a header names: how many they are, and each of them
abbrev pub batches_bytes : List BatchReference → List ℕ
batches_bytes batches = to_be_bytes w16 (length batches) ++ flat_map batch_reference_bytes batches

-- the bytes of the parents that a header names: how many they are, and each of them
abbrev pub parents_bytes : List ParentReference → List ℕ
parents_bytes parents = to_be_bytes w16 (length parents) ++ flat_map parent_reference_bytes parents

-- the bytes of the votes of a certificate: how many they are, and each of them
abbrev pub votes_bytes : List VoteEntry → List ℕ
votes_bytes votes = to_be_bytes w16 (length votes) ++ flat_map vote_entry_bytes votes

-- the bytes of a header's body, given its parts: author, round, batches, parents
abbrev pub body_bytes : ℕ → ℕ → List BatchReference → List ParentReference → List ℕ
body_bytes author round batches parents =
    to_be_bytes w16 author ++ to_be_bytes w64 round ++ batches_bytes batches ++ parents_bytes parents

-- the bytes of a header's body
abbrev pub header_body : HeaderBody → List ℕ
header_body h = body_bytes h.author.0 h.round h.batches h.parents

-- the bytes of a header: its body, and the author's signature
abbrev pub header_bytes : Header → List ℕ
header_bytes h = header_body h.body ++ h.signature.0

-- the bytes of a vote: the header's digest, round and author, the voter, and the signature
abbrev pub vote_bytes : Vote → List ℕ
vote_bytes v =
    v.header.0 ++ to_be_bytes w64 v.round ++ to_be_bytes w16 v.author.0 ++ to_be_bytes w16 v.voter.0
    ++ v.signature.0

-- the bytes of a certificate: the body of its header, and the votes
abbrev pub certificate_bytes : Certificate → List ℕ
certificate_bytes c = header_body c.header ++ votes_bytes c.votes

-- the bytes of a coin: its wave, and its value
abbrev pub coin_bytes : Coin → List ℕ
coin_bytes c = to_be_bytes w64 c.wave ++ to_be_bytes w64 c.value

-- the bytes of a message: the tag of its kind, and then its content
abbrev pub encoding : Message → List ℕ
encoding (message.Batch b) = 1 ∷ batch_body b
encoding (message.BatchAck a) = 2 ∷ ack_bytes a
encoding (message.Header h) = 3 ∷ header_bytes h
encoding (message.Vote v) = 4 ∷ vote_bytes v
encoding (message.Certificate c) = 5 ∷ certificate_bytes c
encoding (message.Coin c) = 6 ∷ coin_bytes c

-- how many bytes the body of a header takes
abbrev pub header_body_len : HeaderBody → ℕ
header_body_len h = 14 + 34 * (length h.batches + length h.parents)

-- how many bytes a message takes, its tag included
abbrev pub length_of : Message → ℕ
length_of (message.Batch b) = 1 + body_len b.transactions
length_of (message.BatchAck a) = 35
length_of (message.Header h) = 1 + (header_body_len h.body + 64)
length_of (message.Vote v) = 109
length_of (message.Certificate c) = 1 + (header_body_len c.header + (2 + 66 * length c.votes))
length_of (message.Coin c) = 17
