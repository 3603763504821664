-- The tests that an incoming message has to pass, in their order, each with its refusal.
use Rattle.std.specs.Prelude.{◌≡◌, Bool, true, false, ◌==◌, nat_lt, nat_le, ℕ, List, [], ◌∷◌, ◌++◌, length, Option, Some, None, unwrap_or, slice_get, sum_by, if◌then◌else◌}
use Rattle.std.specs.List.{list_all}
use Rattle.std.specs.Option.{option_map_or}
use Rattle.committee.specs.Charter.{Charter, IsCharter, quorum_of}
use Rattle.wire.specs.Batches.{BatchView}
use Rattle.wire.specs.Digests.{header_digest_of, certificate_digest_of}
use Rattle.wire.specs.Events.{Event}
use Rattle.wire.specs.declared.header.Certificate.{Certificate}
use Rattle.wire.specs.declared.header.Header.{Header}
use Rattle.wire.specs.declared.header.HeaderBody.{HeaderBody}
use Rattle.wire.specs.declared.header.Vote.{Vote}
use Rattle.wire.specs.declared.keys.Author.{Author}
use Rattle.wire.specs.declared.keys.Digest.{Digest}
use Rattle.wire.specs.declared.keys.Key.{Key}
use Rattle.wire.specs.declared.keys.Signature.{Signature}
use Rattle.wire.specs.declared.message.BatchAck.{BatchAck}
use Rattle.wire.specs.declared.message.Message.{Message}
use Rattle.wire.specs.declared.message.Message.TheVariants as message
use Rattle.wire.specs.declared.votes.VoteEntry.{VoteEntry}
use Rattle.header.specs.declared.error.CheckError.{CheckError}
use Rattle.header.specs.declared.error.CheckError.TheVariants.{UnknownAuthor, BadSender, BadSignature, TooFewParents, TooManyParents, TooFewVotes, UnknownWorker}

-- a test: whether it holds, and the refusal otherwise
pub record Test : Type 0 where
  pub holds : Bool
  pub otherwise : CheckError

-- a test, in the short form in which the tables below write it
abbrev pub test : Bool → CheckError → Test
test holds otherwise = record { holds = holds; otherwise = otherwise }

-- the refusal of the first test that fails
abbrev pub first_failing : List Test → Option CheckError
first_failing [] = None
first_failing (t ∷ rest) = if t.holds then first_failing rest else Some t.otherwise

-- a verifier of signatures, as contracts see it: whether a signature of a digest is good for a key
abbrev pub Accepts : Type 0
Accepts = Key → Digest → Signature → Bool

-- the verifier that finds every signature good
abbrev pub accepts_all : Accepts
accepts_all key digest signature = true

-- this number is that of a member of the committee
abbrev pub is_member : Charter → Author → Bool
is_member charter author = nat_lt author.0 (length charter.keys)

-- what an author weighs in the tests of parents and votes: a member its stake, anybody else 1, since membership is tested later
abbrev pub named_weight : Charter → Author → ℕ
named_weight charter author = unwrap_or (slice_get charter.stakes author.0) 1

-- this number is that of a worker
abbrev pub is_worker : Charter → ℕ → Bool
is_worker charter worker = nat_lt worker charter.workers

-- the signer is a member, and the signature of the digest is good for its key
abbrev pub is_signed : Charter → Accepts → Author → Digest → Signature → Bool
is_signed charter accepts signer digest signature =
    option_map_or (λ key. accepts key digest signature) (slice_get charter.keys signer.0) false

-- the digest that the author of a header signs
abbrev pub header_signed : HeaderBody → Digest
header_signed body = record { 0 = header_digest_of body }

-- the digest that voters sign for a header, given the header's digest, round and author: that of its certificate
abbrev pub vote_signed : List ℕ → ℕ → Author → Digest
vote_signed header round author = record { 0 = certificate_digest_of header round author.0 }

-- the tests of a header's body, which headers and certificates have in common
abbrev pub body_tests : Charter → HeaderBody → List Test
body_tests charter body =
    test (nat_le (quorum_of charter) (sum_by (λ parent. named_weight charter parent.author) body.parents)) TooFewParents
    ∷ test (nat_le (length body.parents) (length charter.keys)) TooManyParents
    ∷ test (list_all (λ parent. is_member charter parent.author) body.parents) UnknownAuthor
    ∷ test (list_all (λ batch. is_worker charter batch.worker) body.batches) UnknownWorker
    ∷ []

-- the tests of a batch, whose sender has to be its author
abbrev pub batch_tests : Charter → Author → BatchView → List Test
batch_tests charter sender batch =
    test (is_member charter batch.author) UnknownAuthor
    ∷ test (batch.author.0 == sender.0) BadSender
    ∷ test (is_worker charter batch.worker) UnknownWorker
    ∷ []

-- the tests of an acknowledgement, whose sender has to be the member that acknowledges
abbrev pub ack_tests : Author → BatchAck → List Test
ack_tests sender ack = test (ack.author.0 == sender.0) BadSender ∷ []

-- the tests of a header, whose sender has to be its author
abbrev pub header_tests : Charter → Accepts → Author → Header → List Test
header_tests charter accepts sender header =
    test (is_member charter header.body.author) UnknownAuthor
    ∷ test (header.body.author.0 == sender.0) BadSender
    ∷ body_tests charter header.body
    ++ test (is_signed charter accepts header.body.author (header_signed header.body) header.signature) BadSignature
    ∷ []

-- the tests of a vote, whose sender has to be its voter
abbrev pub vote_tests : Charter → Accepts → Author → Vote → List Test
vote_tests charter accepts sender vote =
    test (is_member charter vote.author) UnknownAuthor
    ∷ test (is_member charter vote.voter) UnknownAuthor
    ∷ test (vote.voter.0 == sender.0) BadSender
    ∷ test (is_signed charter accepts vote.voter (vote_signed vote.header.0 vote.round vote.author) vote.signature) BadSignature
    ∷ []

-- the tests of a certificate's votes, which all sign the same digest. That all voters are members is tested before any signature
abbrev pub votes_tests : Charter → Accepts → Digest → List VoteEntry → List Test
votes_tests charter accepts digest votes =
    test (nat_le (quorum_of charter) (sum_by (λ vote. named_weight charter vote.voter) votes)) TooFewVotes
    ∷ test (list_all (λ vote. is_member charter vote.voter) votes) UnknownAuthor
    ∷ test (list_all (λ vote. is_signed charter accepts vote.voter digest vote.signature) votes) BadSignature
    ∷ []

-- the tests of a certificate, which any member may send
abbrev pub certificate_tests : Charter → Accepts → Certificate → List Test
certificate_tests charter accepts certificate =
    test (is_member charter certificate.header.author) UnknownAuthor
    ∷ body_tests charter certificate.header
    ++ votes_tests charter accepts (vote_signed (header_digest_of certificate.header) certificate.header.round certificate.header.author) certificate.votes

-- the tests of a message after that of its sender's membership, by the kind of the message
abbrev pub message_tests : Charter → Accepts → Author → Message → List Test
message_tests charter accepts sender (message.Batch batch) = batch_tests charter sender batch
message_tests charter accepts sender (message.BatchAck ack) = ack_tests sender ack
message_tests charter accepts sender (message.Header header) = header_tests charter accepts sender header
message_tests charter accepts sender (message.Vote vote) = vote_tests charter accepts sender vote
message_tests charter accepts sender (message.Certificate certificate) = certificate_tests charter accepts certificate
message_tests charter accepts sender (message.Coin coin) = []

-- all tests of a message that came from this sender
abbrev pub tests_of : Charter → Accepts → Event → List Test
tests_of charter accepts event =
    test (is_member charter event.sender) UnknownAuthor ∷ message_tests charter accepts event.sender event.message

-- the refusal of a message that came from this sender; None if it passes all tests
abbrev pub fault_of : Charter → Accepts → Event → Option CheckError
fault_of charter accepts event = first_failing (tests_of charter accepts event)

-- a message passed the tests of some committee, except those of signatures
pub record HasPassed (event : Event) : Type 0 where
  pub charter : Charter
  pub committee : IsCharter charter
  pub passed : fault_of charter accepts_all event ≡ None
