-- The signatures of a message of which no test fails are good.
use Rattle.std.proofs.Common.{◌≡◌, true, List, [], ◌∷◌, ◌++◌, length, None}
use Rattle.std.specs.Prelude.{◌==◌, nat_le, sum_by, All}
use Rattle.std.specs.List.{list_all}
use Rattle.std.proofs.lemmas.List.Sums.{AllPass-from_list_all}
use Rattle.committee.specs.Charter.{Charter, quorum_of}
use Rattle.wire.specs.Digests.{header_digest_of}
use Rattle.wire.specs.declared.header.HeaderBody.{HeaderBody}
use Rattle.wire.specs.declared.keys.Author.{Author}
use Rattle.wire.specs.declared.keys.Digest.{Digest}
use Rattle.wire.specs.declared.message.Message.{Message}
use Rattle.wire.specs.declared.message.Message.TheVariants as message
use Rattle.wire.specs.declared.references.BatchReference.{BatchReference}
use Rattle.wire.specs.declared.references.ParentReference.{ParentReference}
use Rattle.wire.specs.declared.votes.VoteEntry.{VoteEntry}
use Rattle.header.specs.Checks.{Test, test, first_failing, Accepts, is_member, named_weight, is_worker, is_signed, body_tests, votes_tests, message_tests, vote_signed, header_signed}
use Rattle.header.specs.Signatures.{AreSigned}
use Rattle.header.specs.declared.error.CheckError.TheVariants.{UnknownAuthor, BadSignature}
use Rattle.header.proofs.Passing.{passes}

-- what stands after the tests of a body that passed passes too
after_body : (charter : Charter) (body : HeaderBody) (rest : List Test) → first_failing (body_tests charter body ++ rest) ≡ None → first_failing rest ≡ None
after_body charter body rest none =
    let weighed = passes (nat_le (quorum_of charter) (sum_by (λ (p : ParentReference). named_weight charter p.author) body.parents)) _ _ none in
    let few = passes (nat_le (length body.parents) (length charter.keys)) _ _ weighed.1 in
    let members = passes (list_all (λ (p : ParentReference). is_member charter p.author) body.parents) _ _ few.1 in
    (passes (list_all (λ (b : BatchReference). is_worker charter b.worker) body.batches) _ _ members.1).1

-- each vote of a certificate that passed is signed
votes_signed : (charter : Charter) (accepts : Accepts) (digest : Digest) (votes : List VoteEntry) → first_failing (votes_tests charter accepts digest votes) ≡ None
    → All (λ (v : VoteEntry). is_signed charter accepts v.voter digest v.signature ≡ true) votes
votes_signed charter accepts digest votes none =
    let weighed = passes (nat_le (quorum_of charter) (sum_by (λ (v : VoteEntry). named_weight charter v.voter) votes)) _ _ none in
    let members = passes (list_all (λ (v : VoteEntry). is_member charter v.voter) votes) _ _ weighed.1 in
    let signed = passes (list_all (λ (v : VoteEntry). is_signed charter accepts v.voter digest v.signature) votes) _ _ members.1 in
    AllPass-from_list_all (λ (v : VoteEntry). is_signed charter accepts v.voter digest v.signature) votes signed.0

-- by the kind of the message
pub message_signed : (charter : Charter) (accepts : Accepts) (sender : Author) (m : Message)
    → first_failing (test (is_member charter sender) UnknownAuthor ∷ message_tests charter accepts sender m) ≡ None → AreSigned charter accepts m
message_signed charter accepts sender (message.Header header) none =
    let by = passes (is_member charter sender) _ _ none in
    let author = passes (is_member charter header.body.author) _ _ by.1 in
    let own = passes (header.body.author.0 == sender.0) _ _ author.1 in
    let signed = is_signed charter accepts header.body.author (header_signed header.body) header.signature in
    (passes signed _ _ (after_body charter header.body (test signed BadSignature ∷ []) own.1)).0
message_signed charter accepts sender (message.Vote vote) none =
    let by = passes (is_member charter sender) _ _ none in
    let author = passes (is_member charter vote.author) _ _ by.1 in
    let voter = passes (is_member charter vote.voter) _ _ author.1 in
    let own = passes (vote.voter.0 == sender.0) _ _ voter.1 in
    (passes (is_signed charter accepts vote.voter (vote_signed vote.header.0 vote.round vote.author) vote.signature) _ _ own.1).0
message_signed charter accepts sender (message.Certificate certificate) none =
    let by = passes (is_member charter sender) _ _ none in
    let author = passes (is_member charter certificate.header.author) _ _ by.1 in
    let signed = vote_signed (header_digest_of certificate.header) certificate.header.round certificate.header.author in
    votes_signed charter accepts signed certificate.votes
    (after_body charter certificate.header (votes_tests charter accepts signed certificate.votes) author.1)
message_signed charter accepts sender (message.Batch batch) none = tt
message_signed charter accepts sender (message.BatchAck ack) none = tt
message_signed charter accepts sender (message.Coin coin) none = tt
