-- What each test says that a message passed, and the quorums that follow.
use Rattle.std.proofs.Common.{◌≡◌, Bool, true, false, List, [], ◌∷◌, ◌++◌, length, Option, Some, None, refl, arith}
use Rattle.std.specs.Prelude.{◌==◌, nat_le, sum_by, if◌then◌else◌}
use Rattle.std.specs.List.{list_all}
use Rattle.std.proofs.lemmas.Bool.{leb-true}
use Rattle.committee.specs.Charter.{Charter, IsCharter, quorum_of}
use Rattle.wire.specs.Digests.{header_digest_of}
use Rattle.wire.specs.Grammar.{IsMessage}
use Rattle.wire.specs.References.{parents_rise, votes_rise}
use Rattle.wire.specs.declared.header.HeaderBody.{HeaderBody}
use Rattle.wire.specs.declared.keys.Author.{Author}
use Rattle.wire.specs.declared.keys.Digest.{Digest}
use Rattle.wire.specs.declared.message.Message.{Message}
use Rattle.wire.specs.declared.message.Message.TheVariants as message
use Rattle.wire.specs.declared.references.BatchReference.{BatchReference}
use Rattle.wire.specs.declared.references.ParentReference.{ParentReference}
use Rattle.wire.specs.declared.votes.VoteEntry.{VoteEntry}
use Rattle.header.specs.Checks.{Test, test, first_failing, Accepts, is_member, named_weight, is_worker, is_signed, body_tests, votes_tests, message_tests, vote_signed, header_signed}
use Rattle.header.specs.Quorums.{HasParents, HasVotes, HasQuorums}
use Rattle.header.specs.declared.error.CheckError.{CheckError}
use Rattle.header.specs.declared.error.CheckError.TheVariants.{UnknownAuthor, BadSignature}
use Rattle.header.proofs.Naming.{set_weighs}

-- where none fails the first holds, and none after it fails
pub passes : (holds : Bool) (otherwise : CheckError) (rest : Option CheckError) → (if holds then rest else Some otherwise) ≡ None → (holds ≡ true) × (rest ≡ None)
passes true otherwise rest none = (refl, none)
passes false otherwise rest none = absurd cc

-- the parents of a body that passed are by a quorum, and what stands after its tests passes too
body_passes : (charter : Charter) (body : HeaderBody) (rest : List Test) → IsCharter charter → parents_rise body.parents ≡ true → first_failing (body_tests charter body ++ rest) ≡ None
    → HasParents charter body.parents × (first_failing rest ≡ None)
body_passes charter body rest is rise none =
    let weighed = passes (nat_le (quorum_of charter) (sum_by (λ (p : ParentReference). named_weight charter p.author) body.parents)) _ _ none in
    let few = passes (nat_le (length body.parents) (length charter.keys)) _ _ weighed.1 in
    let members = passes (list_all (λ (p : ParentReference). is_member charter p.author) body.parents) _ _ few.1 in
    let workers = passes (list_all (λ (b : BatchReference). is_worker charter b.worker) body.batches) _ _ members.1 in
    let enough = leb-true _ _ weighed.0 in
    let same = set_weighs charter (λ (p : ParentReference). p.author) is.staked body.parents members.0 rise in
    (omega (arith, enough, same), workers.1)

-- the votes of a certificate that passed are by one
votes_pass : (charter : Charter) (accepts : Accepts) (digest : Digest) (votes : List VoteEntry) → IsCharter charter → votes_rise votes ≡ true
    → first_failing (votes_tests charter accepts digest votes) ≡ None
    → HasVotes charter votes
votes_pass charter accepts digest votes is rise none =
    let weighed = passes (nat_le (quorum_of charter) (sum_by (λ (v : VoteEntry). named_weight charter v.voter) votes)) _ _ none in
    let members = passes (list_all (λ (v : VoteEntry). is_member charter v.voter) votes) _ _ weighed.1 in
    let enough = leb-true _ _ weighed.0 in
    let same = set_weighs charter (λ (v : VoteEntry). v.voter) is.staked votes members.0 rise in
    omega (arith, enough, same)

-- by the kind of the message
pub message_passes : (charter : Charter) (accepts : Accepts) (sender : Author) (m : Message) → IsCharter charter → IsMessage m
    → first_failing (test (is_member charter sender) UnknownAuthor ∷ message_tests charter accepts sender m) ≡ None
    → HasQuorums charter m
message_passes charter accepts sender (message.Header header) is within none =
    let by = passes (is_member charter sender) _ _ none in
    let author = passes (is_member charter header.body.author) _ _ by.1 in
    let own = passes (header.body.author.0 == sender.0) _ _ author.1 in
    (body_passes charter header.body (test (is_signed charter accepts header.body.author (header_signed header.body) header.signature) BadSignature ∷ []) is within.body.parents.rise own.1).0
message_passes charter accepts sender (message.Certificate certificate) is within none =
    let by = passes (is_member charter sender) _ _ none in
    let author = passes (is_member charter certificate.header.author) _ _ by.1 in
    let signed = vote_signed (header_digest_of certificate.header) certificate.header.round certificate.header.author in
    let body = body_passes charter certificate.header (votes_tests charter accepts signed certificate.votes) is within.header.parents.rise author.1 in
    (body.0, votes_pass charter accepts signed certificate.votes is within.votes.rise body.1)
message_passes charter accepts sender (message.Batch batch) is within none = tt
message_passes charter accepts sender (message.BatchAck ack) is within none = tt
message_passes charter accepts sender (message.Vote vote) is within none = tt
message_passes charter accepts sender (message.Coin coin) is within none = tt
