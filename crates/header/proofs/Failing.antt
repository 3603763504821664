-- Which test of a list fails first, that none stands for want of memory, and that none of a signature fails where
-- all signatures are accepted.
use Rattle.std.proofs.Common.{◌≡◌, ℕ, zero, suc, Bool, true, false, List, [], ◌∷◌, ◌++◌, length, Some, None, inl, inr, refl, ap, sym, ◌∙◌, arith}
use Rattle.std.specs.Prelude.{if◌then◌else◌, nat_lt, slice_get}
use Rattle.std.specs.List.{list_all}
use Rattle.std.specs.Option.{option_map_or}
use Rattle.std.proofs.lemmas.Bool.{and_parts, and_from, cases_Bool, false≢true}
use Rattle.std.proofs.lemmas.Grind.{common_steps}
use Rattle.std.proofs.lemmas.Option.{same_Some}
use Rattle.committee.specs.Charter.{Charter}
use Rattle.wire.specs.declared.header.Certificate.{Certificate}
use Rattle.wire.specs.declared.header.Header.{Header}
use Rattle.wire.specs.declared.header.Vote.{Vote}
use Rattle.wire.specs.declared.keys.Author.{Author}
use Rattle.wire.specs.declared.keys.Digest.{Digest}
use Rattle.wire.specs.declared.keys.Key.{Key}
use Rattle.wire.specs.declared.keys.Signature.{Signature}
use Rattle.wire.specs.declared.votes.VoteEntry.{VoteEntry}
use Rattle.wire.specs.declared.message.Message.{Message}
use Rattle.wire.specs.declared.message.Message.TheVariants as message
use Rattle.wire.specs.declared.message.BatchAck.{BatchAck}
use Rattle.wire.specs.Batches.{BatchView}
use Rattle.wire.specs.Digests.{header_digest_of}
use Rattle.wire.specs.Events.{Event}
use Rattle.header.specs.declared.error.CheckError.{CheckError}
use Rattle.header.specs.declared.error.CheckError.TheVariants.{Memory, UnknownAuthor, BadSignature}
use Rattle.header.specs.Checks.{Test, test, first_failing, Accepts, tests_of, accepts_all, is_member, is_signed, header_signed, vote_signed}
use Rattle.header.specs.Checks.{body_tests, batch_tests, ack_tests, header_tests, vote_tests, votes_tests, message_tests, fault_of}

-- after tests that hold the rest decides
pub first_failing-append : (front rest : List Test) → first_failing front ≡ None → first_failing (front ++ rest) ≡ first_failing rest
first_failing-append [] rest h = refl
first_failing-append (t ∷ front) rest h =
    elim t.holds as (λ b. (if b then first_failing front else Some t.otherwise) ≡ None → (if b then first_failing (front ++ rest) else Some t.otherwise) ≡ first_failing rest)
    [ true ↦ first_failing-append front rest | false ↦ λ e. cc ] h

-- a number below the length is one of an element
is_place : (keys : List Key) (n : ℕ) → option_map_or (λ key. true) (slice_get keys n) false ≡ nat_lt n (length keys)
is_place [] zero = refl
is_place [] (suc n) = grind (arith, common_steps)
is_place (key ∷ keys) zero = grind (arith, common_steps)
is_place (key ∷ keys) (suc n) = is_place keys n ∙ grind (arith, common_steps)

-- where all signatures are accepted, those of members are good
is_signed-accepts_all : (charter : Charter) (signer : Author) (digest : Digest) (signature : Signature) → is_signed charter accepts_all signer digest signature ≡ is_member charter signer
is_signed-accepts_all charter signer digest signature = is_place charter.keys signer.0

-- and so are those of votes by members
all_signed-accepts_all : (charter : Charter) (digest : Digest) (votes : List VoteEntry)
    → list_all (λ vote. is_signed charter accepts_all vote.voter digest vote.signature) votes ≡ list_all (λ vote. is_member charter vote.voter) votes
all_signed-accepts_all charter digest [] = refl
all_signed-accepts_all charter digest (vote ∷ votes) = rw (is_signed-accepts_all charter vote.voter digest vote.signature, all_signed-accepts_all charter digest votes)

-- a header whose author is a member doesn't fail by its signature
header_signed-by_member : (charter : Charter) (sender : Author) (header : Header) → is_signed charter accepts_all header.body.author
    (header_signed header.body) header.signature ≡ is_member charter header.body.author
    → first_failing (header_tests charter accepts_all sender header) ≡ Some BadSignature → ⊥
header_signed-by_member charter sender header same h = grind (arith, same)

-- nor does a vote whose voter is one
vote_signed-by_member : (charter : Charter) (sender : Author) (vote : Vote) → is_signed charter accepts_all vote.voter
    (vote_signed vote.header.0 vote.round vote.author) vote.signature ≡ is_member charter vote.voter
    → first_failing (vote_tests charter accepts_all sender vote) ≡ Some BadSignature → ⊥
vote_signed-by_member charter sender vote same h = grind (arith, same)

-- nor do votes whose voters are
votes_signed-by_members : (charter : Charter) (digest : Digest) (votes : List VoteEntry)
    → list_all (λ vote. is_signed charter accepts_all vote.voter digest vote.signature) votes ≡ list_all (λ vote. is_member charter vote.voter) votes
    → first_failing (votes_tests charter accepts_all digest votes) ≡ Some BadSignature → ⊥
votes_signed-by_members charter digest votes same h = grind (arith, same)

-- nor does a certificate then
certificate_signed-by_members : (charter : Charter) (certificate : Certificate) (rest : List Test) → (first_failing rest ≡ Some BadSignature → ⊥)
    → first_failing (test (is_member charter certificate.header.author) UnknownAuthor ∷ body_tests charter certificate.header ++ rest) ≡ Some BadSignature → ⊥
certificate_signed-by_members charter certificate rest never h = grind (arith, never)

-- a batch has no signature
batch_unsigned : (charter : Charter) (sender : Author) (batch : BatchView) → first_failing (batch_tests charter sender batch) ≡ Some BadSignature → ⊥
batch_unsigned charter sender batch h = grind arith

-- nor has an acknowledgement
ack_unsigned : (sender : Author) (ack : BatchAck) → first_failing (ack_tests sender ack) ≡ Some BadSignature → ⊥
ack_unsigned sender ack h = grind arith

-- where all signatures are accepted, no message is refused by its signatures
no_bad_signature : (charter : Charter) (sender : Author) (message : Message) → first_failing (message_tests charter accepts_all sender message) ≡ Some BadSignature → ⊥
no_bad_signature charter sender (message.Batch batch) h = batch_unsigned charter sender batch h
no_bad_signature charter sender (message.BatchAck ack) h = ack_unsigned sender ack h
no_bad_signature charter sender (message.Header header) h = header_signed-by_member charter sender header
    (is_signed-accepts_all charter header.body.author (header_signed header.body) header.signature) h
no_bad_signature charter sender (message.Vote vote) h =
    vote_signed-by_member charter sender vote (is_signed-accepts_all charter vote.voter (vote_signed vote.header.0 vote.round vote.author) vote.signature) h
no_bad_signature charter sender (message.Certificate certificate) h =
    let signed = vote_signed (header_digest_of certificate.header) certificate.header.round certificate.header.author in
    certificate_signed-by_members charter certificate (votes_tests charter accepts_all signed certificate.votes)
    (votes_signed-by_members charter signed certificate.votes (all_signed-accepts_all charter signed certificate.votes)) h
no_bad_signature charter sender (message.Coin coin) h = absurd cc

-- nor is one by its sender's test
pub fault_of-accepts_all : (charter : Charter) (event : Event) → fault_of charter accepts_all event ≡ Some BadSignature → ⊥
fault_of-accepts_all charter event h =
    elim (is_member charter event.sender) as (λ b. (if b then first_failing (message_tests charter accepts_all event.sender event.message) else Some UnknownAuthor) ≡ Some BadSignature → ⊥)
    [ true ↦ no_bad_signature charter event.sender event.message | false ↦ λ e. cc ] h

-- a refusal other than for memory
is_tested : CheckError → Bool
is_tested Memory = false
is_tested _ = true

-- tests of such refusals don't answer that memory is wanting
untested : (tests : List Test) → list_all (λ t. is_tested t.otherwise) tests ≡ true → first_failing tests ≡ Some Memory → ⊥
unfolding is_tested
untested [] all h = cc
untested (t ∷ rest) all h =
    let parts = and_parts (is_tested t.otherwise) (list_all (λ t. is_tested t.otherwise) rest) all in
    elim t.holds as (λ b. (if b then first_failing rest else Some t.otherwise) ≡ Some Memory → ⊥)
    [ true ↦ untested rest parts.1 | false ↦ λ e. false≢true (sym (ap is_tested (same_Some _ _ e)) ∙ parts.0) ] h

-- all tests of a message are such ones
all_tested : (charter : Charter) (accepts : Accepts) (sender : Author) (message : Message) → list_all (λ t. is_tested t.otherwise) (message_tests charter accepts sender message) ≡ true
unfolding is_tested
all_tested charter accepts sender (message.Batch batch) = refl
all_tested charter accepts sender (message.BatchAck ack) = refl
all_tested charter accepts sender (message.Header header) = refl
all_tested charter accepts sender (message.Vote vote) = refl
all_tested charter accepts sender (message.Certificate certificate) = refl
all_tested charter accepts sender (message.Coin coin) = refl

-- so no message is refused for memory
pub fault_of-memory : (charter : Charter) (accepts : Accepts) (event : Event) → fault_of charter accepts event ≡ Some Memory → ⊥
unfolding is_tested
fault_of-memory charter accepts event = untested (tests_of charter accepts event) (all_tested charter accepts event.sender event.message)

-- where the tests of one list hold, those of another do
IsWeaker : List Test → List Test → Type 0
IsWeaker [] [] = Unit {0}
IsWeaker (t ∷ tests) (u ∷ others) = (t.holds ≡ true → u.holds ≡ true) × IsWeaker tests others
IsWeaker [] (u ∷ others) = ⊥
IsWeaker (t ∷ tests) [] = ⊥

passes-weaker : (tests others : List Test) → IsWeaker tests others → first_failing tests ≡ None → first_failing others ≡ None
unfolding IsWeaker
passes-weaker [] [] weaker h = refl
passes-weaker [] (u ∷ others) weaker h = absurd weaker
passes-weaker (t ∷ tests) [] weaker h = absurd weaker
passes-weaker (t ∷ tests) (u ∷ others) weaker h =
    elim (cases_Bool t.holds) [
      | inl holds ↦ let rest = rw holds at h in rw (weaker.0 holds) (passes-weaker tests others weaker.1 rest)
      | inr fails ↦ let bad = rw fails at h in absurd cc
    ]

-- a signature that is good is one where all are taken
is_signed-weaker : (charter : Charter) (accepts : Accepts) (signer : Author) (digest : Digest) (signature : Signature)
    → is_signed charter accepts signer digest signature ≡ true → is_signed charter accepts_all signer digest signature ≡ true
is_signed-weaker charter accepts signer digest signature h =
    elim (slice_get charter.keys signer.0) as (λ o. option_map_or (λ key. accepts key digest signature) o false ≡ true → option_map_or (λ key. true) o false ≡ true)
    [ None ↦ λ e. e | Some key ↦ λ e. refl ] h

all_signed-weaker : (charter : Charter) (accepts : Accepts) (digest : Digest) (votes : List VoteEntry)
    → list_all (λ vote. is_signed charter accepts vote.voter digest vote.signature) votes ≡ true → list_all (λ vote. is_signed charter accepts_all vote.voter digest vote.signature) votes ≡ true
all_signed-weaker charter accepts digest [] h = refl
all_signed-weaker charter accepts digest (vote ∷ votes) h =
    let parts = and_parts (is_signed charter accepts vote.voter digest vote.signature) (list_all (λ v. is_signed charter accepts v.voter digest v.signature) votes) h in
    and_from _ _ (is_signed-weaker charter accepts vote.voter digest vote.signature parts.0) (all_signed-weaker charter accepts digest votes parts.1)

message-weaker : (charter : Charter) (accepts : Accepts) (sender : Author) (message : Message)
    → IsWeaker (message_tests charter accepts sender message) (message_tests charter accepts_all sender message)
unfolding IsWeaker
message-weaker charter accepts sender (message.Batch batch) = (λ e. e, (λ e. e, (λ e. e, tt)))
message-weaker charter accepts sender (message.BatchAck ack) = (λ e. e, tt)
message-weaker charter accepts sender (message.Header header) =
    (λ e. e, (λ e. e, (λ e. e, (λ e. e, (λ e. e, (λ e. e, (is_signed-weaker charter accepts header.body.author (header_signed header.body) header.signature, tt)))))))
message-weaker charter accepts sender (message.Vote vote) =
    (λ e. e, (λ e. e, (λ e. e, (is_signed-weaker charter accepts vote.voter (vote_signed vote.header.0 vote.round vote.author) vote.signature, tt))))
message-weaker charter accepts sender (message.Certificate certificate) =
    let signed = vote_signed (header_digest_of certificate.header) certificate.header.round certificate.header.author in
    (λ e. e, (λ e. e, (λ e. e, (λ e. e, (λ e. e, (λ e. e, (λ e. e, (all_signed-weaker charter accepts signed certificate.votes, tt))))))))
message-weaker charter accepts sender (message.Coin coin) = tt

-- what passes with its signatures passes without
pub passes-accepts_all : (charter : Charter) (accepts : Accepts) (event : Event) → fault_of charter accepts event ≡ None → fault_of charter accepts_all event ≡ None
unfolding IsWeaker
passes-accepts_all charter accepts event h =
    passes-weaker (tests_of charter accepts event) (tests_of charter accepts_all event) (λ e. e, message-weaker charter accepts event.sender event.message) h
