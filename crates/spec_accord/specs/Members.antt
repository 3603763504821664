-- What the honest members of a committee have settled, and why their certificates and orders agree. Disks and runs play no part in it.
use Rattle.std.specs.Prelude.{◌≡◌, ◌≢◌, ◌<◌, ◌≤◌, ◌⊎◌, ℕ, ◌+◌, ◌==◌, Bool, not, true, List, [], ◌∷◌, ◌++◌, map, Some, None, Contains}
use Rattle.std.specs.Int.{w16, w64, to_be_bytes}
use Rattle.sha2.specs.Sha256.{sha256}
use Rattle.committee.specs.Charter.{Charter, IsCharter, weight, tolerated_of, quorum_of}
use Rattle.header.specs.Checks.{Accepts, fault_of, is_signed, header_signed, vote_signed}
use Rattle.spec_model.specs.Admitting.{IsLegal}
use Rattle.spec_model.specs.Histories.{History, headers, received}
use Rattle.spec_model.specs.Holdings.{voted_digest, slots, order}
use Rattle.spec_model.specs.Nodes.{Node}
use Rattle.spec_model.specs.Slots.{header_digest, certificate_digest}
use Rattle.spec_model.specs.Words.{Author, Coin, Digest, Event, Header, HeaderBody, Message, Signature}
use Rattle.wire.specs.Digests.{header_digest_of}
use Rattle.wire.specs.Encoding.{header_body}
use Rattle.wire.specs.declared.message.Message.TheVariants as message
use Rattle.spec_accord.specs.Accord.{Agree, HaveOneHeader}

-- The honest members at some moment: the committee, the verifier of signatures that all use, who is honest, and for each honest member what
-- it is as a node and which history it has settled.
pub record Party : Type 0 where
  pub charter : Charter
  pub accepts : Accepts
  pub honest : ℕ → Bool
  pub node : ℕ → Node
  pub settled : ℕ → History

-- ---- digests

-- the headers in a history, those that came in by themselves and those in certificates
abbrev pub bodies_in : History → List HeaderBody
bodies_in history = map (λ header. header.body) (headers history)
    ++ map (λ certificate. certificate.header) (received history)

-- the two texts of a header that are hashed: its own, after the letter H; certificate_text: that of its certificate, after the letter C
abbrev pub header_text : HeaderBody → List ℕ
header_text body = 72 ∷ header_body body

abbrev pub certificate_text : HeaderBody → List ℕ
certificate_text body = 67 ∷ header_digest_of body ++ to_be_bytes w64 body.round ++ to_be_bytes w16 body.author.0

-- a header is in the settled history of some honest member, by itself or in a certificate
pub record IsReported (party : Party) (body : HeaderBody) : Type 0 where
  pub member : ℕ
  pub honest : party.honest member ≡ true
  pub reported : Contains (bodies_in (party.settled member)) body

-- no two different texts of these headers have the same digest: neither those of two headers, nor those of two certificates, nor one of
-- each
pub record HaveNoClash (Reported : HeaderBody → Type 0) : Type 0 where
  pub headers : (one other : HeaderBody) → Reported one → Reported other
      → sha256 (header_text one) ≡ sha256 (header_text other) → header_text one ≡ header_text other
  pub certificates : (one other : HeaderBody) → Reported one → Reported other
      → sha256 (certificate_text one) ≡ sha256 (certificate_text other) → certificate_text one ≡ certificate_text other
  pub both : (one other : HeaderBody) → Reported one → Reported other
      → sha256 (header_text one) ≡ sha256 (certificate_text other) → header_text one ≡ certificate_text other

-- no two different texts of headers in honest members' settled histories have the same digest
abbrev pub NoClash : Party → Type 0
NoClash party = HaveNoClash (IsReported party)

-- ---- signatures

-- the signature of a vote in a message: which digest is signed, by which member it claims to be, and the signature itself
pub record Signed : Type 0 where
  pub signer : Author
  pub digest : Digest
  pub signature : Signature

-- the signatures of the votes in a message; that of a header by its author isn't among them
abbrev pub signed_in : Message → List Signed
signed_in (message.Vote vote) =
    record {
      signer = vote.voter;
      digest = vote_signed vote.header.0 vote.round vote.author;
      signature = vote.signature;
    } ∷ []
signed_in (message.Certificate certificate) = map (λ vote. record {
  signer = vote.voter;
  digest = vote_signed (header_digest_of certificate.header) certificate.header.round certificate.header.author;
  signature = vote.signature;
}) certificate.votes
signed_in _ = []

-- a member has settled its vote for this header: of this round and author it has voted for the header's digest
abbrev pub HasVote : Party → ℕ → HeaderBody → Type 0
HasVote party member body = voted_digest (party.settled member) body.round body.author.0 ≡ Some (header_digest body)

-- If a member signed this digest in something that it gave out, it is the digest of a header in the member's settled history, whoever made
-- that, or of the certificate of a header that the member voted for.
pub record WasSigned (party : Party) (member : ℕ) (digest : Digest) : Type 0 where
  pub body : HeaderBody
  pub reported : Contains (bodies_in (party.settled member)) body
  pub is : (digest ≡ header_digest body) ⊎ ((digest ≡ certificate_digest body) × HasVote party member body)

-- ---- agreement

-- What is assumed of the honest members. `signed` says which digests each member has signed in what it gave out.
pub record IsParty (party : Party) (signed : ℕ → Digest → Bool) : Type 0 where
  -- the committee is within its limits, and the members who aren't honest weigh together no more than is tolerated
  pub sound : IsCharter party.charter
  pub few : weight party.charter (λ member. not (party.honest member)) ≤ tolerated_of party.charter
  -- each honest member is a node of this committee, with its own number and a legal history
  pub charter : (member : ℕ) → party.honest member ≡ true → (party.node member).charter ≡ party.charter
  pub number : (member : ℕ) → party.honest member ≡ true → (party.node member).own.0 ≡ member
  pub legal : (member : ℕ) → party.honest member ≡ true → IsLegal (party.node member) (party.settled member)
  -- each event that an honest member has settled passed the checks, with its signatures
  pub passed : (member : ℕ) → party.honest member ≡ true → (event : Event) → Contains (party.settled member) event
      → fault_of party.charter party.accepts event ≡ None
  -- no vote in a settled event is forged in an honest member's name: if its signature is good, that member has signed the digest in what it
  -- gave out
  pub unforged : (member : ℕ) → party.honest member ≡ true → (event : Event) → Contains (party.settled member) event
      → (vote : Signed) → Contains (signed_in event.message) vote → party.honest vote.signer.0 ≡ true
      → is_signed party.charter party.accepts vote.signer vote.digest vote.signature ≡ true
      → signed vote.signer.0 vote.digest ≡ true
  -- in what it gave out, an honest member has signed only headers in its settled history and its votes
  pub given : (member : ℕ) → party.honest member ≡ true → (digest : Digest) → signed member digest ≡ true
      → WasSigned party member digest
  -- no two different texts of headers in the settled histories have the same digest
  pub clash : NoClash party

-- if this is assumed, the certificates of one author and round that honest members hold have the same header
abbrev pub HeadersAgree : Type 0
HeadersAgree = (party : Party) (signed : ℕ → Digest → Bool) → IsParty party signed
    → (one other : ℕ) → party.honest one ≡ true → party.honest other ≡ true
    → HaveOneHeader (slots (party.node one) (party.settled one)) (slots (party.node other) (party.settled other))

-- the coin of each wave has one value at all honest members
pub record HasCoins (party : Party) (value : ℕ → ℕ) : Type 0 where
  pub each : (member : ℕ) → party.honest member ≡ true → (event : Event) → Contains (party.settled member) event
      → (coin : Coin) → event.message ≡ message.Coin coin → coin.value ≡ value coin.wave

-- if this is assumed too, of the orders of any two honest members one is a prefix of the other
abbrev pub MembersAgree : Type 0
MembersAgree = (party : Party) (signed : ℕ → Digest → Bool) (value : ℕ → ℕ) → IsParty party signed
    → HasCoins party value → (one other : ℕ) → party.honest one ≡ true → party.honest other ≡ true
    → Agree (order (party.node one) (party.settled one)) (order (party.node other) (party.settled other))

-- ---- at any moment, also before what a member has accepted is settled

-- A history that an honest member had at some moment, settled or not: it is legal, its events passed the checks, and no vote in it is
-- forged in an honest member's name
pub record IsMoment (party : Party) (signed : ℕ → Digest → Bool) (member : ℕ) (history : History) : Type 0 where
  pub honest : party.honest member ≡ true
  pub legal : IsLegal (party.node member) history
  pub passed : (event : Event) → Contains history event → fault_of party.charter party.accepts event ≡ None
  pub unforged : (event : Event) → Contains history event → (vote : Signed) → Contains (signed_in event.message) vote
      → party.honest vote.signer.0 ≡ true
      → is_signed party.charter party.accepts vote.signer vote.digest vote.signature ≡ true
      → signed vote.signer.0 vote.digest ≡ true

-- If a member signed this digest in something that it gave out, it is the digest of a header that the member voted for, or of such a
-- header's certificate.
pub record WasVoted (party : Party) (member : ℕ) (digest : Digest) : Type 0 where
  pub body : HeaderBody
  pub reported : Contains (bodies_in (party.settled member)) body
  pub voted : HasVote party member body
  pub is : (digest ≡ header_digest body) ⊎ (digest ≡ certificate_digest body)

-- What is assumed in addition, for laws on headers: how stakes compare, that no header is forged, and what an honest member signs.
pub record HasHeaders (party : Party) (signed : ℕ → Digest → Bool) : Type 0 where
  -- an honest member and the members who aren't honest weigh together less than a quorum, as they do if stakes are equal
  pub others : (member : ℕ) → party.honest member ≡ true
      → weight party.charter (λ m. m == member) + tolerated_of party.charter < quorum_of party.charter
  -- no header is forged in an honest member's name: if its signature is good, that member has signed the digest in what it gave out
  pub unforged : (member : ℕ) → party.honest member ≡ true → (event : Event) → Contains (party.settled member) event
      → (header : Header) → event.message ≡ message.Header header → party.honest header.body.author.0 ≡ true
      → header.body.author.0 ≢ member
      → is_signed party.charter party.accepts header.body.author (header_signed header.body) header.signature ≡ true
      → signed header.body.author.0 (header_signed header.body) ≡ true
  -- in what it gave out, an honest member has signed nothing but for headers that it voted for
  pub given : (member : ℕ) → party.honest member ≡ true → (digest : Digest) → signed member digest ≡ true
      → WasVoted party member digest

-- a header is in the settled history of an honest member, or in one of these two histories
abbrev pub IsReportedAt : Party → History → History → HeaderBody → Type 0
IsReportedAt party history also body = IsReported party body ⊎ Contains (bodies_in history) body ⊎ Contains (bodies_in also) body

-- if this is assumed too, all certificates of one author and round that honest members ever held, settled or not, have the same header
abbrev pub HeadersAgreeEver : Type 0
HeadersAgreeEver = (party : Party) (signed : ℕ → Digest → Bool) → IsParty party signed → HasHeaders party signed
    → (one other : ℕ) (history also : History) → IsMoment party signed one history → IsMoment party signed other also
    → HaveNoClash (IsReportedAt party history also)
    → HaveOneHeader (slots (party.node one) history) (slots (party.node other) also)
