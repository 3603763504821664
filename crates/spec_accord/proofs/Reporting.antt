-- The headers of which a history tells: the events that bring them, and their limits.
use Rattle.std.proofs.Common.{◌≡◌, List, [], ◌∷◌, map, Some, inl, inr, ap, subst}
use Rattle.std.specs.Prelude.{Contains}
use Rattle.std.proofs.lemmas.Option.{same_Some, none-some}
use Rattle.std.proofs.lemmas.List.Elements.{All-contains, Contains-append_cases}
use Rattle.std.proofs.lemmas.List.Elements.{Contains-append_left, Contains-append_right}
use Rattle.wire.specs.Grammar.{IsHeaderBody, IsMessage}
use Rattle.wire.specs.declared.message.Message.TheVariants as message
use Rattle.spec_model.specs.Admitting.{IsTaken, IsLegal}
use Rattle.spec_model.specs.Histories.{History, headers, votes, received, as_header, as_vote, as_certificate}
use Rattle.spec_model.specs.Nodes.{Node}
use Rattle.spec_model.specs.Words.{Certificate, Event, Header, HeaderBody, Message, Vote}
use Rattle.spec_laws.proofs.Lists.{Contains-nothing, Contains-cases, Contains-first, Contains-later, Contains-made, Contains-makes}
use Rattle.spec_laws.proofs.Meeting.{mapped_from}
use Rattle.spec_accord.specs.Members.{bodies_in}

-- ---- the event of a message

header_is : (m : Message) (header : Header) → as_header m ≡ Some header → m ≡ message.Header header
header_is (message.Header new) header is = ap (λ (h : Header). message.Header h) (same_Some new header is)
header_is (message.Batch batch) header is = absurd (none-some header is)
header_is (message.BatchAck ack) header is = absurd (none-some header is)
header_is (message.Vote vote) header is = absurd (none-some header is)
header_is (message.Certificate certificate) header is = absurd (none-some header is)
header_is (message.Coin coin) header is = absurd (none-some header is)

vote_is : (m : Message) (vote : Vote) → as_vote m ≡ Some vote → m ≡ message.Vote vote
vote_is (message.Vote new) vote is = ap (λ (v : Vote). message.Vote v) (same_Some new vote is)
vote_is (message.Batch batch) vote is = absurd (none-some vote is)
vote_is (message.BatchAck ack) vote is = absurd (none-some vote is)
vote_is (message.Header header) vote is = absurd (none-some vote is)
vote_is (message.Certificate certificate) vote is = absurd (none-some vote is)
vote_is (message.Coin coin) vote is = absurd (none-some vote is)

certificate_is : (m : Message) (certificate : Certificate) → as_certificate m ≡ Some certificate
    → m ≡ message.Certificate certificate
certificate_is (message.Certificate new) certificate is =
    ap (λ (c : Certificate). message.Certificate c) (same_Some new certificate is)
certificate_is (message.Batch batch) certificate is = absurd (none-some certificate is)
certificate_is (message.BatchAck ack) certificate is = absurd (none-some certificate is)
certificate_is (message.Header header) certificate is = absurd (none-some certificate is)
certificate_is (message.Vote vote) certificate is = absurd (none-some certificate is)
certificate_is (message.Coin coin) certificate is = absurd (none-some certificate is)

-- an event of a history is of a message
pub record HasEvent (history : History) (m : Message) : Type 0 where
  pub event : Event
  pub inside : Contains history event
  pub is : event.message ≡ m

pub header_event : (history : History) (header : Header) → Contains (headers history) header
    → HasEvent history (message.Header header)
header_event history header inside =
    let found = Contains-made (λ (e : Event). as_header e.message) history header inside in
    record { event = found.0; inside = found.1; is = header_is found.0.message header found.2 }

pub vote_event : (history : History) (vote : Vote) → Contains (votes history) vote
    → HasEvent history (message.Vote vote)
vote_event history vote inside =
    let found = Contains-made (λ (e : Event). as_vote e.message) history vote inside in
    record { event = found.0; inside = found.1; is = vote_is found.0.message vote found.2 }

pub certificate_event : (history : History) (certificate : Certificate) → Contains (received history) certificate
    → HasEvent history (message.Certificate certificate)
certificate_event history certificate inside =
    let found = Contains-made (λ (e : Event). as_certificate e.message) history certificate inside in
    record { event = found.0; inside = found.1; is = certificate_is found.0.message certificate found.2 }

-- ---- headers

-- what a list has is mapped
pub mapped_in : {X Y : Type 0} (f : X → Y) (xs : List X) (x : X) → Contains xs x → Contains (map f xs) (f x)
mapped_in f [] x inside = absurd (Contains-nothing x inside)
mapped_in f (y ∷ xs) x inside =
    elim (Contains-cases y xs x inside) [
      | inl same ↦ subst (λ z. Contains (f y ∷ map f xs) (f z)) same (Contains-first (map f xs) (f y))
      | inr rest ↦ Contains-later (f y) (map f xs) (f x) (mapped_in f xs x rest)
    ]

-- a history tells of each header that it has, and of that of each certificate that came in
pub header_reported : (history : History) (header : Header) → Contains (headers history) header
    → Contains (bodies_in history) header.body
header_reported history header inside =
    Contains-append_left (map (λ (h : Header). h.body) (headers history))
    (map (λ (c : Certificate). c.header) (received history)) header.body
    (mapped_in (λ (h : Header). h.body) (headers history) header inside)

pub certificate_reported : (history : History) (certificate : Certificate) → Contains (received history) certificate
    → Contains (bodies_in history) certificate.header
certificate_reported history certificate inside =
    Contains-append_right (map (λ (h : Header). h.body) (headers history))
    (map (λ (c : Certificate). c.header) (received history)) certificate.header
    (mapped_in (λ (c : Certificate). c.header) (received history) certificate inside)

-- a history whose events another list has tells of no other headers than that
pub bodies_within : (history events : History) → ((event : Event) → Contains history event → Contains events event)
    → (body : HeaderBody) → Contains (bodies_in history) body → Contains (bodies_in events) body
bodies_within history events within body reported =
    let of_header : Header → HeaderBody = λ h. h.body in
    let of_certificate : Certificate → HeaderBody = λ c. c.header in
    elim (Contains-append_cases (map of_header (headers history)) (map of_certificate (received history)) body reported) [
      | inl one ↦
          let from = mapped_from of_header (headers history) body one in
          let found = Contains-made (λ (e : Event). as_header e.message) history from.0 from.1 in
          let there = Contains-makes (λ (e : Event). as_header e.message) events found.0 from.0 (within found.0 found.1) found.2 in
          subst (λ (b : HeaderBody). Contains (bodies_in events) b) from.2 (header_reported events from.0 there)
      | inr one ↦
          let from = mapped_from of_certificate (received history) body one in
          let found = Contains-made (λ (e : Event). as_certificate e.message) history from.0 from.1 in
          let there = Contains-makes (λ (e : Event). as_certificate e.message) events found.0 from.0 (within found.0 found.1) found.2 in
          subst (λ (b : HeaderBody). Contains (bodies_in events) b) from.2 (certificate_reported events from.0 there)
    ]

-- these are within their limits, where the history is legal
header_within : (node : Node) (history : History) → IsLegal node history → (header : Header)
    → Contains (headers history) header → IsHeaderBody header.body
header_within node history legal header inside =
    let brought = header_event history header inside in
    let taken = All-contains (IsTaken node) history brought.event legal.taken brought.inside in
    (subst IsMessage brought.is taken.message).body

certificate_within : (node : Node) (history : History) → IsLegal node history → (certificate : Certificate)
    → Contains (received history) certificate
    → IsHeaderBody certificate.header
certificate_within node history legal certificate inside =
    let brought = certificate_event history certificate inside in
    let taken = All-contains (IsTaken node) history brought.event legal.taken brought.inside in
    (subst IsMessage brought.is taken.message).header

pub reported_within : (node : Node) (history : History) → IsLegal node history → (body : HeaderBody)
    → Contains (bodies_in history) body → IsHeaderBody body
reported_within node history legal body reported =
    let of_header : Header → HeaderBody = λ h. h.body in
    let of_certificate : Certificate → HeaderBody = λ c. c.header in
    elim (Contains-append_cases (map of_header (headers history)) (map of_certificate (received history)) body reported) [
      | inl one ↦
          let from = mapped_from of_header (headers history) body one in
          subst IsHeaderBody from.2 (header_within node history legal from.0 from.1)
      | inr one ↦
          let from = mapped_from of_certificate (received history) body one in
          subst IsHeaderBody from.2 (certificate_within node history legal from.0 from.1)
    ]
