-- Each certificate of a legal history is what its slot holds.
use Rattle.std.proofs.Common.{◌≡◌, ℕ, true, List, [], ◌∷◌, ◌++◌, map, Some, None, ◌⊎◌, inl, inr, refl, ap, sym, ◌∙◌, subst}
use Rattle.std.specs.Prelude.{filter_map, Contains, option_and_then}
use Rattle.std.specs.Option.{option_to_list}
use Rattle.std.proofs.lemmas.Bool.{cases_Bool, eqb-true}
use Rattle.std.proofs.lemmas.Option.{same_Some, none-some}
use Rattle.std.proofs.lemmas.List.{append-nil}
use Rattle.std.proofs.lemmas.List.Elements.{Contains-append_cases, Contains-append_left, Contains-append_right, Contains-push_cases}
use Rattle.wire.specs.Events.{Event}
use Rattle.wire.specs.declared.header.Certificate.{Certificate}
use Rattle.wire.specs.declared.header.Header.{Header}
use Rattle.wire.specs.declared.header.HeaderBody.{HeaderBody}
use Rattle.wire.specs.declared.keys.Author.{Author}
use Rattle.wire.specs.declared.message.Message.{Message}
use Rattle.wire.specs.declared.message.Message.TheVariants as message
use Rattle.spec_model.specs.States.{whole}
use Rattle.spec_model.specs.Admitting.{IsLegal}
use Rattle.spec_model.specs.Histories.{History, headers, received, as_header, as_vote, as_certificate}
use Rattle.spec_model.specs.Holdings.{voted_header, completed, certificates, genesis, slots}
use Rattle.spec_laws.specs.Laws.{added, OneCertificate}
use Rattle.committee.specs.Charter.{numbers}
use Rattle.spec_model.specs.Nodes.{Node, size_of}
use Rattle.spec_model.specs.Slots.{is_of_slot, slots_of}
use Rattle.spec_laws.proofs.Legal.{Adds, legal-induction}
use Rattle.spec_laws.proofs.Lists.{filter_map-push, Contains-nothing, Contains-cases, Contains-made, Contains-makes}
use Rattle.spec_laws.proofs.NewEvents.{new_header-unvoted, new_vote, new_certificate-free}
use Rattle.spec_laws.proofs.SlotsGrow.{completed-same, completed-other, completed-header, unvoted-incomplete, slots_grow}
use Rattle.spec_laws.proofs.Votes.{of_its_slot, slot_is, one_header, each_headed}

-- a certificate after one more event was there, or the event adds it to a slot that held nothing
pub record IsAdded (node : Node) (history : History) (event : Event) (certificate : Certificate) : Type 0 where
  pub is : added node history event ≡ Some certificate
  pub free : slots node history certificate.header.round certificate.header.author.0 ≡ None

-- an own certificate that was made before is one of those before
made_before : (node : Node) (history : History) (header : Header) (certificate : Certificate) → Contains (headers history) header → completed node history header ≡ Some certificate
    → Contains (certificates node history) certificate
made_before node history header certificate inside made =
    Contains-append_right (map genesis (numbers (size_of node)) ++ received history) (filter_map (completed node history) (headers history)) certificate
    (Contains-makes (completed node history) (headers history) header certificate inside made)

-- an own certificate, where the event is no header and no vote
made_same : (node : Node) (history : History) (event : Event) → as_header event.message ≡ None → as_vote event.message ≡ None
    → (certificate : Certificate) (header : Header) → Contains (headers history ++ option_to_list (as_header event.message)) header
    → completed node (history ++ event ∷ []) header ≡ Some certificate → Contains (certificates node history) certificate
made_same node history event no_header no_vote certificate header inside made =
    elim (Contains-append_cases (headers history) (option_to_list (as_header event.message)) header inside) [
      | inl before ↦ made_before node history header certificate before (sym (completed-same node history event header (λ voter. rw no_vote refl)) ∙ made)
      | inr new ↦ absurd (Contains-nothing header (subst (λ o. Contains (option_to_list o) header) no_header new))
    ]

-- an own certificate after each kind of event
made_more : (node : Node) (history : History) (sender : Author) (m : Message) → Adds node history (record { sender = sender; message = m })
    → (certificate : Certificate) (header : Header) → Contains (headers history ++ option_to_list (as_header m)) header
    → completed node (history ++ record { sender = sender; message = m } ∷ []) header ≡ Some certificate
    → Contains (certificates node history) certificate ⊎ IsAdded node history (record { sender = sender; message = m }) certificate
made_more node history sender (message.Batch batch) adds certificate header inside made =
    inl (made_same node history (record { sender = sender; message = message.Batch batch }) refl refl certificate header inside made)
made_more node history sender (message.BatchAck ack) adds certificate header inside made =
    inl (made_same node history (record { sender = sender; message = message.BatchAck ack }) refl refl certificate header inside made)
made_more node history sender (message.Header new) adds certificate header inside made =
    let event : Event = record { sender = sender; message = message.Header new } in
    let before = sym (completed-same node history event header (λ voter. refl)) ∙ made in
    elim (Contains-append_cases (headers history) (new ∷ []) header inside) [
      | inl old ↦ inl (made_before node history header certificate old before)
      | inr here ↦ elim (Contains-push_cases [] new header here) [
        | inl none ↦ absurd (Contains-nothing header none)
        | inr same ↦
            let unvoted = new_header-unvoted node history new adds.new in
            let incomplete = unvoted-incomplete node history new adds.legal.sound (λ voter. each_headed node history adds.legal new.body voter unvoted) in
            absurd (none-some certificate (sym incomplete ∙ ap (completed node history) same ∙ before))
      ]
    ]
made_more node history sender (message.Vote vote) adds certificate header inside made =
    let event : Event = record { sender = sender; message = message.Vote vote } in
    elim (Contains-append_cases (headers history) [] header inside) [
      | inr none ↦ absurd (Contains-nothing header none)
      | inl old ↦ elim (cases_Bool (is_of_slot vote.round vote.author.0 header.body)) [
        | inr other ↦ inl (made_before node history header certificate old (sym (completed-other node history sender vote header other) ∙ made))
        | inl on ↦
            let new = new_vote node history (whole node (history ++ event ∷ [])) vote adds.new in
            let place = slot_is vote.round vote.author.0 header.body on in
            let own = eqb-true vote.author.0 node.own.0 new.own in
            let same_header : Some header ≡ Some new.header =
            sym (one_header node history adds.legal header old) ∙ ap (λ r. voted_header history r header.body.author.0) place.0
            ∙ ap (voted_header history vote.round) (place.1 ∙ own) ∙ new.held in
            let same : header ≡ new.header = same_Some header new.header same_header in
            let of = completed-header node (history ++ event ∷ []) header certificate made in
            inr (record {
              is = ap (option_and_then (completed node (history ++ event ∷ []))) new.held ∙ ap (completed node (history ++ event ∷ [])) (sym same) ∙ made;
              free = ap (λ (h : HeaderBody). slots node history h.round h.author.0) of ∙ ap (λ r. slots node history r header.body.author.0) place.0
                  ∙ ap (slots node history vote.round) (place.1 ∙ own) ∙ new.free;
            })
      ]
    ]
made_more node history sender (message.Certificate received) adds certificate header inside made =
    inl (made_same node history (record { sender = sender; message = message.Certificate received }) refl refl certificate header inside made)
made_more node history sender (message.Coin coin) adds certificate header inside made =
    inl (made_same node history (record { sender = sender; message = message.Coin coin }) refl refl certificate header inside made)

-- a certificate that came in with each kind of event
received_more : (node : Node) (history : History) (sender : Author) (m : Message) → Adds node history (record { sender = sender; message = m })
    → (certificate : Certificate) → Contains (option_to_list (as_certificate m)) certificate → IsAdded node history (record { sender = sender; message = m }) certificate
received_more node history sender (message.Certificate new) adds certificate inside =
    elim (Contains-push_cases [] new certificate inside) [
      | inl none ↦ absurd (Contains-nothing certificate none)
      | inr same ↦
          let event : Event = record { sender = sender; message = message.Certificate new } in
          record {
            is = ap (λ c. Some c) same;
            free = ap (λ (c : Certificate). slots node history c.header.round c.header.author.0) (sym same)
                ∙ new_certificate-free node (whole node history) (whole node (history ++ event ∷ [])) new adds.new;
          }
    ]
received_more node history sender (message.Batch batch) adds certificate inside = absurd (Contains-nothing certificate inside)
received_more node history sender (message.BatchAck ack) adds certificate inside = absurd (Contains-nothing certificate inside)
received_more node history sender (message.Header header) adds certificate inside = absurd (Contains-nothing certificate inside)
received_more node history sender (message.Vote vote) adds certificate inside = absurd (Contains-nothing certificate inside)
received_more node history sender (message.Coin coin) adds certificate inside = absurd (Contains-nothing certificate inside)

pub certificate_more : (node : Node) (history : History) (event : Event) (certificate : Certificate) → Adds node history event
    → Contains (certificates node (history ++ event ∷ [])) certificate → Contains (certificates node history) certificate ⊎ IsAdded node history event certificate
certificate_more node history event certificate adds inside =
    let first = map genesis (numbers (size_of node)) in
    let own = filter_map (completed node history) (headers history) in
    let later = history ++ event ∷ [] in
    elim (Contains-append_cases (first ++ received later) (filter_map (completed node later) (headers later)) certificate inside) [
      | inl front ↦ elim (Contains-append_cases first (received later) certificate front) [
        | inl genesis ↦ inl (Contains-append_left (first ++ received history) own certificate (Contains-append_left first (received history) certificate genesis))
        | inr came ↦
            let came' = subst (λ l. Contains l certificate) (filter_map-push (λ e. as_certificate e.message) history event) came in
            elim (Contains-append_cases (received history) (option_to_list (as_certificate event.message)) certificate came') [
              | inl before ↦ inl (Contains-append_left (first ++ received history) own certificate (Contains-append_right first (received history) certificate before))
              | inr new ↦ inr (received_more node history event.sender event.message adds certificate new)
            ]
      ]
      | inr made ↦
          let found = Contains-made (completed node later) (headers later) certificate made in
          let inside' = subst (λ l. Contains l found.0) (filter_map-push (λ e. as_header e.message) history event) found.1 in
          made_more node history event.sender event.message adds certificate found.0 inside' found.2
    ]

-- a certificate of a legal history is what its slot holds
abbrev AreInSlots : Node → History → Type 0
AreInSlots node history = (certificate : Certificate) → Contains (certificates node history) certificate
    → slots node history certificate.header.round certificate.header.author.0 ≡ Some certificate

-- so are those of the genesis
pub genesis_is : (authors : List ℕ) (certificate : Certificate) → Contains (map genesis authors) certificate → certificate ≡ genesis certificate.header.author.0
genesis_is [] certificate inside = absurd (Contains-nothing certificate inside)
genesis_is (author ∷ authors) certificate inside =
    elim (Contains-cases (genesis author) (map genesis authors) certificate inside) [
      | inl same ↦ sym same ∙ ap genesis (ap (λ (c : Certificate). c.header.author.0) same)
      | inr rest ↦ genesis_is authors certificate rest
    ]

genesis_found : (authors : List ℕ) (certificate : Certificate) → Contains (map genesis authors) certificate
    → slots_of (map genesis authors) certificate.header.round certificate.header.author.0 ≡ Some certificate
genesis_found [] certificate inside = absurd (Contains-nothing certificate inside)
genesis_found (author ∷ authors) certificate inside =
    elim (cases_Bool (is_of_slot certificate.header.round certificate.header.author.0 (genesis author).header)) [
      | inl here ↦
          let place = slot_is certificate.header.round certificate.header.author.0 (genesis author).header here in
          rw here (ap (λ c. Some c) (ap genesis place.1 ∙ sym (genesis_is (author ∷ authors) certificate inside)))
      | inr other ↦ elim (Contains-cases (genesis author) (map genesis authors) certificate inside) [
        | inl same ↦
            let here : is_of_slot certificate.header.round certificate.header.author.0 (genesis author).header ≡ true =
            ap (λ (c : Certificate). is_of_slot certificate.header.round certificate.header.author.0 c.header) same ∙ of_its_slot certificate.header in
            rw here (ap (λ c. Some c) same)
        | inr rest ↦ rw other (genesis_found authors certificate rest)
      ]
    ]

nothing_yet : (node : Node) → AreInSlots node []
nothing_yet node certificate inside =
    let first = map genesis (numbers (size_of node)) in
    let all : certificates node [] ≡ first = append-nil (first ++ []) ∙ append-nil first in
    ap (λ l. slots_of l certificate.header.round certificate.header.author.0) all
    ∙ genesis_found (numbers (size_of node)) certificate (subst (λ l. Contains l certificate) all inside)

in_slots_push : (node : Node) (history : History) (event : Event) → Adds node history event → AreInSlots node history → AreInSlots node (history ++ event ∷ [])
in_slots_push node history event adds before certificate inside =
    let round = certificate.header.round in
    let author = certificate.header.author.0 in
    slots_grow node history event adds.longer round author
    ∙ elim (certificate_more node history event certificate adds inside) [
      | inl old ↦ let held = before certificate old in rw held refl
      | inr new ↦ rw (new.free, new.is, of_its_slot certificate.header) refl
    ]

pub in_slots : (node : Node) (history : History) → IsLegal node history → AreInSlots node history
in_slots node = legal-induction node (AreInSlots node) (nothing_yet node) (in_slots_push node)

pub one_certificate : OneCertificate
one_certificate node history one other legal inside also author round =
    same_Some one other (sym (in_slots node history legal one inside)
    ∙ ap (λ r. slots node history r one.header.author.0) round ∙ ap (λ (a : Author). slots node history other.header.round a.0) author
    ∙ in_slots node history legal other also)
