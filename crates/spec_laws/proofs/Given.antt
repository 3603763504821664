-- What may be given out at a legal history may be given out at those that it begins.
use Rattle.std.proofs.Common.{◌≡◌, ℕ, ◌-◌, ◌≤◌, min, Bool, true, false, List, [], ◌∷◌, ◌++◌, map, length, take, drop, Some, inl, inr, refl, ap, sym, ◌∙◌, subst, arith}
use Rattle.std.specs.Prelude.{filter, filter_map, flat_map, Contains}
use Rattle.std.specs.Option.{option_map_or, option_to_list}
use Rattle.std.proofs.lemmas.Bool.{cases_Bool, cases_lt, and_parts, eqb-true, true≢false}
use Rattle.std.proofs.lemmas.Grind.{flat_map-append}
use Rattle.std.proofs.lemmas.List.{length-take, length-drop, take-append-le, drop-append-le}
use Rattle.std.proofs.lemmas.List.Elements.{Contains-append_cases, Contains-append_left, Contains-append_right}
use Rattle.wire.specs.Events.{Event}
use Rattle.wire.specs.declared.header.Certificate.{Certificate}
use Rattle.wire.specs.declared.header.Header.{Header}
use Rattle.wire.specs.declared.keys.Author.{Author}
use Rattle.wire.specs.declared.keys.Digest.{Digest}
use Rattle.wire.specs.declared.message.Message.{Message}
use Rattle.wire.specs.declared.message.Message.TheVariants as message
use Rattle.wire.specs.declared.output.Output.{Output}
use Rattle.wire.specs.declared.output.Output.TheVariants as output
use Rattle.spec_model.specs.States.{whole}
use Rattle.spec_model.specs.Admitting.{IsLegal, is_own, batch_outputs, header_outputs}
use Rattle.spec_model.specs.Giving.{is_given, given}
use Rattle.spec_model.specs.Histories.{History, batches, headers, received, as_batch, as_header, as_certificate}
use Rattle.spec_model.specs.Holdings.{voted_header, voted_digest, completed, certificates, genesis, order}
use Rattle.spec_laws.specs.Laws.{OrderGrows, GivenGrows}
use Rattle.committee.specs.Charter.{numbers}
use Rattle.spec_model.specs.Nodes.{Node, size_of}
use Rattle.spec_model.specs.Slots.{is_of_slot, same_digest, header_digest}
use Rattle.spec_laws.proofs.Legal.{Adds, legal-grows}
use Rattle.spec_laws.proofs.Lists.{given_or_none, Contains-nothing, Contains-cases, Contains-first, Contains-later, Contains-made, Contains-makes, filter_map-push, nothing_found}
use Rattle.spec_laws.proofs.NewEvents.{new_vote}
use Rattle.spec_laws.proofs.SlotsGrow.{completed-same, completed-other, completed-header}
use Rattle.spec_laws.proofs.Votes.{voted_header-push, slot_is}

-- an own certificate stays as it is with each event
completed_stays : (node : Node) (history : History) (sender : Author) (m : Message) → Adds node history (record { sender = sender; message = m })
    → (header : Header) (certificate : Certificate) → Contains (headers history) header → completed node history header ≡ Some certificate
    → completed node (history ++ record { sender = sender; message = m } ∷ []) header ≡ Some certificate
completed_stays node history sender (message.Vote vote) adds header certificate inside made =
    let event : Event = record { sender = sender; message = message.Vote vote } in
    elim (cases_Bool (is_of_slot vote.round vote.author.0 header.body)) [
      | inl on ↦
          let new = new_vote node history (whole node (history ++ event ∷ [])) vote adds.new in
          let place = slot_is vote.round vote.author.0 header.body on in
          let own = eqb-true vote.author.0 node.own.0 new.own in
          let of = completed-header node history header certificate made in
          let first = map genesis (numbers (size_of node)) in
          let inside' : Contains (certificates node history) certificate =
          Contains-append_right (first ++ received history) (filter_map (completed node history) (headers history)) certificate
          (Contains-makes (completed node history) (headers history) header certificate inside made) in
          let in_slot : is_of_slot vote.round node.own.0 certificate.header ≡ true =
          ap (is_of_slot vote.round node.own.0) of ∙ ap (λ a. is_of_slot vote.round a header.body) (sym own) ∙ on in
          absurd (nothing_found (λ c. is_of_slot vote.round node.own.0 c.header) (certificates node history) certificate new.free inside' in_slot)
      | inr other ↦ completed-other node history sender vote header other ∙ made
    ]
completed_stays node history sender (message.Batch batch) adds header certificate inside made =
    completed-same node history (record { sender = sender; message = message.Batch batch }) header (λ voter. refl) ∙ made
completed_stays node history sender (message.BatchAck ack) adds header certificate inside made =
    completed-same node history (record { sender = sender; message = message.BatchAck ack }) header (λ voter. refl) ∙ made
completed_stays node history sender (message.Header new) adds header certificate inside made =
    completed-same node history (record { sender = sender; message = message.Header new }) header (λ voter. refl) ∙ made
completed_stays node history sender (message.Certificate new) adds header certificate inside made =
    completed-same node history (record { sender = sender; message = message.Certificate new }) header (λ voter. refl) ∙ made
completed_stays node history sender (message.Coin coin) adds header certificate inside made =
    completed-same node history (record { sender = sender; message = message.Coin coin }) header (λ voter. refl) ∙ made

-- so does each certificate
certificate_stays : (node : Node) (history : History) (event : Event) (certificate : Certificate) → Adds node history event
    → Contains (certificates node history) certificate → Contains (certificates node (history ++ event ∷ [])) certificate
certificate_stays node history event certificate adds inside =
    let first = map genesis (numbers (size_of node)) in
    let later = history ++ event ∷ [] in
    let own = filter_map (completed node later) (headers later) in
    elim (Contains-append_cases (first ++ received history) (filter_map (completed node history) (headers history)) certificate inside) [
      | inl front ↦ elim (Contains-append_cases first (received history) certificate front) [
        | inl genesis ↦ Contains-append_left (first ++ received later) own certificate (Contains-append_left first (received later) certificate genesis)
        | inr came ↦
            let more = Contains-append_left (received history) (option_to_list (as_certificate event.message)) certificate came in
            let came' = subst (λ l. Contains l certificate) (sym (filter_map-push (λ e. as_certificate e.message) history event)) more in
            Contains-append_left (first ++ received later) own certificate (Contains-append_right first (received later) certificate came')
      ]
      | inr made ↦
          let found = Contains-made (completed node history) (headers history) certificate made in
          let more = Contains-append_left (headers history) (option_to_list (as_header event.message)) found.0 found.1 in
          let inside' = subst (λ l. Contains l found.0) (sym (filter_map-push (λ e. as_header e.message) history event)) more in
          let stays = completed_stays node history event.sender event.message adds found.0 certificate found.1 found.2 in
          Contains-append_right (first ++ received later) own certificate (Contains-makes (completed node later) (headers later) found.0 certificate inside' stays)
    ]

-- and each header that has a vote
pub header_stays : (history : History) (event : Event) (round author : ℕ) (header : Header) → voted_header history round author ≡ Some header
    → voted_header (history ++ event ∷ []) round author ≡ Some header
header_stays history event round author header held = voted_header-push history event round author ∙ rw held refl

-- so an own certificate may still be given out
is_given-stays : (node : Node) (history : History) (event : Event) (certificate : Certificate) → is_given node history certificate ≡ true → is_given node (history ++ event ∷ []) certificate ≡ true
is_given-stays node history event certificate given =
    elim (given_or_none (voted_header history certificate.header.round node.own.0)) [
      | inl found ↦
          let now = rw found.1 at given in
          let later = header_stays history event certificate.header.round node.own.0 found.0 found.1 in
          rw later now
      | inr none ↦
          let parts = and_parts (is_own node certificate.header.author)
          (option_map_or (same_digest (header_digest certificate.header)) (voted_digest history certificate.header.round node.own.0) false) given
          in
          let now = rw none at parts.1 in
          absurd cc
    ]

-- what is picked of a list, and given a form
picked_of : {X Y : Type 0} (form : X → Y) (test : X → Bool) (xs : List X) (y : Y) → Contains (map form (filter test xs)) y → (x : X) × Contains xs x × (test x ≡ true) × (form x ≡ y)
picked_of form test [] y inside = absurd (Contains-nothing y inside)
picked_of form test (x ∷ xs) y inside =
    elim (cases_Bool (test x)) [
      | inl here ↦
          let inside' = rw here at inside in
          elim (Contains-cases (form x) (map form (filter test xs)) y inside') [
            | inl same ↦ (x, Contains-first xs x, here, same)
            | inr rest ↦ let found = picked_of form test xs y rest in (found.0, Contains-later x xs found.0 found.1, found.2, found.3)
          ]
      | inr other ↦
          let inside' = rw other at inside in
          let found = picked_of form test xs y inside' in (found.0, Contains-later x xs found.0 found.1, found.2, found.3)
    ]

pub picks : {X Y : Type 0} (form : X → Y) (test : X → Bool) (xs : List X) (x : X) → Contains xs x → test x ≡ true → Contains (map form (filter test xs)) (form x)
picks form test [] x inside passes = absurd (Contains-nothing x inside)
picks form test (z ∷ xs) x inside passes =
    elim (cases_Bool (test z)) [
      | inl here ↦ elim (Contains-cases z xs x inside) [
        | inl same ↦ rw here (subst (λ w. Contains (form z ∷ map form (filter test xs)) (form w)) same (Contains-first (map form (filter test xs)) (form z)))
        | inr rest ↦ rw here (Contains-later (form z) (map form (filter test xs)) (form x) (picks form test xs x rest passes))
      ]
      | inr other ↦ elim (Contains-cases z xs x inside) [
        | inl same ↦ absurd (true≢false (sym passes ∙ ap test (sym same) ∙ other))
        | inr rest ↦ rw other (picks form test xs x rest passes)
      ]
    ]

-- what is given for each element stays given for a longer list
given_longer : {X : Type 0} (outputs : X → List Output) (xs more : List X) (o : Output) → Contains (flat_map outputs xs) o → Contains (flat_map outputs (xs ++ more)) o
given_longer outputs xs more o inside =
    subst (λ l. Contains l o) (sym (flat_map-append outputs xs more)) (Contains-append_left (flat_map outputs xs) (flat_map outputs more) o inside)

-- what is given stays so with each event
given_push : (node : Node) (o : Output) (history : History) (event : Event) → Adds node history event → Contains (given node history) o → Contains (given node (history ++ event ∷ [])) o
given_push node o history event adds inside =
    let later = history ++ event ∷ [] in
    let for_batches = flat_map (batch_outputs node) (batches history) in
    let for_headers = flat_map (header_outputs node) (headers history) in
    let batches_later = flat_map (batch_outputs node) (batches later) in
    let headers_later = flat_map (header_outputs node) (headers later) in
    let own = map (λ c. output.Certificate c) (filter (is_given node history) (certificates node history)) in
    let own_later = map (λ c. output.Certificate c) (filter (is_given node later) (certificates node later)) in
    elim (Contains-append_cases (for_batches ++ for_headers) own o inside) [
      | inl front ↦ elim (Contains-append_cases for_batches for_headers o front) [
        | inl batch ↦
            let more = given_longer (batch_outputs node) (batches history) (option_to_list (as_batch event.message)) o batch in
            let now = subst (λ l. Contains (flat_map (batch_outputs node) l) o) (sym (filter_map-push (λ e. as_batch e.message) history event)) more in
            Contains-append_left (batches_later ++ headers_later) own_later o (Contains-append_left batches_later headers_later o now)
        | inr header ↦
            let more = given_longer (header_outputs node) (headers history) (option_to_list (as_header event.message)) o header in
            let now = subst (λ l. Contains (flat_map (header_outputs node) l) o) (sym (filter_map-push (λ e. as_header e.message) history event)) more in
            Contains-append_left (batches_later ++ headers_later) own_later o (Contains-append_right batches_later headers_later o now)
      ]
      | inr made ↦
          let found = picked_of (λ c. output.Certificate c) (is_given node history) (certificates node history) o made in
          let now = picks (λ c. output.Certificate c) (is_given node later) (certificates node later) found.0
          (certificate_stays node history event found.0 adds found.1) (is_given-stays node history event found.0 found.2) in
          Contains-append_right (batches_later ++ headers_later) own_later o (subst (λ p. Contains own_later p) found.3 now)
    ]

given_stays : (node : Node) (history more : History) (output : Output) → IsLegal node (history ++ more) → Contains (given node history) output → Contains (given node (history ++ more)) output
given_stays node history more o legal = legal-grows node (λ h. Contains (given node h) o) (given_push node o) history more legal

-- a piece of a list is one of each list that it begins
same_piece : (digests one more : List Digest) (start : ℕ) → digests ≡ take (length digests) (drop start one) → digests ≡ take (length digests) (drop start (one ++ more))
same_piece digests one more start is =
    let long : length digests ≡ min (length digests) (length one - start) =
    ap length is ∙ length-take (length digests) (drop start one) ∙ ap (min (length digests)) (length-drop start one) in
    elim (cases_lt (length one) start) [
      | inl past ↦
          let none : length digests ≡ 0 = omega (arith, long, past) in
          is ∙ ap (λ n. take n (drop start one)) none ∙ sym (ap (λ n. take n (drop start (one ++ more))) none)
      | inr within ↦
          let few : length digests ≤ length (drop start one) = omega (arith, long, within, length-drop start one) in
          is ∙ sym (take-append-le (length digests) (drop start one) more few) ∙ ap (take (length digests)) (sym (drop-append-le start one more within))
    ]

pub given_grows : OrderGrows → GivenGrows
given_grows grows node history more (output.Order start digests) legal may =
    let grown = grows node history more legal in
    record {
      some = may.some;
      few = may.few;
      stands = subst (λ l. digests ≡ take (length digests) (drop start l)) (sym grown.parts) (same_piece digests (order node history) grown.rest start may.stands);
    }
given_grows grows node history more (output.Batch batch) legal may = given_stays node history more (output.Batch batch) legal may
given_grows grows node history more (output.Ack to ack) legal may = given_stays node history more (output.Ack to ack) legal may
given_grows grows node history more (output.Header header) legal may = given_stays node history more (output.Header header) legal may
given_grows grows node history more (output.Vote vote) legal may = given_stays node history more (output.Vote vote) legal may
given_grows grows node history more (output.Certificate certificate) legal may = given_stays node history more (output.Certificate certificate) legal may
