-- What admission puts out may be given out.
use Rattle.std.proofs.Common.{◌≡◌, ℕ, ◌+◌, ◌*◌, ◌/◌, ◌<◌, min, zero, suc, ◌-◌, Bool, true, false, List, [], ◌∷◌, ◌++◌, map, length, take, drop}
use Rattle.std.proofs.Common.{Option, Some, None, inl, inr, refl, ap, sym, ◌∙◌, subst, arith}
use Rattle.std.specs.Prelude.{All, Contains, filter, flat_map, nat_le, ◌==◌, ◌||◌, slice_get, option_map, filter_map, if◌then◌else◌}
use Rattle.std.specs.List.{list_all, range_with_len}
use Rattle.std.specs.Str.{bytes_eq}
use Rattle.std.specs.Option.{option_map_or, option_to_list}
use Rattle.std.proofs.Math.Nat.{mul-div-le}
use Rattle.std.proofs.lemmas.Bool.{cases_Bool, and_parts, and_from, eqb-true}
use Rattle.std.proofs.lemmas.Slice.Eq.{bytes_eq-Decides}
use Rattle.std.proofs.lemmas.List.{length-take, length-drop, drop-drop}
use Rattle.std.proofs.lemmas.List.Elements.{All-nil, All-cons, All-append, All-map, Contains-append_left, Contains-append_right, Contains-push}
use Rattle.wire.specs.Batches.{batch_body}
use Rattle.wire.specs.Digests.{certificate_digest_of}
use Rattle.wire.specs.declared.message.Message.TheVariants as message
use Rattle.wire.specs.declared.output.Output.TheVariants as output
use Rattle.spec_model.specs.Admitting.{admit, is_own, batch_outputs, header_outputs, pieces, piece_at, order_outputs, batch_answer, ack_answer}
use Rattle.spec_model.specs.Admitting.{header_answer, may_name, vote_answer, held_answer, certificate_answer, same_header, coin_answer}
use Rattle.spec_model.specs.Giving.{is_given, given, IsPiece, MayGive}
use Rattle.spec_model.specs.Histories.{History, batches, headers, coins, received, as_batch, as_header}
use Rattle.spec_model.specs.Holdings.{batch_digest, batch_at, has_acked, is_low, is_full, all_held, own_vote, counted_vote, voted_header}
use Rattle.spec_model.specs.Holdings.{voted_digest, completed, certificates, genesis, slots, order, floor}
use Rattle.spec_laws.specs.Laws.{PutsOutGiven, OutputsGiven}
use Rattle.committee.specs.Charter.{numbers}
use Rattle.spec_model.specs.Nodes.{Node, size_of}
use Rattle.spec_model.specs.Slots.{same_digest, header_digest, certificate_digest, is_of_slot}
use Rattle.spec_model.specs.States.{whole, has_own_batch, completed_at}
use Rattle.spec_model.specs.Words.{Author, BatchAck, Certificate, Coin, BatchView, Digest, Event, Header, HeaderBody, Message, Output, Vote}
use Rattle.spec_laws.proofs.Lists.{given_or_none, Contains-cases, Contains-first, Contains-nothing, Contains-makes, filter_map-push, found_passes}
use Rattle.spec_laws.proofs.Given.{header_stays, picks}
use Rattle.spec_laws.proofs.SlotsGrow.{completed-header, completed_is}
use Rattle.spec_laws.proofs.Votes.{slot_is}

-- what is given for an element of a list is given for the list
given_of : {X : Type 0} (outputs : X → List Output) (xs : List X) (x : X) (o : Output) → Contains xs x → Contains (outputs x) o → Contains (flat_map outputs xs) o
given_of outputs [] x o inside of = absurd (Contains-nothing x inside)
given_of outputs (z ∷ xs) x o inside of =
    elim (Contains-cases z xs x inside) [
      | inl same ↦ Contains-append_left (outputs z) (flat_map outputs xs) o (subst (λ w. Contains (outputs w) o) (sym same) of)
      | inr rest ↦ Contains-append_right (outputs z) (flat_map outputs xs) o (given_of outputs xs x o rest of)
    ]

-- what a batch that is held puts out may be given out
batch_in_given : (node : Node) (history : History) (batch : BatchView) (o : Output) → Contains (batches history) batch → Contains (batch_outputs node batch) o → Contains (given node history) o
batch_in_given node history batch o inside of =
    let for_batches = flat_map (batch_outputs node) (batches history) in
    let for_headers = flat_map (header_outputs node) (headers history) in
    Contains-append_left (for_batches ++ for_headers) (map (λ c. output.Certificate c) (filter (is_given node history) (certificates node history))) o
    (Contains-append_left for_batches for_headers o (given_of (batch_outputs node) (batches history) batch o inside of))

-- an output by itself
alone : (node : Node) (history : History) (outputs : List Output) (o : Output) → outputs ≡ o ∷ [] → (Contains outputs o → MayGive node history o) → All (MayGive node history) outputs
alone node history outputs o is may =
    let inside : Contains outputs o = subst (λ l. Contains l o) (sym is) (Contains-first [] o) in
    subst (All (MayGive node history)) (sym is) (All-cons (MayGive node history) o [] (may inside) (All-nil (MayGive node history)))

batch_given : (node : Node) (history : History) (batch : BatchView) → Contains (batches history) batch → All (MayGive node history) (batch_outputs node batch)
batch_given node history batch inside =
    let in_given : (o : Output) → Contains (batch_outputs node batch) o → Contains (given node history) o = λ o of. batch_in_given node history batch o inside of in
    let ack : Output = output.Ack batch.author (record { author = node.own; batch = batch_digest batch }) in
    elim (cases_Bool (is_own node batch.author)) [
      | inl own ↦ alone node history (batch_outputs node batch) (output.Batch batch) (ap (λ b. (if b then output.Batch batch else ack) ∷ []) own) (in_given (output.Batch batch))
      | inr foreign ↦ alone node history (batch_outputs node batch) ack (ap (λ b. (if b then output.Batch batch else ack) ∷ []) foreign) (in_given ack)
    ]

-- what a header that is held puts out
header_in_given : (node : Node) (history : History) (header : Header) (o : Output) → Contains (headers history) header → Contains (header_outputs node header) o → Contains (given node history) o
header_in_given node history header o inside of =
    let for_batches = flat_map (batch_outputs node) (batches history) in
    let for_headers = flat_map (header_outputs node) (headers history) in
    Contains-append_left (for_batches ++ for_headers) (map (λ c. output.Certificate c) (filter (is_given node history) (certificates node history))) o
    (Contains-append_right for_batches for_headers o (given_of (header_outputs node) (headers history) header o inside of))

header_given : (node : Node) (history : History) (header : Header) → Contains (headers history) header → All (MayGive node history) (header_outputs node header)
header_given node history header inside =
    let in_given : (o : Output) → Contains (header_outputs node header) o → Contains (given node history) o = λ o of. header_in_given node history header o inside of in
    let vote : Output = output.Vote (own_vote node header.body) in
    elim (cases_Bool (is_own node header.body.author)) [
      | inl own ↦ alone node history (header_outputs node header) (output.Header header) (ap (λ b. (if b then output.Header header else vote) ∷ []) own) (in_given (output.Header header))
      | inr foreign ↦ alone node history (header_outputs node header) vote (ap (λ b. (if b then output.Header header else vote) ∷ []) foreign) (in_given vote)
    ]

-- a certificate
certificate_given : (node : Node) (history : History) (certificate : Certificate) → Contains (certificates node history) certificate → is_given node history certificate ≡ true
    → MayGive node history (output.Certificate certificate)
certificate_given node history certificate inside own =
    Contains-append_right (flat_map (batch_outputs node) (batches history) ++ flat_map (header_outputs node) (headers history))
    (map (λ c. output.Certificate c) (filter (is_given node history) (certificates node history))) (output.Certificate certificate)
    (picks (λ c. output.Certificate c) (is_given node history) (certificates node history) certificate inside own)

-- as many as were taken are taken again
take_same : {X : Type 0} (n : ℕ) (xs : List X) → take n xs ≡ take (length (take n xs)) xs
take_same zero xs = refl
take_same (suc n) [] = refl
take_same (suc n) (x ∷ xs) = ap (λ l. x ∷ l) (take_same n xs)

-- the pieces of what an order has after a beginning
piece_given : (order : List Digest) (place piece : ℕ) → piece < (length (drop place order) + 15999) / 16000
    → IsPiece order (place + 16000 * piece) (take 16000 (drop (16000 * piece) (drop place order)))
piece_given order place piece within =
    let after = drop place order in
    let rest = drop (16000 * piece) after in
    let whole = mul-div-le (length after + 15999) 16000 in
    let starts : 16000 * piece < length after = omega (arith, whole, within) in
    let long : length (take 16000 rest) ≡ min 16000 (length after - 16000 * piece) = length-take 16000 rest ∙ ap (min 16000) (length-drop (16000 * piece) after) in
    record {
      some = omega (arith, long, starts);
      few = omega (arith, long);
      stands = take_same 16000 rest ∙ ap (take (length (take 16000 rest))) (drop-drop (16000 * piece) place order);
    }

all_of_range : (P : ℕ → Type 0) (from count : ℕ) → ((i : ℕ) → i < from + count → P i) → All P (range_with_len from count)
all_of_range P from zero each = All-nil P
all_of_range P from (suc count) each =
    All-cons P from (range_with_len (from + 1) count) (each from (omega arith)) (all_of_range P (from + 1) count (λ i less. each i (omega (arith, less))))

pieces_given : (node : Node) (history : History) (place : ℕ) → All (MayGive node history) (pieces place (drop place (order node history)))
pieces_given node history place =
    let count = (length (drop place (order node history)) + 15999) / 16000 in
    All-map (MayGive node history) (piece_at place (drop place (order node history))) (range_with_len 0 count)
    (all_of_range (λ i. MayGive node history (piece_at place (drop place (order node history)) i)) 0 count
    (λ i less. piece_given (order node history) place i (omega (arith, less))))

-- ---- each kind of event

batch_put : (node : Node) (history : History) (sender : Author) (batch : BatchView)
    → PutsOutGiven node history (record { sender = sender; message = message.Batch batch }) (batch_answer node (whole node history) batch)
batch_put node history sender batch =
    elim (given_or_none (batch_at history (batch_digest batch))) [
      | inl found ↦
          let held = found_passes (λ b. same_digest (batch_digest b) (batch_digest batch)) (batches history) found.0 found.1 in
          elim (cases_Bool (bytes_eq (batch_body found.0) (batch_body batch))) [
            | inl same ↦ rw (found.1, same) (batch_given node history found.0 held.1)
            | inr other ↦ rw (found.1, other) tt
          ]
      | inr none ↦ elim (cases_Bool (nat_le node.charter.batches (length (batches history)))) [
        | inl full ↦ rw (none, full) tt
        | inr room ↦
            let event : Event = record { sender = sender; message = message.Batch batch } in
            let inside = subst (λ l. Contains l batch) (sym (filter_map-push (λ e. as_batch e.message) history event)) (Contains-push (batches history) batch) in
            rw (none, room) (batch_given node (history ++ event ∷ []) batch inside)
      ]
    ]

ack_put : (node : Node) (history : History) (sender : Author) (ack : BatchAck)
    → PutsOutGiven node history (record { sender = sender; message = message.BatchAck ack }) (ack_answer node (whole node history) ack)
ack_put node history sender ack =
    elim (cases_Bool (has_own_batch node (whole node history) ack.batch)) [
      | inr none ↦ rw none tt
      | inl own ↦ elim (cases_Bool (is_own node ack.author || has_acked history ack.batch ack.author.0)) [
        | inl before ↦ rw (own, before) (All-nil (MayGive node history))
        | inr new ↦ rw (own, new) (All-nil (MayGive node (history ++ record { sender = sender; message = message.BatchAck ack } ∷ [])))
      ]
    ]

abbrev vote_of : Node → Digest → ℕ → Author → Vote
vote_of node digest round author = record {
  header = digest;
  round = round;
  author = author;
  voter = node.own;
  signature = node.sign (record { 0 = certificate_digest_of digest.0 round author.0 });
}

-- two headers of one slot and digest get one vote
one_vote_for : (node : Node) (one other : HeaderBody) → one.round ≡ other.round → one.author.0 ≡ other.author.0 → header_digest one ≡ header_digest other → own_vote node one ≡ own_vote node other
one_vote_for node one other round author digest =
    ap (λ r. vote_of node (header_digest one) r one.author) round
    ∙ ap (λ a. vote_of node (header_digest one) other.round (record { 0 = a })) author
    ∙ ap (λ d. vote_of node d other.round other.author) digest

foreign_outputs : (node : Node) (one other : Header) → is_own node one.body.author ≡ false → one.body.round ≡ other.body.round → one.body.author.0 ≡ other.body.author.0
    → header_digest one.body ≡ header_digest other.body → header_outputs node one ≡ header_outputs node other
foreign_outputs node one other foreign round author digest =
    let also : is_own node other.body.author ≡ false = ap (λ a. a == node.own.0) (sym author) ∙ foreign in
    rw (foreign, also) (ap (λ v. output.Vote v ∷ []) (one_vote_for node one.body other.body round author digest))

-- a header that is new may be given out at the history with it
new_header_put : (node : Node) (history : History) (sender : Author) (header : Header)
    → All (MayGive node (history ++ record { sender = sender; message = message.Header header } ∷ [])) (header_outputs node header)
new_header_put node history sender header =
    let event : Event = record { sender = sender; message = message.Header header } in
    let inside = subst (λ l. Contains l header) (sym (filter_map-push (λ e. as_header e.message) history event)) (Contains-push (headers history) header) in
    header_given node (history ++ event ∷ []) header inside

abbrev outputs_if : Node → Header → Bool → List Output
outputs_if node header own = (if own then output.Header header else output.Vote (own_vote node header.body)) ∷ []

own_header_put : (node : Node) (history : History) (sender : Author) (header : Header) → is_own node header.body.author ≡ true
    → PutsOutGiven node history (record { sender = sender; message = message.Header header }) (header_answer node (whole node history) header)
own_header_put node history sender header own =
    let event : Event = record { sender = sender; message = message.Header header } in
    elim (cases_Bool (is_low (floor node history) header.body.round)) [
      | inl low ↦ rw low tt
      | inr high ↦ elim (given_or_none (voted_header history header.body.round node.own.0)) [
        | inl found ↦
            let held = found_passes (λ h. is_of_slot header.body.round node.own.0 h.body) (headers history) found.0 found.1 in
            elim (cases_Bool (same_digest (header_digest found.0.body) (header_digest header.body))) [
              | inl same ↦ rw (high, own, found.1, same) (header_given node history found.0 held.1)
              | inr other ↦ rw (high, own, found.1, other) tt
            ]
        | inr none ↦ elim (cases_Bool (all_held (slots node history) (floor node history) header.body)) [
          | inr missing ↦ rw (high, own, none, missing) tt
          | inl held ↦ elim (cases_Bool (list_all (may_name node (whole node history) header) header.body.batches)) [
            | inr missing ↦ rw (high, own, none, held, missing) tt
            | inl named ↦
                let given = subst (λ b. All (MayGive node (history ++ event ∷ [])) (outputs_if node header b)) own (new_header_put node history sender header) in
                rw (high, own, none, held, named) given
          ]
        ]
      ]
    ]

foreign_header_put : (node : Node) (history : History) (sender : Author) (header : Header) → is_own node header.body.author ≡ false
    → PutsOutGiven node history (record { sender = sender; message = message.Header header }) (header_answer node (whole node history) header)
foreign_header_put node history sender header foreign =
    let event : Event = record { sender = sender; message = message.Header header } in
    elim (cases_Bool (is_low (floor node history) header.body.round)) [
      | inl low ↦ rw low tt
      | inr high ↦ elim (given_or_none (voted_header history header.body.round header.body.author.0)) [
        | inl found ↦
            let held = found_passes (λ h. is_of_slot header.body.round header.body.author.0 h.body) (headers history) found.0 found.1 in
            let place = slot_is header.body.round header.body.author.0 found.0.body held.0 in
            elim (cases_Bool (same_digest (header_digest found.0.body) (header_digest header.body))) [
              | inl same ↦
                  let digest : header_digest found.0.body ≡ header_digest header.body =
                  ap (λ (bytes : List ℕ). record { 0 = bytes }) ((bytes_eq-Decides (header_digest found.0.body).0 (header_digest header.body).0).0 same) in
                  let outputs = foreign_outputs node found.0 header (ap (λ a. a == node.own.0) place.1 ∙ foreign) place.0 place.1 digest in
                  let given = subst (λ b. All (MayGive node history) (outputs_if node header b)) foreign (subst (All (MayGive node history)) outputs (header_given node history found.0 held.1)) in
                  rw (high, foreign, found.1, same) given
              | inr other ↦ rw (high, foreign, found.1, other) tt
            ]
        | inr none ↦ elim (cases_Bool (all_held (slots node history) (floor node history) header.body)) [
          | inr missing ↦ rw (high, foreign, none, missing) tt
          | inl held ↦ elim (cases_Bool (list_all (may_name node (whole node history) header) header.body.batches)) [
            | inr missing ↦ rw (high, foreign, none, held, missing) tt
            | inl named ↦
                let given = subst (λ b. All (MayGive node (history ++ event ∷ [])) (outputs_if node header b)) foreign (new_header_put node history sender header) in
                rw (high, foreign, none, held, named) given
          ]
        ]
      ]
    ]

header_put : (node : Node) (history : History) (sender : Author) (header : Header)
    → PutsOutGiven node history (record { sender = sender; message = message.Header header }) (header_answer node (whole node history) header)
header_put node history sender header =
    elim (cases_Bool (is_own node header.body.author)) [ inl own ↦ own_header_put node history sender header own | inr foreign ↦ foreign_header_put node history sender header foreign ]

certificate_put : (node : Node) (history : History) (sender : Author) (certificate : Certificate)
    → PutsOutGiven node history (record { sender = sender; message = message.Certificate certificate })
    (certificate_answer node (whole node history)
    (whole node (history ++ record { sender = sender; message = message.Certificate certificate } ∷ [])) certificate)
certificate_put node history sender certificate =
    let event : Event = record { sender = sender; message = message.Certificate certificate } in
    elim (cases_Bool (is_low (floor node history) certificate.header.round)) [
      | inl low ↦ rw low tt
      | inr high ↦ elim (given_or_none (slots node history certificate.header.round certificate.header.author.0)) [
        | inl found ↦ elim (cases_Bool (same_digest (certificate_digest found.0.header) (certificate_digest certificate.header))) [
          | inr other ↦ rw (high, found.1, other) tt
          | inl digest ↦ elim (cases_Bool (same_header found.0.header certificate.header)) [
            | inl same ↦ rw (high, found.1, digest, same) (All-nil (MayGive node history))
            | inr other ↦ rw (high, found.1, digest, other) tt
          ]
        ]
        | inr none ↦ elim (cases_Bool (all_held (slots node history) (floor node history) certificate.header)) [
          | inl held ↦ rw (high, none, held) (pieces_given node (history ++ event ∷ []) (length (order node history)))
          | inr missing ↦ rw (high, none, missing) tt
        ]
      ]
    ]

coin_put : (node : Node) (history : History) (sender : Author) (coin : Coin)
    → PutsOutGiven node history (record { sender = sender; message = message.Coin coin })
    (coin_answer node (whole node history) (whole node (history ++ record { sender = sender; message = message.Coin coin } ∷ [])) sender coin)
coin_put node history sender coin =
    let event : Event = record { sender = sender; message = message.Coin coin } in
    elim (cases_Bool (is_own node sender)) [
      | inr foreign ↦ rw foreign tt
      | inl own ↦ elim (given_or_none (slice_get (coins history) (coin.wave - 1))) [
        | inl taken ↦ elim (cases_Bool (taken.0 == coin.value)) [ inl same ↦ rw (own, taken.1, same) (All-nil (MayGive node history)) | inr other ↦ rw (own, taken.1, other) tt ]
        | inr none ↦ elim (cases_Bool (coin.wave == length (coins history) + 1)) [
          | inr out ↦ rw (own, none, out) tt
          | inl turn ↦ elim (cases_Bool (is_full node (slots node history) (2 * coin.wave + 1))) [
            | inr early ↦ rw (own, none, turn, early) tt
            | inl full ↦ rw (own, none, turn, full) (pieces_given node (history ++ event ∷ []) (length (order node history)))
          ]
        ]
      ]
    ]

-- the certificate of an own header whose vote is the node's
made_given : (node : Node) (history : History) (header : Header) (certificate : Certificate) → voted_header history header.body.round node.own.0 ≡ Some header → certificate.header ≡ header.body
    → is_own node header.body.author ≡ true → is_given node history certificate ≡ true
made_given node history header certificate held of own =
    let here : is_own node certificate.header.author ≡ true = ap (λ (h : HeaderBody). is_own node h.author) of ∙ own in
    let headed : voted_header history certificate.header.round node.own.0 ≡ Some header = ap (λ (h : HeaderBody). voted_header history h.round node.own.0) of ∙ held in
    let digest : same_digest (header_digest certificate.header) (header_digest header.body) ≡ true =
    (bytes_eq-Decides (header_digest certificate.header).0 (header_digest header.body).0).1 (ap (λ (h : HeaderBody). (header_digest h).0) of) in
    let voted_is : voted_digest history certificate.header.round node.own.0 ≡ Some (header_digest header.body) = ap (option_map (λ (h : Header). header_digest h.body)) headed in
    and_from _ _ here (ap (λ o. option_map_or (same_digest (header_digest certificate.header)) o false) voted_is ∙ digest)

completes_given : (node : Node) (history : History) (sender : Author) (vote : Vote) (header : Header) → voted_header history vote.round node.own.0 ≡ Some header
    → (made : Option Certificate) → completed node (history ++ record { sender = sender; message = message.Vote vote } ∷ []) header ≡ made
    → All (MayGive node (history ++ record { sender = sender; message = message.Vote vote } ∷ [])) (map (λ c. output.Certificate c) (option_to_list made))
completes_given node history sender vote header held None made = All-nil (MayGive node (history ++ record { sender = sender; message = message.Vote vote } ∷ []))
completes_given node history sender vote header held (Some certificate) made =
    let event : Event = record { sender = sender; message = message.Vote vote } in
    let later = history ++ event ∷ [] in
    let facts = found_passes (λ h. is_of_slot vote.round node.own.0 h.body) (headers history) header held in
    let parts = and_parts (header.body.round == vote.round) (header.body.author.0 == node.own.0) facts.0 in
    let inside = subst (λ l. Contains l header) (sym (filter_map-push (λ e. as_header e.message) history event)) (Contains-append_left (headers history) [] header facts.1) in
    let there : Contains (certificates node later) certificate =
    Contains-append_right (map genesis (numbers (size_of node)) ++ received later) (filter_map (completed node later) (headers later)) certificate
    (Contains-makes (completed node later) (headers later) header certificate inside made) in
    let headed : voted_header later header.body.round node.own.0 ≡ Some header = ap (λ r. voted_header later r node.own.0) (eqb-true _ _ parts.0)
    ∙ header_stays history event vote.round node.own.0 header held in
    All-cons (MayGive node later) (output.Certificate certificate) []
    (certificate_given node later certificate there (made_given node later header certificate headed (completed-header node later header certificate made) parts.1))
    (All-nil (MayGive node later))

held_put : (node : Node) (history : History) (event : Event) (vote : Vote) (header : Header) (held : Certificate) → voted_header history vote.round node.own.0 ≡ Some header
    → same_digest (header_digest header.body) vote.header ≡ true → slots node history vote.round node.own.0 ≡ Some held → PutsOutGiven node history event (held_answer held vote)
held_put node history event vote header held headed same in_slot =
    elim (cases_Bool (same_digest (header_digest held.header) vote.header)) [
      | inr other ↦ rw other tt
      | inl also ↦
          let facts = found_passes (λ c. is_of_slot vote.round node.own.0 c.header) (certificates node history) held in_slot in
          let parts = and_parts (held.header.round == vote.round) (held.header.author.0 == node.own.0) facts.0 in
          let round = eqb-true held.header.round vote.round parts.0 in
          let voted_is : voted_digest history held.header.round node.own.0 ≡ Some (header_digest header.body) =
          ap (λ r. voted_digest history r node.own.0) round ∙ ap (option_map (λ (h : Header). header_digest h.body)) headed in
          let bytes : (header_digest held.header).0 ≡ (header_digest header.body).0 =
          (bytes_eq-Decides (header_digest held.header).0 vote.header.0).0 also ∙ sym ((bytes_eq-Decides (header_digest header.body).0 vote.header.0).0 same) in
          let digest : same_digest (header_digest held.header) (header_digest header.body) ≡ true = (bytes_eq-Decides (header_digest held.header).0 (header_digest header.body).0).1 bytes in
          let own : is_given node history held ≡ true =
          and_from _ _ parts.1 (ap (λ o. option_map_or (same_digest (header_digest held.header)) o false) voted_is ∙ digest) in
          rw also (All-cons (MayGive node history) (output.Certificate held) [] (certificate_given node history held facts.1 own) (All-nil (MayGive node history)))
    ]

vote_put : (node : Node) (history : History) (sender : Author) (vote : Vote)
    → PutsOutGiven node history (record { sender = sender; message = message.Vote vote })
    (vote_answer node (whole node history) (whole node (history ++ record { sender = sender; message = message.Vote vote } ∷ [])) vote)
vote_put node history sender vote =
    let event : Event = record { sender = sender; message = message.Vote vote } in
    elim (cases_Bool (is_own node vote.author)) [
      | inr foreign ↦ rw foreign tt
      | inl own ↦ elim (cases_Bool (is_low (floor node history) vote.round)) [
        | inl low ↦ rw (own, low) tt
        | inr high ↦ elim (given_or_none (voted_header history vote.round node.own.0)) [
          | inr none ↦ rw (own, high, none) tt
          | inl found ↦ elim (cases_Bool (same_digest (header_digest found.0.body) vote.header)) [
            | inr other ↦ rw (own, high, found.1, other) tt
            | inl same ↦ elim (given_or_none (slots node history vote.round node.own.0)) [
              | inl held ↦ rw (own, high, found.1, same, held.1) (held_put node history event vote found.0 held.0 found.1 same held.1)
              | inr free ↦ elim (given_or_none (counted_vote node history found.0.body vote.voter.0)) [
                | inl counted ↦ rw (own, high, found.1, same, free, counted.1) (All-nil (MayGive node history))
                | inr new ↦
                    let made = completed_is node (history ++ event ∷ []) vote.round found.0 (header_stays history event vote.round node.own.0 found.0 found.1) in
                    rw (own, high, found.1, same, free, new)
                    (All-append (MayGive node (history ++ event ∷ [])) (map (λ c. output.Certificate c) (option_to_list (completed_at node (whole node (history ++ event ∷ [])) vote.round)))
                    (order_outputs (whole node history) (whole node (history ++ event ∷ [])))
                    (completes_given node history sender vote found.0 found.1 (completed_at node (whole node (history ++ event ∷ [])) vote.round) (sym made))
                    (pieces_given node (history ++ event ∷ []) (length (order node history))))
              ]
            ]
          ]
        ]
      ]
    ]

put_by : (node : Node) (history : History) (sender : Author) (m : Message) → PutsOutGiven node history (record { sender = sender; message = m })
    (admit node history (record { sender = sender; message = m }))
put_by node history sender (message.Batch batch) = batch_put node history sender batch
put_by node history sender (message.BatchAck ack) = ack_put node history sender ack
put_by node history sender (message.Header header) = header_put node history sender header
put_by node history sender (message.Vote vote) = vote_put node history sender vote
put_by node history sender (message.Certificate certificate) = certificate_put node history sender certificate
put_by node history sender (message.Coin coin) = coin_put node history sender coin

pub outputs_given : OutputsGiven
outputs_given node history event = put_by node history event.sender event.message
