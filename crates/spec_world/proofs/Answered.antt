-- What an answer puts out ends the history at which it may be given out.
use Rattle.std.proofs.Common.{◌≡◌, ℕ, ◌+◌, ◌*◌, List, [], ◌∷◌, ◌++◌, length, Some, None, inl, inr, refl, ap, sym, ◌∙◌, subst, arith}
use Rattle.std.specs.Prelude.{All, Contains, filter, nat_le, ◌||◌, ◌==◌, ◌-◌, ◌/◌, drop, slice_get, is_some, ⊤}
use Rattle.std.specs.List.{list_all, range_with_len}
use Rattle.std.specs.Str.{bytes_eq}
use Rattle.std.proofs.lemmas.Bool.{cases_Bool}
use Rattle.std.proofs.lemmas.Option.{same_Some, none-some}
use Rattle.std.proofs.lemmas.List.Elements.{All-contains_itself, All-weaker, All-contains}
use Rattle.wire.specs.Batches.{batch_body}
use Rattle.wire.specs.declared.message.Message.TheVariants as message
use Rattle.wire.specs.declared.output.Output.TheVariants as output
use Rattle.spec_laws.specs.Laws.{PutsOutGiven}
use Rattle.spec_laws.proofs.Legal.{legal-last}
use Rattle.spec_laws.proofs.Lists.{given_or_none, Contains-nothing}
use Rattle.spec_laws.proofs.PutOut.{outputs_given}
use Rattle.spec_machine.specs.Laws.{is_order}
use Rattle.spec_machine.specs.Machine.{after}
use Rattle.spec_machine.proofs.Answering.{state_answers}
use Rattle.spec_machine.proofs.PuttingOut.{order_is_put_out}
use Rattle.spec_model.specs.Admitting.{admit, answer, is_own, batch_outputs, header_outputs, piece_at, pieces, batch_answer, ack_answer}
use Rattle.spec_model.specs.Admitting.{header_answer, may_name, held_header_answer, voted_answer, known_header_answer, vote_answer, same_header}
use Rattle.spec_model.specs.Admitting.{certificate_answer, coin_answer, IsLegal}
use Rattle.spec_model.specs.Giving.{MayGive, kept}
use Rattle.spec_model.specs.Histories.{History}
use Rattle.spec_model.specs.Holdings.{batch_digest, order, is_low, is_full, all_held}
use Rattle.spec_model.specs.Nodes.{Node}
use Rattle.spec_model.specs.Slots.{same_digest, header_digest, certificate_digest}
use Rattle.spec_model.specs.States.{State, whole, batch_in, has_own_batch, floor_in}
use Rattle.spec_model.specs.Words.{Author, BatchAck, Certificate, Coin, BatchView, Digest, Event, Header, Message, Output, Vote}
use Rattle.header.specs.declared.admission.Admission.{Admission}
use Rattle.header.specs.declared.admission.Admission.TheVariants.{New, Known, Refused}
use Rattle.spec_world.specs.Promise.{by_new, by_known}
use Rattle.spec_world.proofs.Ballots.{mapped_of, picks}
use Rattle.spec_world.proofs.Orders.{BeginsAfter, IsPut}

-- ---- a new event

abbrev start_of : Output → ℕ
start_of (output.Order start digests) = start
start_of _ = 0

-- where all pieces of the order are those after a place, each begins after it
pieces_after : (node : Node) (before : History) (event : Event) (digests : List Digest) (outputs : List Output) → filter is_order outputs ≡ pieces (length (order node before)) digests
    → (o : Output) → Contains outputs o → BeginsAfter node (before ++ event ∷ []) o
pieces_after node before event digests outputs are (output.Order start piece) inside =
    let place = length (order node before) in
    let count = (length digests + 15999) / 16000 in
    let picked = subst (λ l. Contains l (output.Order start piece)) are (picks is_order outputs (output.Order start piece) inside refl) in
    let made = mapped_of (piece_at place digests) (range_with_len 0 count) (output.Order start piece) picked in
    let at : place + 16000 * made.0 ≡ start = ap start_of made.2 in
    (before, event, refl, omega (arith, at))
pieces_after node before event digests outputs are (output.Batch batch) inside = tt
pieces_after node before event digests outputs are (output.Ack to ack) inside = tt
pieces_after node before event digests outputs are (output.Header header) inside = tt
pieces_after node before event digests outputs are (output.Vote vote) inside = tt
pieces_after node before event digests outputs are (output.Certificate certificate) inside = tt

pub new_put : (node : Node) (history : History) (event : Event) (outputs : List Output) → IsLegal node (history ++ event ∷ []) → admit node history event ≡ New outputs
    → All (IsPut node (history ++ event ∷ [])) outputs
new_put node history event outputs legal is =
    let later = history ++ event ∷ [] in
    let adds = legal-last node history event legal in
    let may : All (MayGive node later) outputs = subst (PutsOutGiven node history event) is (outputs_given node history event) in
    let out = order_is_put_out node (kept node history) event outputs (sym (state_answers node history event adds.legal adds.taken) ∙ is) in
    let digests = drop (length (kept node history).order) (after node (kept node history) event).order in
    All-weaker (Contains outputs) (IsPut node later)
    (λ o inside. record {
      by = by_new history event outputs refl is inside;
      may = All-contains (MayGive node later) outputs o may inside;
      after =
          pieces_after node history event digests outputs out.pieces o inside;
    })
    outputs (All-contains_itself outputs)

-- ---- a known event puts out no order

abbrev HasNoOrder : Admission → Type 0
HasNoOrder (New outputs) = ⊤
HasNoOrder (Known outputs) = filter is_order outputs ≡ []
HasNoOrder (Refused refusal) = ⊤

batch_apart : (node : Node) (batch : BatchView) → filter is_order (batch_outputs node batch) ≡ []
batch_apart node batch = elim (cases_Bool (is_own node batch.author)) [ inl own ↦ rw own refl | inr foreign ↦ rw foreign refl ]

header_apart : (node : Node) (header : Header) → filter is_order (header_outputs node header) ≡ []
header_apart node header = elim (cases_Bool (is_own node header.body.author)) [ inl own ↦ rw own refl | inr foreign ↦ rw foreign refl ]

known_batch : (node : Node) (now : State) (batch : BatchView) → HasNoOrder (batch_answer node now batch)
known_batch node now batch =
    elim (given_or_none (batch_in now (batch_digest batch))) [
      | inl found ↦ elim (cases_Bool (bytes_eq (batch_body found.0) (batch_body batch))) [ inl same ↦ rw (found.1, same) (batch_apart node found.0) | inr other ↦ rw (found.1, other) tt ]
      | inr none ↦ elim (cases_Bool (nat_le node.charter.batches (length now.batches))) [ inl full ↦ rw (none, full) tt | inr room ↦ rw (none, room) tt ]
    ]

known_ack : (node : Node) (now : State) (ack : BatchAck) → HasNoOrder (ack_answer node now ack)
known_ack node now ack =
    elim (cases_Bool (has_own_batch node now ack.batch)) [
      | inr none ↦ rw none tt
      | inl own ↦ elim (cases_Bool (is_own node ack.author || now.acked ack.batch ack.author.0)) [ inl before ↦ rw (own, before) refl | inr new ↦ rw (own, new) tt ]
    ]

held_header : (node : Node) (held header : Header) → HasNoOrder (held_header_answer node held header)
held_header node held header =
    elim (cases_Bool (same_digest (header_digest held.body) (header_digest header.body))) [ inl same ↦ rw same (header_apart node held) | inr other ↦ rw other tt ]

voted_header : (node : Node) (voted : Digest) (header : Header) → HasNoOrder (voted_answer node voted header)
voted_header node voted header = elim (cases_Bool (same_digest voted (header_digest header.body))) [ inl same ↦ rw same (header_apart node header) | inr other ↦ rw other tt ]

known_before : (node : Node) (now : State) (header : Header) (known : Admission) → known_header_answer node now header ≡ Some known → HasNoOrder known
known_before node now header known is =
    elim (cases_Bool (is_own node header.body.author)) [
      | inl own ↦ elim (given_or_none (now.own_headers header.body.round)) [
        | inl held ↦
            let shape : Some (held_header_answer node held.0 header) ≡ known_header_answer node now header = rw (own, held.1) refl in
            subst HasNoOrder (same_Some (held_header_answer node held.0 header) known (shape ∙ is)) (held_header node held.0 header)
        | inr none ↦
            let shape : None ≡ known_header_answer node now header = rw (own, none) refl in
            absurd (none-some known (shape ∙ is))
      ]
      | inr foreign ↦ elim (given_or_none (now.votes header.body.round header.body.author.0)) [
        | inl voted ↦
            let shape : Some (voted_answer node voted.0 header) ≡ known_header_answer node now header = rw (foreign, voted.1) refl in
            subst HasNoOrder (same_Some (voted_answer node voted.0 header) known (shape ∙ is)) (voted_header node voted.0 header)
        | inr none ↦
            let shape : None ≡ known_header_answer node now header = rw (foreign, none) refl in
            absurd (none-some known (shape ∙ is))
      ]
    ]

known_header : (node : Node) (now : State) (header : Header) → HasNoOrder (header_answer node now header)
known_header node now header =
    elim (cases_Bool (is_low (floor_in node now) header.body.round)) [
      | inl low ↦ rw low tt
      | inr high ↦ elim (given_or_none (known_header_answer node now header)) [
        | inl known ↦ rw (high, known.1) (known_before node now header known.0 known.1)
        | inr none ↦ elim (cases_Bool (all_held now.slots (floor_in node now) header.body)) [
          | inr missing ↦ rw (high, none, missing) tt
          | inl held ↦ elim (cases_Bool (list_all (may_name node now header) header.body.batches)) [
            | inr missing ↦ rw (high, none, held, missing) tt
            | inl named ↦ rw (high, none, held, named) tt
          ]
        ]
      ]
    ]

known_vote : (node : Node) (now later : State) (vote : Vote) → HasNoOrder (vote_answer node now later vote)
known_vote node now later vote =
    elim (cases_Bool (is_own node vote.author)) [
      | inr foreign ↦ rw foreign tt
      | inl own ↦ elim (cases_Bool (is_low (floor_in node now) vote.round)) [
        | inl low ↦ rw (own, low) tt
        | inr high ↦ elim (given_or_none (now.own_headers vote.round)) [
          | inr none ↦ rw (own, high, none) tt
          | inl found ↦ elim (cases_Bool (same_digest (header_digest found.0.body) vote.header)) [
            | inr other ↦ rw (own, high, found.1, other) tt
            | inl same ↦ elim (given_or_none (now.slots vote.round node.own.0)) [
              | inl held ↦ elim (cases_Bool (same_digest (header_digest held.0.header) vote.header)) [
                | inl known ↦ rw (own, high, found.1, same, held.1, known) refl
                | inr conflict ↦ rw (own, high, found.1, same, held.1, conflict) tt
              ]
              | inr free ↦ elim (cases_Bool (is_some (now.counted vote.round vote.voter.0))) [
                | inl counted ↦ rw (own, high, found.1, same, free, counted) refl
                | inr new ↦ rw (own, high, found.1, same, free, new) tt
              ]
            ]
          ]
        ]
      ]
    ]

known_certificate : (node : Node) (now later : State) (certificate : Certificate) → HasNoOrder (certificate_answer node now later certificate)
known_certificate node now later certificate =
    elim (cases_Bool (is_low (floor_in node now) certificate.header.round)) [
      | inl low ↦ rw low tt
      | inr high ↦ elim (given_or_none (now.slots certificate.header.round certificate.header.author.0)) [
        | inl found ↦ elim (cases_Bool (same_digest (certificate_digest found.0.header) (certificate_digest certificate.header))) [
          | inr other ↦ rw (high, found.1, other) tt
          | inl digest ↦ elim (cases_Bool (same_header found.0.header certificate.header)) [ inl same ↦ rw (high, found.1, digest, same) refl | inr other ↦ rw (high, found.1, digest, other) tt ]
        ]
        | inr none ↦ elim (cases_Bool (all_held now.slots (floor_in node now) certificate.header)) [
          | inl held ↦ rw (high, none, held) tt
          | inr missing ↦ rw (high, none, missing) tt
        ]
      ]
    ]

known_coin : (node : Node) (now later : State) (sender : Author) (coin : Coin) → HasNoOrder (coin_answer node now later sender coin)
known_coin node now later sender coin =
    elim (cases_Bool (is_own node sender)) [
      | inr foreign ↦ rw foreign tt
      | inl own ↦ elim (given_or_none (slice_get now.coins (coin.wave - 1))) [
        | inl taken ↦ elim (cases_Bool (taken.0 == coin.value)) [ inl same ↦ rw (own, taken.1, same) refl | inr other ↦ rw (own, taken.1, other) tt ]
        | inr none ↦ elim (cases_Bool (coin.wave == length now.coins + 1)) [
          | inr out ↦ rw (own, none, out) tt
          | inl turn ↦ elim (cases_Bool (is_full node now.slots (2 * coin.wave + 1))) [
            | inr early ↦ rw (own, none, turn, early) tt
            | inl full ↦ rw (own, none, turn, full) tt
          ]
        ]
      ]
    ]

known_by : (node : Node) (now later : State) (sender : Author) (m : Message) → HasNoOrder (answer node now later (record { sender = sender; message = m }))
known_by node now later sender (message.Batch batch) = known_batch node now batch
known_by node now later sender (message.BatchAck ack) = known_ack node now ack
known_by node now later sender (message.Header header) = known_header node now header
known_by node now later sender (message.Vote vote) = known_vote node now later vote
known_by node now later sender (message.Certificate certificate) = known_certificate node now later certificate
known_by node now later sender (message.Coin coin) = known_coin node now later sender coin

no_piece : (node : Node) (history : History) (outputs : List Output) → filter is_order outputs ≡ [] → (o : Output) → Contains outputs o → BeginsAfter node history o
no_piece node history outputs none (output.Order start piece) inside =
    absurd (Contains-nothing (output.Order start piece) (subst (λ l. Contains l (output.Order start piece)) none (picks is_order outputs (output.Order start piece) inside refl)))
no_piece node history outputs none (output.Batch batch) inside = tt
no_piece node history outputs none (output.Ack to ack) inside = tt
no_piece node history outputs none (output.Header header) inside = tt
no_piece node history outputs none (output.Vote vote) inside = tt
no_piece node history outputs none (output.Certificate certificate) inside = tt

pub known_put : (node : Node) (history : History) (event : Event) (outputs : List Output) → admit node history event ≡ Known outputs → All (IsPut node history) outputs
known_put node history event outputs is =
    let may : All (MayGive node history) outputs = subst (PutsOutGiven node history event) is (outputs_given node history event) in
    let none : filter is_order outputs ≡ [] = subst HasNoOrder is (known_by node (whole node history) (whole node (history ++ event ∷ [])) event.sender event.message) in
    All-weaker (Contains outputs) (IsPut node history)
    (λ o inside. record { by = by_known event outputs is inside; may = All-contains (MayGive node history) outputs o may inside; after = no_piece node history outputs none o inside })
    outputs (All-contains_itself outputs)
