-- A new event puts out all that it adds to the order.
use Rattle.std.proofs.Common.{◌≡◌, ℕ, ◌+◌, ◌-◌, ◌*◌, ◌/◌, ◌<◌, ◌≤◌, zero, suc, take, arith, Bool, false, List, [], ◌∷◌, ◌++◌, map, length, drop}
use Rattle.std.proofs.Common.{Option, Some, None, inl, inr, refl, ap, sym, ◌∙◌, subst}
use Rattle.std.proofs.Math.Nat.{mul-div-le, lt-mul-div-succ}
use Rattle.std.proofs.Math.Path.{fun_ext}
use Rattle.std.specs.Prelude.{filter, flat_map, ⊤, nat_le, is_some, slice_get, ◌==◌, ◌||◌}
use Rattle.std.specs.List.{list_all, range_with_len}
use Rattle.std.specs.Option.{option_to_list}
use Rattle.std.specs.Str.{bytes_eq}
use Rattle.std.proofs.lemmas.Bool.{cases_Bool}
use Rattle.std.proofs.lemmas.List.{append-nil, length-take, length-drop, drop-drop, take-append-drop}
use Rattle.wire.specs.Batches.{batch_body}
use Rattle.wire.specs.declared.message.Message.TheVariants as message
use Rattle.wire.specs.declared.output.Output.TheVariants as output
use Rattle.std.proofs.lemmas.Grind.{common_steps}
use Rattle.spec_model.specs.Admitting.{is_own, is_new, batch_answer, ack_answer, header_answer, vote_answer, certificate_answer, coin_answer}
use Rattle.spec_model.specs.Admitting.{may_name, known_header_answer, same_header, batch_outputs, header_outputs, order_outputs, pieces, piece_at}
use Rattle.spec_model.specs.Holdings.{batch_digest, ledger_of, is_low, is_full, all_held}
use Rattle.spec_model.specs.Nodes.{Node}
use Rattle.spec_model.specs.Slots.{Slots, same_digest, header_digest, certificate_digest}
use Rattle.spec_model.specs.Ordering.{segments}
use Rattle.spec_model.specs.States.{State, batch_in, has_own_batch, ledger_in, floor_in, completed_at}
use Rattle.spec_model.specs.Words.{Author, BatchAck, Certificate, Coin, BatchView, Digest, Header, Message, Output, Vote}
use Rattle.header.specs.declared.admission.Admission.{Admission}
use Rattle.header.specs.declared.admission.Admission.TheVariants.{New, Known, Refused}
use Rattle.spec_laws.proofs.Lengthening.{newer_none}
use Rattle.spec_laws.proofs.Lists.{given_or_none}
use Rattle.spec_laws.proofs.SlotsGrow.{or_none}
use Rattle.spec_machine.specs.Laws.{is_order, digests_in, StandInTurn, OrderIsPutOut}
use Rattle.spec_machine.specs.Machine.{slots_with, newly_ordered, last_leader, grown, after, answered}

-- ---- pieces of the order

all_orders : (start : ℕ) (digests : List Digest) (places : List ℕ) → filter is_order (map (piece_at start digests) places) ≡ map (piece_at start digests) places
all_orders start digests [] = refl
all_orders start digests (place ∷ places) = ap (λ l. piece_at start digests place ∷ l) (all_orders start digests places)

orders_alone : (now later : State) → filter is_order (order_outputs now later) ≡ order_outputs now later
orders_alone now later =
    let added = drop (length now.order) later.order in
    all_orders (length now.order) added (range_with_len 0 ((length added + 15999) / 16000))

joined : {X : Type 0} (test : X → Bool) (one other : List X) → filter test (one ++ other) ≡ filter test one ++ filter test other
joined test [] other = refl
joined test (x ∷ one) other =
    elim (cases_Bool (test x)) [
      | inl is ↦ rw is (ap (λ l. x ∷ l) (joined test one other))
      | inr not ↦ rw not (joined test one other)
    ]

certificates_apart : (made : Option Certificate) → filter is_order (map (λ c. output.Certificate c) (option_to_list made)) ≡ []
certificates_apart (Some certificate) = refl
certificates_apart None = refl

-- ---- what adds nothing to the order

dropped : {X : Type 0} (xs : List X) → drop (length xs) xs ≡ []
dropped [] = refl
dropped (x ∷ xs) = dropped xs

-- without a certificate and a coin the order stays
stays : (node : Node) (state : State) (slots : Slots) (coins : List ℕ) → slots ≡ state.slots → coins ≡ state.coins
    → state.order ++ newly_ordered (ledger_in node state) (ledger_of node slots coins) ≡ state.order
stays node state slots coins same_slots same_coins =
    let before = ledger_in node state in
    ap (λ s. state.order ++ newly_ordered before (ledger_of node s coins)) same_slots
    ∙ ap (λ c. state.order ++ newly_ordered before (ledger_of node state.slots c)) same_coins
    ∙ ap (λ l. state.order ++ map (λ (c : Certificate). certificate_digest c.header) (segments before (last_leader before) l)) (newer_none before)
    ∙ append-nil state.order

abbrev AddsNone : Message → Type 0
AddsNone (message.Batch batch) = Unit {0}
AddsNone (message.BatchAck ack) = Unit {0}
AddsNone (message.Header header) = Unit {0}
AddsNone _ = ⊥

same_slots : (slots : Slots) → slots_with slots None ≡ slots
same_slots slots = fun_ext (λ round. fun_ext (λ author. or_none (slots round author)))

none_added : (node : Node) (state : State) (sender : Author) (m : Message) → AddsNone m → (after node state (record { sender = sender; message = m })).order ≡ state.order
none_added node state sender (message.Batch batch) none = stays node state (slots_with state.slots None) (state.coins ++ []) (same_slots state.slots) (append-nil state.coins)
none_added node state sender (message.BatchAck ack) none = stays node state (slots_with state.slots None) (state.coins ++ []) (same_slots state.slots) (append-nil state.coins)
none_added node state sender (message.Header header) none = stays node state (slots_with state.slots None) (state.coins ++ []) (same_slots state.slots) (append-nil state.coins)
none_added node state sender (message.Vote vote) none = absurd none
none_added node state sender (message.Certificate certificate) none = absurd none
none_added node state sender (message.Coin coin) none = absurd none

none_put_out : (node : Node) (state : State) (sender : Author) (m : Message) → AddsNone m → order_outputs state (after node state (record { sender = sender; message = m })) ≡ []
none_put_out node state sender m none =
    ap (λ o. pieces (length state.order) (drop (length state.order) o)) (none_added node state sender m none)
    ∙ ap (pieces (length state.order)) (dropped state.order)

-- ---- what each kind of event puts out where it is new

-- what is put out of the order, where an answer is new
abbrev PutsOut : List Output → Admission → Type 0
PutsOut expected (New outputs) = filter is_order outputs ≡ expected
PutsOut expected (Known outputs) = ⊤
PutsOut expected (Refused refusal) = ⊤

batch_apart : (node : Node) (batch : BatchView) → filter is_order (batch_outputs node batch) ≡ []
batch_apart node batch = elim (cases_Bool (is_own node batch.author)) [ inl own ↦ rw own refl | inr foreign ↦ rw foreign refl ]

header_apart : (node : Node) (header : Header) → filter is_order (header_outputs node header) ≡ []
header_apart node header = elim (cases_Bool (is_own node header.body.author)) [ inl own ↦ rw own refl | inr foreign ↦ rw foreign refl ]

batch_puts : (node : Node) (now : State) (batch : BatchView) → PutsOut [] (batch_answer node now batch)
batch_puts node now batch =
    elim (given_or_none (batch_in now (batch_digest batch))) [
      | inl found ↦ elim (cases_Bool (bytes_eq (batch_body found.0) (batch_body batch))) [ inl same ↦ rw (found.1, same) tt | inr other ↦ rw (found.1, other) tt ]
      | inr none ↦ elim (cases_Bool (nat_le node.charter.batches (length now.batches))) [ inl full ↦ rw (none, full) tt | inr room ↦ rw (none, room) (batch_apart node batch) ]
    ]

ack_puts : (node : Node) (now : State) (ack : BatchAck) → PutsOut [] (ack_answer node now ack)
ack_puts node now ack =
    elim (cases_Bool (has_own_batch node now ack.batch)) [
      | inr none ↦ rw none tt
      | inl own ↦ elim (cases_Bool (is_own node ack.author || now.acked ack.batch ack.author.0)) [ inl before ↦ rw (own, before) tt | inr new ↦ rw (own, new) refl ]
    ]

-- what is known of a header isn't new
known_apart : (node : Node) (now : State) (header : Header) (answer : Admission) → known_header_answer node now header ≡ Some answer → is_new answer ≡ false
known_apart node now header answer is = grind (arith, is, common_steps)

not_put : (expected : List Output) (answer : Admission) → is_new answer ≡ false → PutsOut expected answer
not_put expected (New outputs) old = absurd cc
not_put expected (Known outputs) old = tt
not_put expected (Refused refusal) old = tt

header_puts : (node : Node) (now : State) (header : Header) → PutsOut [] (header_answer node now header)
header_puts node now header =
    elim (cases_Bool (is_low (floor_in node now) header.body.round)) [
      | inl low ↦ rw low tt
      | inr high ↦ elim (given_or_none (known_header_answer node now header)) [
        | inl known ↦ rw (high, known.1) (not_put [] known.0 (known_apart node now header known.0 known.1))
        | inr none ↦ elim (cases_Bool (all_held now.slots (floor_in node now) header.body)) [
          | inr missing ↦ rw (high, none, missing) tt
          | inl held ↦ elim (cases_Bool (list_all (may_name node now header) header.body.batches)) [
            | inr missing ↦ rw (high, none, held, missing) tt
            | inl named ↦ rw (high, none, held, named) (header_apart node header)
          ]
        ]
      ]
    ]

vote_puts : (node : Node) (now later : State) (vote : Vote) → PutsOut (order_outputs now later) (vote_answer node now later vote)
vote_puts node now later vote =
    elim (cases_Bool (is_own node vote.author)) [
      | inr foreign ↦ rw foreign tt
      | inl own ↦ elim (cases_Bool (is_low (floor_in node now) vote.round)) [
        | inl low ↦ rw (own, low) tt
        | inr high ↦ elim (given_or_none (now.own_headers vote.round)) [
          | inr none ↦ rw (own, high, none) tt
          | inl found ↦ elim (cases_Bool (same_digest (header_digest found.0.body) vote.header)) [
            | inr other ↦ rw (own, high, found.1, other) tt
            | inl same ↦ elim (given_or_none (now.slots vote.round node.own.0)) [
              | inl held ↦ elim (cases_Bool (same_digest (header_digest held.0.header) vote.header)) [
                | inl known ↦ rw (own, high, found.1, same, held.1, known) tt
                | inr conflict ↦ rw (own, high, found.1, same, held.1, conflict) tt
              ]
              | inr free ↦ elim (cases_Bool (is_some (now.counted vote.round vote.voter.0))) [
                | inl counted ↦ rw (own, high, found.1, same, free, counted) tt
                | inr new ↦
                    let made = completed_at node later vote.round in
                    rw (own, high, found.1, same, free, new)
                    (joined is_order (map (λ c. output.Certificate c) (option_to_list made)) (order_outputs now later)
                    ∙ ap (λ l. l ++ filter is_order (order_outputs now later)) (certificates_apart made) ∙ orders_alone now later)
              ]
            ]
          ]
        ]
      ]
    ]

certificate_puts : (node : Node) (now later : State) (certificate : Certificate) → PutsOut (order_outputs now later) (certificate_answer node now later certificate)
certificate_puts node now later certificate =
    elim (cases_Bool (is_low (floor_in node now) certificate.header.round)) [
      | inl low ↦ rw low tt
      | inr high ↦ elim (given_or_none (now.slots certificate.header.round certificate.header.author.0)) [
        | inl found ↦ elim (cases_Bool (same_digest (certificate_digest found.0.header) (certificate_digest certificate.header))) [
          | inr other ↦ rw (high, found.1, other) tt
          | inl digest ↦ elim (cases_Bool (same_header found.0.header certificate.header)) [ inl same ↦ rw (high, found.1, digest, same) tt | inr other ↦ rw (high, found.1, digest, other) tt ]
        ]
        | inr none ↦ elim (cases_Bool (all_held now.slots (floor_in node now) certificate.header)) [
          | inl held ↦ rw (high, none, held) (orders_alone now later)
          | inr missing ↦ rw (high, none, missing) tt
        ]
      ]
    ]

coin_puts : (node : Node) (now later : State) (sender : Author) (coin : Coin) → PutsOut (order_outputs now later) (coin_answer node now later sender coin)
coin_puts node now later sender coin =
    elim (cases_Bool (is_own node sender)) [
      | inr foreign ↦ rw foreign tt
      | inl own ↦ elim (given_or_none (slice_get now.coins (coin.wave - 1))) [
        | inl taken ↦ elim (cases_Bool (taken.0 == coin.value)) [ inl same ↦ rw (own, taken.1, same) tt | inr other ↦ rw (own, taken.1, other) tt ]
        | inr none ↦ elim (cases_Bool (coin.wave == length now.coins + 1)) [
          | inr out ↦ rw (own, none, out) tt
          | inl turn ↦ elim (cases_Bool (is_full node now.slots (2 * coin.wave + 1))) [
            | inr early ↦ rw (own, none, turn, early) tt
            | inl full ↦ rw (own, none, turn, full) (orders_alone now later)
          ]
        ]
      ]
    ]

-- ---- all of them

puts_by : (node : Node) (state : State) (sender : Author) (m : Message)
    → PutsOut (order_outputs state (after node state (record { sender = sender; message = m }))) (answered node state (record { sender = sender; message = m }))
puts_by node state sender (message.Batch batch) = subst (λ l. PutsOut l (batch_answer node state batch)) (sym (none_put_out node state sender (message.Batch batch) tt)) (batch_puts node state batch)
puts_by node state sender (message.BatchAck ack) = subst (λ l. PutsOut l (ack_answer node state ack)) (sym (none_put_out node state sender (message.BatchAck ack) tt)) (ack_puts node state ack)
puts_by node state sender (message.Header header) = subst (λ l. PutsOut l (header_answer node state header))
    (sym (none_put_out node state sender (message.Header header) tt)) (header_puts node state header)
puts_by node state sender (message.Vote vote) = vote_puts node state (grown node state (message.Vote vote)) vote
puts_by node state sender (message.Certificate certificate) = certificate_puts node state (grown node state (message.Certificate certificate)) certificate
puts_by node state sender (message.Coin coin) = coin_puts node state (grown node state (message.Coin coin)) sender coin

-- ---- pieces stand in turn, and joined they are what is added

all_dropped : {X : Type 0} (n : ℕ) (xs : List X) → length xs ≤ n → drop n xs ≡ []
all_dropped zero [] few = refl
all_dropped zero (x ∷ xs) few = absurd (omega (arith, few))
all_dropped (suc n) [] few = refl
all_dropped (suc n) (x ∷ xs) few = all_dropped n xs (omega (arith, few))

joined_from : (start : ℕ) (digests : List Digest) (piece count : ℕ) → length digests ≤ 16000 * (piece + count)
    → flat_map digests_in (map (piece_at start digests) (range_with_len piece count)) ≡ drop (16000 * piece) digests
joined_from start digests piece zero enough = sym (all_dropped (16000 * piece) digests (omega (arith, enough)))
joined_from start digests piece (suc count) enough =
    let rest = drop (16000 * piece) digests in
    let further : 16000 * (piece + 1) ≡ 16000 * piece + 16000 = omega arith in
    ap (λ l. take 16000 rest ++ l) (joined_from start digests (piece + 1) count (omega (arith, enough))
    ∙ ap (λ n. drop n digests) further ∙ sym (drop-drop 16000 (16000 * piece) digests))
    ∙ take-append-drop 16000 rest

turn_from : (start : ℕ) (digests : List Digest) (piece count : ℕ) → 16000 * (piece + count) < length digests + 16000
    → StandInTurn (start + 16000 * piece) (map (piece_at start digests) (range_with_len piece count))
turn_from start digests piece zero more = tt
turn_from start digests piece (suc zero) more = (refl, let few = length-take 16000 (drop (16000 * piece) digests) in omega (arith, few))
turn_from start digests piece (suc (suc count)) more =
    let rest = drop (16000 * piece) digests in
    let long = length-drop (16000 * piece) digests in
    let taken = length-take 16000 rest in
    let full : length (take 16000 rest) ≡ 16000 = omega (arith, taken, long, more) in
    let place : start + 16000 * (piece + 1) ≡ (start + 16000 * piece) + length (take 16000 rest) = omega (arith, full) in
    (refl, full, subst (λ p. StandInTurn p (map (piece_at start digests) (range_with_len (piece + 1) (suc count)))) place (turn_from start digests (piece + 1) (suc count) (omega (arith, more))))

-- what is no piece has no digests
only_orders : (outputs : List Output) → flat_map digests_in outputs ≡ flat_map digests_in (filter is_order outputs)
only_orders [] = refl
only_orders (output.Order start digests ∷ rest) = ap (λ l. digests ++ l) (only_orders rest)
only_orders (output.Batch batch ∷ rest) = only_orders rest
only_orders (output.Ack author ack ∷ rest) = only_orders rest
only_orders (output.Header header ∷ rest) = only_orders rest
only_orders (output.Vote vote ∷ rest) = only_orders rest
only_orders (output.Certificate certificate ∷ rest) = only_orders rest

count_is : (n : ℕ) → (n ≤ 16000 * ((n + 15999) / 16000)) × (16000 * ((n + 15999) / 16000) < n + 16000)
count_is n =
    let below = mul-div-le (n + 15999) 16000 in
    let some : 0 < 16000 = omega arith in
    let above = lt-mul-div-succ (n + 15999) {b = 16000} some in
    (omega (arith, above), omega (arith, below))

pub order_is_put_out : OrderIsPutOut
order_is_put_out node state event outputs is =
    let later = after node state event in
    let digests = drop (length state.order) later.order in
    let pieces_are = subst (PutsOut (order_outputs state later)) is (puts_by node state event.sender event.message) in
    let bounds = count_is (length digests) in
    let none : length state.order + 16000 * 0 ≡ length state.order = omega arith in
    record {
      pieces = pieces_are;
      joined = only_orders outputs ∙ ap (λ l. flat_map digests_in l) pieces_are
          ∙ joined_from (length state.order) digests 0 ((length digests + 15999) / 16000) (omega (arith, bounds.0));
      in_turn = subst (StandInTurn (length state.order)) (sym pieces_are)
          (subst (λ p. StandInTurn p (order_outputs state later)) none (turn_from (length state.order) digests 0 ((length digests + 15999) / 16000) (omega (arith, bounds.1))));
    }
