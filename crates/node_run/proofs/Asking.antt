-- What an event leaves as it was, of what a node is asked after it.
use Rattle.std.proofs.Common.{◌≡◌, ℕ, suc, ◌+◌, ◌-◌, ◌≤◌, ◌<◌, Bool, true, false, cond, List, [], ◌∷◌, ◌++◌, Option, Some, None, inl, inr, refl, sym, ap, subst, ◌∙◌, append-nil, arith}
use Rattle.std.proofs.Math.Path.{fun_ext}
use Rattle.std.proofs.lemmas.Bool.{cases_Bool, eqb-true, leb-true, ltb-true, true≢false}
use Rattle.std.proofs.lemmas.List.Folds.{find-append}
use Rattle.std.specs.Prelude.{◌⊎◌, ◌==◌, ◌&&◌, ◌||◌, not, nat_le, nat_lt, take, map, fold, filter_map, is_some, option_and_then, if◌then◌else◌}
use Rattle.std.specs.List.{list_all, list_any}
use Rattle.std.specs.Option.{option_or, option_map_or, option_to_list}
use Rattle.committee.specs.Charter.{numbers, weight}
use Rattle.committee.proofs.Weights.{some_of_weight}
use Rattle.header.specs.declared.admission.Admission.TheVariants.{New, Known, Refused}
use Rattle.header.specs.declared.refusal.Refusal.TheVariants.{TooOld, MissingParents, CertConflict, DigestClash}
use Rattle.spec_laws.proofs.Lists.{filter_map-push, given_or_none}
use Rattle.spec_laws.proofs.Proposed.{above_floor}
use Rattle.spec_machine.proofs.Proposing.{full_is, full_most}
use Rattle.spec_machine.proofs.SoundRounds.{open_round}
use Rattle.spec_machine.specs.Laws.{SoundStays}
use Rattle.spec_machine.specs.Machine.{after, certificate_of, counted_with, full_to, grown, header_at, highest_with, is_missing_parents, proposed, round_in}
use Rattle.spec_machine.specs.Sound.{IsSound}
use Rattle.spec_model.specs.Admitting.{held_certificate_answer, when◌gives◌else◌, order_outputs, same_header}
use Rattle.spec_model.specs.Giving.{unless_low}
use Rattle.spec_model.specs.Histories.{as_batch, as_ack, as_header, as_coin}
use Rattle.spec_model.specs.Holdings.{batch_digest, certificate_by, is_full, is_held, is_low, all_held, ledger_of, votes_by}
use Rattle.spec_model.specs.Nodes.{Node, IsNode, quorum, size_of}
use Rattle.spec_model.specs.Ordering.{floor_by}
use Rattle.spec_model.specs.Proposing.{nameable, as_parent, signed, to_name}
use Rattle.spec_model.specs.Slots.{Slots, certificate_digest, is_of_slot, round_of, same_digest, slots_of}
use Rattle.spec_model.specs.States.{State, batch_in, floor_in, has_own_batch, holds, is_available}
use Rattle.spec_model.specs.Words.{Author, BatchAck, BatchReference, Certificate, Coin, BatchView, Digest, Event, Header, Output, ParentReference, Vote}
use Rattle.wire.specs.References.{placed}
use Rattle.wire.specs.declared.limits.TheConstants.{MAX_BATCHES}
use Rattle.wire.specs.declared.message.Message.TheVariants as message
use Rattle.wire.specs.declared.round.TheConstants.Round.{MAX as MAX_ROUND}
use Rattle.node_run.specs.Asking.{IsOver, LacksNothingBelow, LeavesOthers, LeavesProposal, LeavesWaiting, lacks_parents}

or_none : {X : Type 0} (found : Option X) → option_or found None ≡ found
or_none None = refl
or_none (Some one) = refl

or_false : (either : Bool) → (either || false) ≡ either
or_false true = refl
or_false false = refl

-- ---- what is answered a certificate

abbrev missing : Bool → Option Certificate → Bool → Certificate → List Output → Bool
missing low slot held certificate outputs =
    is_missing_parents
    (if low then Refused TooOld
    else when slot gives (λ other. held_certificate_answer other certificate)
    else if not held then Refused MissingParents
    else New outputs)

-- whether parents are missing, doesn't depend on what a new one puts out
whatever_outputs : (low : Bool) (slot : Option Certificate) (held : Bool) (certificate : Certificate) (one other : List Output)
    → missing low slot held certificate one ≡ missing low slot held certificate other
whatever_outputs true slot held certificate one other = refl
whatever_outputs false (Some found) held certificate one other = refl
whatever_outputs false None true certificate one other = refl
whatever_outputs false None false certificate one other = refl

abbrev missing_at : Node → Slots → List ℕ → Certificate → List Output → Bool
missing_at node slots coins certificate outputs =
    missing (is_low (floor_by (ledger_of node slots coins)) certificate.header.round)
    (slots certificate.header.round certificate.header.author.0)
    (all_held slots (floor_by (ledger_of node slots coins)) certificate.header)
    certificate outputs

waits_alike : (node : Node) (state later : State) (from : Author) (certificate : Certificate) → later.slots ≡ state.slots → later.coins ≡ state.coins
    → lacks_parents node later from certificate ≡ lacks_parents node state from certificate
waits_alike node state later from certificate same same_coins =
    ap (λ slots. missing_at node slots later.coins certificate (outputs_at later)) same
    ∙ ap (λ coins. missing_at node state.slots coins certificate (outputs_at later)) same_coins
    ∙ whatever_outputs _ _ _ certificate (outputs_at later) (outputs_at state)
  where
    outputs_at : State → List Output
    outputs_at there = order_outputs there (grown node there (message.Certificate certificate))

-- ---- what is proposed

-- a state of which only what names batches is known
abbrev state_of : List BatchView → (Digest → ℕ → Bool) → (Digest → Bool) → State
state_of held acked named = record {
  batches = held;
  acked = acked;
  named = named;
  votes = λ _ _. None;
  own_headers = λ _. None;
  counted = λ _ _. None;
  slots = slots_of [];
  highest = 0;
  coins = [];
  order = [];
}

abbrev nameable_by : Node → List BatchView → (Digest → ℕ → Bool) → (Digest → Bool) → List BatchReference
nameable_by node held acked named = nameable node (state_of held acked named)

abbrev propose_by : Node → ℕ → List Certificate → Option Header → List BatchReference → Option Header
propose_by node round parents own named =
    if is_some own || nat_lt MAX_ROUND round then None
    else Some (signed node (record { author = node.own; round = round; batches = take MAX_BATCHES named; parents = map as_parent parents }))

abbrev proposes_at : Node → State → ℕ → Option Header
proposes_at node state round = propose_by node round (round_of (size_of node) state.slots (round - 1)) (state.own_headers round) (nameable node state)

-- it is told by the round, the certificates of the round below, the own header there, and the batches that may be named
same_proposal : (node : Node) (state later : State) (round : ℕ) → round_in node later ≡ round → round_in node state ≡ round
    → round_of (size_of node) later.slots (round - 1) ≡ round_of (size_of node) state.slots (round - 1) → later.own_headers round ≡ state.own_headers round
    → nameable node later ≡ nameable node state → proposed node later ≡ proposed node state
same_proposal node state later round now before parents own named =
    ap (proposes_at node later) now
    ∙ ap (λ l. propose_by node round l (later.own_headers round) (nameable node later)) parents
    ∙ ap (λ header. propose_by node round (round_of (size_of node) state.slots (round - 1)) header (nameable node later)) own
    ∙ ap (λ l. propose_by node round (round_of (size_of node) state.slots (round - 1)) (state.own_headers round) l) named
    ∙ ap (proposes_at node state) (sym before)

-- ---- the batch of another member

module _ (node : Node) (batch : BatchView) (other : (batch.author.0 == node.own.0) ≡ false) (held : List BatchView) (acked : Digest → ℕ → Bool) (named : Digest → Bool) where
  abbrev before : State
  before = state_of held acked named

  abbrev later : State
  later = state_of (held ++ batch ∷ []) acked named

  abbrev is_own : BatchView → Bool
  is_own found = found.author.0 == node.own.0

  not_own : (same : Bool) → option_map_or is_own (cond same (Some batch) None) false ≡ false
  not_own true = other
  not_own false = refl

  own_or : (found : Option BatchView) (same : Bool) → option_map_or is_own (option_or found (cond same (Some batch) None)) false ≡ option_map_or is_own found false
  own_or (Some first) same = refl
  own_or None same = not_own same

  own_batch_stays : (digest : Digest) → has_own_batch node later digest ≡ has_own_batch node before digest
  own_batch_stays digest =
      ap (λ found. option_map_or is_own found false) (find-append (λ b. same_digest (batch_digest b) digest) held (batch ∷ []))
      ∙ own_or (batch_in before digest) (same_digest (batch_digest batch) digest)

  abbrev naming : BatchView → Bool → Option BatchReference
  naming one own =
      if (one.author.0 == node.own.0) && ((own && nat_le (quorum node) (weight node.charter (holds node before (batch_digest one)))) && not (named (batch_digest one)))
      then Some (record { digest = batch_digest one; worker = one.worker }) else None

  names_alike : to_name node later ≡ to_name node before
  names_alike = fun_ext (λ one. ap (naming one) (own_batch_stays (batch_digest one)))

  names_none : to_name node before batch ≡ None
  names_none = ap (λ b. cond (b && (is_available node before (batch_digest batch) && not (named (batch_digest batch))))
      (Some (record { digest = batch_digest batch; worker = batch.worker })) None) other

  nameable_stays : nameable node later ≡ nameable node before
  nameable_stays =
      ap (λ make. fold placed [] (filter_map make (held ++ batch ∷ []))) names_alike
      ∙ ap (fold placed [])
      (filter_map-push (to_name node before) held batch
      ∙ ap (λ o. filter_map (to_name node before) held ++ option_to_list o) names_none
      ∙ append-nil (filter_map (to_name node before) held))

-- ---- what a sound state keeps, where no certificate comes

module _ (node : Node) (state : State) (event : Event) (sound : IsSound node state) (none : certificate_of node state event.message ≡ None) where
  abbrev next : State
  next = after node state event

  abbrev bigger : State
  bigger = grown node state event.message

  slots_grow : bigger.slots ≡ state.slots
  slots_grow = fun_ext (λ round. fun_ext (λ author.
      ap (λ (c : Option Certificate). option_or (state.slots round author) (slots_of (option_to_list c) round author)) none ∙ or_none (state.slots round author)))

  highest_grows : next.highest ≡ state.highest
  highest_grows = ap (highest_with state.highest) none

  -- and no coin
  module _ (quiet : as_coin event.message ≡ None) where
    coins_stay : next.coins ≡ state.coins
    coins_stay = ap (λ o. state.coins ++ option_to_list o) quiet ∙ append-nil state.coins

    floor_stays : floor_in node bigger ≡ floor_in node state
    floor_stays = ap (λ slots. floor_by (ledger_of node slots bigger.coins)) slots_grow ∙ ap (λ coins. floor_by (ledger_of node state.slots coins)) coins_stay

    above : (round author : ℕ) (found : Option Certificate) → state.slots round author ≡ found → (low : Bool) → nat_lt round (floor_in node state) ≡ low → (if low then None else found) ≡ found
    above round author found is false below = refl
    above round author None is true below = refl
    above round author (Some c) is true below = absurd (omega (arith, sound.certificates.above round author c is, ltb-true round (floor_in node state) below))

    slots_stay : next.slots ≡ state.slots
    slots_stay = fun_ext (λ round. fun_ext (λ author.
        ap (λ floor. if nat_lt round floor then None else bigger.slots round author) floor_stays
        ∙ ap (λ (slots : Slots). if nat_lt round (floor_in node state) then None else slots round author) slots_grow
        ∙ above round author (state.slots round author) refl (nat_lt round (floor_in node state)) refl))

    high : (round : ℕ) (found : Option Header) → state.own_headers round ≡ found → (low : Bool) → is_low (floor_in node state) round ≡ low → (if low then None else found) ≡ found
    high round found is false below = refl
    high round None is true below = refl
    high round (Some header) is true below = absurd (true≢false (sym below ∙ (sound.votes.headers round header is).high))

    own_stays : ((round : ℕ) → header_at event.message round node.own.0 ≡ None) → (round : ℕ) → next.own_headers round ≡ state.own_headers round
    own_stays no_header round =
        ap (λ floor. unless_low floor round (bigger.own_headers round)) floor_stays
        ∙ ap (λ found. unless_low (floor_in node state) round (option_or (state.own_headers round) found)) (no_header round)
        ∙ ap (unless_low (floor_in node state) round) (or_none (state.own_headers round))
        ∙ high round (state.own_headers round) refl (is_low (floor_in node state) round) refl

    waits : (from : Author) (certificate : Certificate) → lacks_parents node next from certificate ≡ lacks_parents node state from certificate
    waits from certificate = waits_alike node state next from certificate slots_stay coins_stay

    proposes : ((round : ℕ) → header_at event.message round node.own.0 ≡ None) → nameable node next ≡ nameable node state → proposed node next ≡ proposed node state
    proposes no_header named =
        let round = round_in node state in
        let here : round_in node next ≡ round = ap (λ slots. 1 + full_to node slots next.highest) slots_stay ∙ ap (λ most. 1 + full_to node state.slots most) highest_grows in
        same_proposal node state next round here refl (ap (λ (slots : Slots). round_of (size_of node) slots (round - 1)) slots_stay) (own_stays no_header round) named

  -- ---- a coin may move the floor, but not over the round

  -- at or above the new floor the certificates stay
  still_there : (round : ℕ) → floor_in node bigger ≤ round → next.slots round ≡ state.slots round
  still_there round at = fun_ext (λ author. elim (cases_Bool (nat_lt round (floor_in node bigger))) [
    | inl below ↦ absurd (omega (arith, at, ltb-true round (floor_in node bigger) below))
    | inr isnt ↦ rw isnt (λ i. slots_grow i round author)
  ])

  full_alike : (round : ℕ) → floor_in node bigger ≤ round → is_full node next.slots round ≡ is_full node state.slots round
  full_alike round at = ap (λ (row : ℕ → Option Certificate). nat_le (quorum node) (weight node.charter (λ author. is_some (row author)))) (still_there round at)

  held_above : (round author : ℕ) → is_some (next.slots round author) ≡ true → floor_in node bigger ≤ round
  held_above round author held =
      elim (cases_Bool (nat_lt round (floor_in node bigger))) [
        | inl below ↦ let nothing = rw below at held in absurd cc
        | inr isnt ↦ grind (arith, isnt)
      ]

  -- a full round has a certificate, so it is at or above the floor
  full_above : (round : ℕ) → is_full node next.slots round ≡ true → floor_in node bigger ≤ round
  full_above round full =
      let some = some_of_weight node.charter (λ author. is_some (next.slots round author)) (omega (arith, leb-true _ _ full)) in
      held_above round some.member some.holds

  full_within : (round : ℕ) → is_full node state.slots round ≡ true → round ≤ state.highest
  full_within round full =
      let some = some_of_weight node.charter (λ author. is_some (state.slots round author)) (omega (arith, leb-true _ _ full)) in
      elim (given_or_none (state.slots round some.member)) [
        | inl found ↦ sound.certificates.highest round some.member found.0 found.1
        | inr nothing ↦ let bad = rw nothing at some.holds in absurd cc
      ]

  module _ (is_node : IsNode node) (stays : IsSound node next) where
    abbrev greatest : ℕ
    greatest = full_to node state.slots state.highest

    abbrev greatest_next : ℕ
    greatest_next = full_to node next.slots next.highest

    next_full : is_full node next.slots greatest_next ≡ true
    next_full =
        let below : round_in node next - 1 ≡ greatest_next = omega arith in
        ap (is_full node next.slots) (sym below) ∙ (open_round node next is_node stays.certificates).full

    floor_below : floor_in node bigger ≤ greatest_next
    floor_below = full_above greatest_next next_full

    no_greater : greatest_next ≤ greatest
    no_greater =
        let full = sym (full_alike greatest_next floor_below) ∙ next_full in
        full_most node state.slots state.highest greatest_next full (full_within greatest_next full)

    no_less : greatest ≤ greatest_next
    no_less = elim (full_is node state.slots state.highest) [
      | inl least ↦ omega (arith, least)
      | inr full ↦
          full_most node next.slots next.highest greatest (full_alike greatest (omega (arith, floor_below, no_greater)) ∙ full) (omega (arith, full_within greatest full, highest_grows))
    ]

    round_is : greatest_next ≡ greatest
    round_is = omega (arith, no_greater, no_less)

    proposes_on : ((round : ℕ) → header_at event.message round node.own.0 ≡ None) → nameable node next ≡ nameable node state → proposed node next ≡ proposed node state
    proposes_on no_header named =
        let at : floor_in node bigger ≤ greatest = omega (arith, floor_below, no_greater) in
        let below : greatest ≡ 1 + greatest - 1 = omega arith in
        let isnt_low : is_low (floor_in node bigger) (1 + greatest) ≡ false = above_floor (floor_in node bigger) (1 + greatest) (omega arith) (inr (omega (arith, at))) in
        same_proposal node state next (1 + greatest) (ap (λ n. 1 + n) round_is) refl
        (subst (λ round. round_of (size_of node) next.slots round ≡ round_of (size_of node) state.slots round) below
        (ap (λ (row : ℕ → Option Certificate). filter_map row (numbers (size_of node))) (still_there greatest at)))
        (rw isnt_low (ap (option_or (state.own_headers (1 + greatest))) (no_header (1 + greatest)) ∙ or_none (state.own_headers (1 + greatest))))
        named

-- ---- what may be named

module _ (node : Node) (state : State) (event : Event) where
  acks_stay : as_ack event.message ≡ None → (after node state event).acked ≡ state.acked
  acks_stay none = fun_ext (λ digest. fun_ext (λ member.
      ap (λ (o : Option BatchAck). state.acked digest member || list_any (λ ack. same_digest ack.batch digest && (ack.author.0 == member)) (option_to_list o)) none
      ∙ or_false (state.acked digest member)))

  abbrev names_it : Digest → Header → Bool
  names_it digest header = (header.body.author.0 == node.own.0) && list_any (λ named. same_digest named.digest digest) header.body.batches

  named_stay : as_header event.message ≡ None → (after node state event).named ≡ state.named
  named_stay none = fun_ext (λ digest. ap (λ (o : Option Header). state.named digest || list_any (names_it digest) (option_to_list o)) none ∙ or_false (state.named digest))

  named_foreign : (header : Header) → as_header event.message ≡ Some header → (header.body.author.0 == node.own.0) ≡ false → (after node state event).named ≡ state.named
  named_foreign header is other = fun_ext (λ digest.
      ap (λ (o : Option Header). state.named digest || list_any (names_it digest) (option_to_list o)) is
      ∙ ap (λ own. state.named digest || ((own && list_any (λ named. same_digest named.digest digest) header.body.batches) || false)) other
      ∙ or_false (state.named digest))

  batches_stay : as_batch event.message ≡ None → (after node state event).batches ≡ state.batches
  batches_stay none = ap (λ o. state.batches ++ option_to_list o) none ∙ append-nil state.batches

  nameable_as : (held : List BatchView) → (after node state event).batches ≡ held → (after node state event).acked ≡ state.acked → (after node state event).named ≡ state.named
      → nameable node (after node state event) ≡ nameable_by node held state.acked state.named
  nameable_as held is_held is_acked is_named =
      ap (λ l. nameable_by node l (after node state event).acked (after node state event).named) is_held
      ∙ ap (λ acked. nameable_by node held acked (after node state event).named) is_acked
      ∙ ap (λ named. nameable_by node held state.acked named) is_named

-- ---- each kind of message

-- another member's number, by the node's
as_own : (node : Node) (own author : Author) → node.own ≡ own → (author.0 == own.0) ≡ false → (author.0 == node.own.0) ≡ false
as_own node own author same is = ap (λ (it : Author). author.0 == it.0) same ∙ is

-- no own header comes with that of another member
no_own : (node : Node) (header : Header) → (header.body.author.0 == node.own.0) ≡ false → (round : ℕ) → header_at (message.Header header) round node.own.0 ≡ None
no_own node header other round = ap (λ own. if (header.body.round == round) && own then Some header else None) other ∙ never (header.body.round == round)
  where
    never : (same : Bool) → (if same && false then Some header else None) ≡ None
    never true = refl
    never false = refl

pub batch_waits : (own : Author) (batch : BatchView) → LeavesWaiting own (message.Batch batch)
batch_waits own batch node state sender from certificate new =
    waits node state (record { sender = sender; message = message.Batch batch }) new.sound refl refl from certificate

pub ack_waits : (own : Author) (ack : BatchAck) → LeavesWaiting own (message.BatchAck ack)
ack_waits own ack node state sender from certificate new =
    waits node state (record { sender = sender; message = message.BatchAck ack }) new.sound refl refl from certificate

pub header_waits : (own : Author) (header : Header) → LeavesWaiting own (message.Header header)
header_waits own header node state sender from certificate new =
    waits node state (record { sender = sender; message = message.Header header }) new.sound refl refl from certificate

pub batch_proposes : (own : Author) (batch : BatchView) → (batch.author.0 == own.0) ≡ false → LeavesProposal own (message.Batch batch)
batch_proposes own batch other node state sender new =
    let event : Event = record { sender = sender; message = message.Batch batch } in
    proposes node state event new.sound refl refl (λ round. refl)
    (nameable_as node state event (state.batches ++ batch ∷ []) refl (acks_stay node state event refl) (named_stay node state event refl)
    ∙ nameable_stays node batch (as_own node own batch.author new.own_is other) state.batches state.acked state.named)

pub header_proposes : (own : Author) (header : Header) → (header.body.author.0 == own.0) ≡ false → LeavesProposal own (message.Header header)
header_proposes own header other node state sender new =
    let event : Event = record { sender = sender; message = message.Header header } in
    let foreign = as_own node own header.body.author new.own_is other in
    proposes node state event new.sound refl refl (no_own node header foreign)
    (nameable_as node state event state.batches (batches_stay node state event refl) (acks_stay node state event refl) (named_foreign node state event header refl foreign))

pub coin_proposes : SoundStays → (own : Author) (coin : Coin) → LeavesProposal own (message.Coin coin)
coin_proposes law own coin node state sender new =
    let event : Event = record { sender = sender; message = message.Coin coin } in
    proposes_on node state event new.sound refl new.node_is (law node state event new.node_is new.sound new.taken new.new) (λ round. refl)
    (nameable_as node state event state.batches (batches_stay node state event refl) (acks_stay node state event refl) (named_stay node state event refl))

-- ---- whom a certificate concerns

held_never : (same alike : Bool) → is_missing_parents (if not same then Refused CertConflict else if alike then Known [] else Refused DigestClash) ≡ false
held_never false alike = refl
held_never true true = refl
held_never true false = refl

-- what a certificate lacks parents by: it isn't low, nothing is in its slot, and not all parents are held
missing_is : (low : Bool) (slot : Option Certificate) (held : Bool) (certificate : Certificate) (outputs : List Output) → missing low slot held certificate outputs ≡ true
    → (low ≡ false) × (slot ≡ None) × (held ≡ false)
missing_is true slot held certificate outputs is = absurd (true≢false (sym is))
missing_is false (Some found) held certificate outputs is =
    absurd (true≢false (sym is ∙ held_never (same_digest (certificate_digest found.header) (certificate_digest certificate.header)) (same_header found.header certificate.header)))
missing_is false None true certificate outputs is = absurd (true≢false (sym is))
missing_is false None false certificate outputs is = (refl, refl, refl)

-- and it does so by these
is_missing : (low : Bool) (slot : Option Certificate) (held : Bool) (certificate : Certificate) (outputs : List Output) → low ≡ false → slot ≡ None → held ≡ false
    → missing low slot held certificate outputs ≡ true
is_missing true slot held certificate outputs high none some = absurd (true≢false high)
is_missing false (Some found) held certificate outputs high none some = absurd cc
is_missing false None true certificate outputs high none some = absurd (true≢false some)
is_missing false None false certificate outputs high none some = refl

-- nothing lacks parents that are all held
held_is : (low : Bool) (slot : Option Certificate) (certificate : Certificate) (outputs : List Output) → missing low slot true certificate outputs ≡ false
held_is true slot certificate outputs = refl
held_is false (Some found) certificate outputs =
    held_never (same_digest (certificate_digest found.header) (certificate_digest certificate.header)) (same_header found.header certificate.header)
held_is false None certificate outputs = refl

or_true : (either : Bool) → (either || true) ≡ true
or_true true = refl
or_true false = refl

-- a test that holds wherever another one does, holds of all where that does
all_more : {X : Type 0} (one other : X → Bool) (xs : List X) → ((x : X) → one x ≡ true → other x ≡ true) → list_all one xs ≡ true → list_all other xs ≡ true
all_more one other [] more all = refl
all_more one other (x ∷ xs) more all = by (all_more one other xs more) (one x) refl all
  where
    by : (list_all one xs ≡ true → list_all other xs ≡ true) → (is : Bool) → one x ≡ is → (is && list_all one xs) ≡ true → (other x && list_all other xs) ≡ true
    by more_of true is rest = ap (λ b. b && list_all other xs) (more x is) ∙ more_of rest
    by more_of false is rest = absurd (true≢false (sym rest))

all_hold : {X : Type 0} (test : X → Bool) (xs : List X) → ((x : X) → test x ≡ true) → list_all test xs ≡ true
all_hold test [] each = refl
all_hold test (x ∷ xs) each = ap (λ b. b && list_all test xs) (each x) ∙ all_hold test xs each

-- ---- the floor

over_or_not : (floor round : ℕ) → IsOver floor round ⊎ (IsOver floor round → ⊥)
over_or_not floor round =
    elim (cases_Bool (nat_lt 0 floor)) [
      | inl some ↦ elim (cases_Bool (nat_le round (suc floor))) [
        | inl within ↦ inl (ltb-true 0 floor some, leb-true round (suc floor) within)
        | inr above ↦ inr (λ over. let less : round ≤ suc floor = over.1 in grind (arith, above, less))
      ]
      | inr none ↦ inr (λ over. let less : 0 < floor = over.0 in grind (arith, none, less))
    ]

-- what is said of a floor that has not risen over a round or over the one below
not_to : (floor round other : ℕ) → (IsOver floor round → ⊥) → round ≤ suc other → (nat_lt 0 floor && nat_le other floor) ≡ false
not_to floor round other isnt near =
    elim (cases_Bool (nat_lt 0 floor)) [
      | inl some ↦ elim (cases_Bool (nat_le other floor)) [
        | inl within ↦ absurd (isnt (ltb-true 0 floor some, omega (arith, near, leb-true other floor within)))
        | inr above ↦ rw (some, above) refl
      ]
      | inr none ↦ rw none refl
    ]

-- ---- the slots of a round of which no certificate comes

nothing_of : (round author : ℕ) (found : Option Certificate) → ((c : Certificate) → found ≡ Some c → (c.header.round == round) ≡ false) → slots_of (option_to_list found) round author ≡ None
nothing_of round author None apart = refl
nothing_of round author (Some c) apart = ap (λ same. cond (same && (c.header.author.0 == author)) (Some c) None) (apart c refl)

module _ (node : Node) (state : State) (event : Event) (round : ℕ) (apart : (c : Certificate) → certificate_of node state event.message ≡ Some c → (c.header.round == round) ≡ false) where
  abbrev then : State
  then = after node state event

  -- what is there was there
  was_there : (author : ℕ) (c : Certificate) → then.slots round author ≡ Some c → state.slots round author ≡ Some c
  was_there author c is =
      elim (cases_Bool (nat_lt round (floor_in node (grown node state event.message)))) [
        | inl below ↦ let bad : None ≡ Some c = sym (ap (λ low. if low then None else (grown node state event.message).slots round author) below) ∙ is in absurd cc
        | inr isnt ↦
            sym (or_none (state.slots round author))
            ∙ sym (ap (option_or (state.slots round author)) (nothing_of round author (certificate_of node state event.message) apart))
            ∙ sym (ap (λ low. if low then None else (grown node state event.message).slots round author) isnt) ∙ is
      ]

  -- so nothing is there where nothing was
  none_there : (author : ℕ) → state.slots round author ≡ None → then.slots round author ≡ None
  none_there author none = by (then.slots round author) refl
    where
      by : (found : Option Certificate) → then.slots round author ≡ found → then.slots round author ≡ None
      by None is = is
      by (Some c) is = let bad : None ≡ Some c = sym none ∙ was_there author c is in absurd cc

-- A new message whose certificate, if it adds one, is of the lower of two rounds, one after the other, concerns no certificate of
-- others, unless the floor rises over it.
module _ (node : Node) (state : State) (event : Event) (low high : ℕ)
    (added : (c : Certificate) → certificate_of node state event.message ≡ Some c → (c.header.round ≡ low) × (high ≡ suc (suc low)))
    (from : Author) (certificate : Certificate) (outside : low ≤ certificate.header.round → certificate.header.round < high → ⊥) (lacks : lacks_parents node state from certificate ≡ true) where
  abbrev round : ℕ
  round = certificate.header.round

  abbrev next_state : State
  next_state = after node state event

  abbrev floor : ℕ
  floor = floor_in node next_state

  abbrev adds : State → List Output
  adds there = order_outputs there (grown node there (message.Certificate certificate))

  was : (is_low (floor_in node state) round ≡ false) × (state.slots round certificate.header.author.0 ≡ None) × (all_held state.slots (floor_in node state) certificate.header ≡ false)
  was = missing_is (is_low (floor_in node state) round) (state.slots round certificate.header.author.0) (all_held state.slots (floor_in node state) certificate.header)
      certificate (adds state) lacks

  -- the certificate is neither of this round nor of the one below
  here : (c : Certificate) → certificate_of node state event.message ≡ Some c → (c.header.round == round) ≡ false
  here c is =
      let at = added c is in
      elim (cases_Bool (c.header.round == round)) [
        | inl same ↦ let e : c.header.round ≡ round = eqb-true c.header.round round same in absurd (outside (omega (arith, at.0, e)) (omega (arith, at.0, at.1, e)))
        | inr other ↦ other
      ]

  below : (c : Certificate) → certificate_of node state event.message ≡ Some c → (c.header.round == round - 1) ≡ false
  below c is =
      let at = added c is in
      elim (cases_Bool (c.header.round == round - 1)) [
        | inl same ↦
            let e : c.header.round ≡ round - 1 = eqb-true c.header.round (round - 1) same in
            absurd (outside (omega (arith, at.0, e)) (omega (arith, at.0, at.1, e)))
        | inr other ↦ other
      ]

  abbrev matches : ParentReference → Option Certificate → Bool
  matches parent found = option_map_or (λ c. same_digest (certificate_digest c.header) parent.certificate) found false

  abbrev asked : Bool
  asked = nat_lt 0 floor && nat_le (round - 1) floor

  abbrev asked_before : Bool
  asked_before = nat_lt 0 (floor_in node state) && nat_le (round - 1) (floor_in node state)

  held_by : (asked ≡ false) → (parent : ParentReference) (found : Option Certificate) → next_state.slots (round - 1) parent.author.0 ≡ found → (matches parent found || asked) ≡ true
      → is_held state.slots (floor_in node state) round parent ≡ true
  held_by isnt parent None none is = absurd (true≢false (sym is ∙ isnt))
  held_by isnt parent (Some c) some is =
      let same : matches parent (Some c) ≡ true = sym (or_false (matches parent (Some c))) ∙ sym (ap (λ b. matches parent (Some c) || b) isnt) ∙ is in
      ap (λ o. matches parent o || asked_before) (was_there node state event (round - 1) below parent.author.0 c some) ∙ ap (λ b. b || asked_before) same

  held_before : (IsOver floor round → ⊥) → (parent : ParentReference) → is_held next_state.slots floor round parent ≡ true → is_held state.slots (floor_in node state) round parent ≡ true
  held_before isnt parent is = held_by (not_to floor round (round - 1) isnt (omega arith)) parent (next_state.slots (round - 1) parent.author.0) refl is

  not_held : (IsOver floor round → ⊥) → all_held next_state.slots floor certificate.header ≡ false
  not_held isnt =
      elim (cases_Bool (all_held next_state.slots floor certificate.header)) [
        | inl all ↦
            absurd (true≢false (sym (all_more (is_held next_state.slots floor round) (is_held state.slots (floor_in node state) round) certificate.header.parents (held_before isnt) all) ∙ was.2))
        | inr some ↦ some
      ]

  not_low : (IsOver floor round → ⊥) → is_low floor round ≡ false
  not_low isnt =
      elim (cases_Bool (round == 0)) [
        | inl genesis ↦ absurd (true≢false (sym (ap (λ b. b || (nat_lt 0 (floor_in node state) && nat_le round (floor_in node state))) genesis) ∙ was.0))
        | inr other ↦ ap (λ b. b || (nat_lt 0 floor && nat_le round floor)) other ∙ not_to floor round round isnt (omega arith)
      ]

  lack_by : IsOver floor round ⊎ (IsOver floor round → ⊥) → (lacks_parents node next_state from certificate ≡ true) ⊎ IsOver floor round
  lack_by (inl over) = inr over
  lack_by (inr isnt) =
      inl (is_missing (is_low floor round) (next_state.slots round certificate.header.author.0) (all_held next_state.slots floor certificate.header) certificate (adds next_state)
      (not_low isnt) (none_there node state event round here certificate.header.author.0 was.1) (not_held isnt))

  others_lack : (lacks_parents node (after node state event) from certificate ≡ true) ⊎ IsOver (floor_in node (after node state event)) certificate.header.round
  others_lack = lack_by (over_or_not floor round)

pub certificate_others : (own : Author) (certificate : Certificate) → LeavesOthers own (message.Certificate certificate) certificate.header.round (suc (suc certificate.header.round))
certificate_others own certificate node state sender from other new outside lacks =
    others_lack node state (record { sender = sender; message = message.Certificate certificate }) certificate.header.round (suc (suc certificate.header.round))
    (λ c is. let same : certificate ≡ c = cc in (ap (λ (one : Certificate). one.header.round) (sym same), refl)) from other outside lacks

-- the certificate of the own header of a round is of that round
module _ (node : Node) (state : State) (vote : Vote) (sound : IsSound node state) where
  abbrev counted : ℕ → Option Vote
  counted = counted_with node state (message.Vote vote) vote.round

  of_header : (header : Header) (c : Certificate) → header.body.round ≡ vote.round → certificate_by node counted header ≡ Some c → c.header.round ≡ vote.round
  of_header header c at is = by ((header.body.author.0 == node.own.0) && nat_le (quorum node) (weight node.charter (λ voter. is_some (counted voter)))) is
    where
      by : (full : Bool) → (if full then Some (record { header = header.body; votes = votes_by node counted }) else None) ≡ Some c → c.header.round ≡ vote.round
      by true same =
          let one : ◌≡◌ {A = Certificate} (record { header = header.body; votes = votes_by node counted }) c = cc in
          ap (λ (it : Certificate). it.header.round) (sym one) ∙ at
      by false same = absurd cc

  vote_adds : (found : Option Header) (c : Certificate) → state.own_headers vote.round ≡ found → option_and_then (certificate_by node counted) found ≡ Some c → c.header.round ≡ vote.round
  vote_adds None c none is = absurd cc
  vote_adds (Some header) c some is = of_header header c (placed_at (sound.votes.headers vote.round header some).place) is
    where
      placed_at : is_of_slot vote.round node.own.0 header.body ≡ true → header.body.round ≡ vote.round
      placed_at place =
          elim (cases_Bool (header.body.round == vote.round)) [
            | inl same ↦ eqb-true header.body.round vote.round same
            | inr other ↦ absurd (true≢false (sym place ∙ ap (λ b. b && (header.body.author.0 == node.own.0)) other))
          ]

pub vote_others : (own : Author) (vote : Vote) → LeavesOthers own (message.Vote vote) vote.round (suc (suc vote.round))
vote_others own vote node state sender from certificate new outside lacks =
    others_lack node state (record { sender = sender; message = message.Vote vote }) vote.round (suc (suc vote.round))
    (λ c is. (vote_adds node state vote new.sound (state.own_headers vote.round) c refl is, refl)) from certificate outside lacks

pub coin_others : (own : Author) (coin : Coin) (low high : ℕ) → LeavesOthers own (message.Coin coin) low high
coin_others own coin low high node state sender from certificate new outside lacks =
    others_lack node state (record { sender = sender; message = message.Coin coin }) low high (λ c is. absurd cc) from certificate outside lacks

module _ (node : Node) (state : State) (from : Author) (certificate : Certificate) (round : ℕ) (over : IsOver (floor_in node state) round) (below : certificate.header.round ≤ round) where
  abbrev low_floor : ℕ
  low_floor = floor_in node state

  abbrev slot : Option Certificate
  slot = state.slots certificate.header.round certificate.header.author.0

  abbrev held : Bool
  held = all_held state.slots low_floor certificate.header

  abbrev outputs : List Output
  outputs = order_outputs state (grown node state (message.Certificate certificate))

  above_none : nat_lt 0 low_floor ≡ true
  above_none =
      elim (cases_Bool (nat_lt 0 low_floor)) [
        | inl some ↦ some
        | inr none ↦ let less : 0 < low_floor = over.0 in absurd (grind (arith, none, less))
      ]

  to : nat_le (certificate.header.round - 1) low_floor ≡ true
  to =
      elim (cases_Bool (nat_le (certificate.header.round - 1) low_floor)) [
        | inl within ↦ within
        | inr above ↦ let near : certificate.header.round ≤ suc low_floor = omega (arith, over.1, below) in absurd (grind (arith, above, near))
      ]

  abbrev named : ParentReference → Bool
  named parent = option_map_or (λ c. same_digest (certificate_digest c.header) parent.certificate) (state.slots (certificate.header.round - 1) parent.author.0) false

  all : held ≡ true
  all = all_hold (is_held state.slots low_floor certificate.header.round) certificate.header.parents (λ parent.
      ap (λ b. named parent || (b && nat_le (certificate.header.round - 1) low_floor)) above_none ∙ ap (λ b. named parent || b) to ∙ or_true (named parent))

  lacks_none : lacks_parents node state from certificate ≡ false
  lacks_none = ap (λ all. missing (is_low low_floor certificate.header.round) slot all certificate outputs) all ∙ held_is (is_low low_floor certificate.header.round) slot certificate outputs

-- where the floor has risen over the certificates of a round, neither they nor those of a lower one lack parents
pub lacks_nothing_below : LacksNothingBelow
lacks_nothing_below node state from certificate round over below = lacks_none node state from certificate round over below
