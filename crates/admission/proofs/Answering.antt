-- What a state that a store has the batches of answers, by what the store has.
use Rattle.std.proofs.Common.{◌≡◌, ℕ, Bool, true, false, List, [], length, Option, Some, None, Ok, Err, Result, inl, inr, refl, ap, sym, subst, arith, ◌∙◌}
use Rattle.std.proofs.Math.Path.{fun_ext}
use Rattle.std.specs.Prelude.{◌==◌, ◌&&◌, ◌||◌, not, nat_le, option_map, if◌then◌else◌}
use Rattle.std.specs.List.{list_all, list_any}
use Rattle.std.specs.Option.{option_map_or}
use Rattle.std.specs.Str.{bytes_eq}
use Rattle.std.proofs.lemmas.Bool.{and_parts, true≢false}
use Rattle.std.proofs.lemmas.Grind.{common_steps}
use Rattle.std.proofs.lemmas.List.{length-map}
use Rattle.wire.specs.Batches.{batch_body}
use Rattle.wire.specs.declared.message.Message.TheVariants as message
use Rattle.spec_model.specs.Admitting.{when◌gives◌else◌, is_new, is_own, batch_outputs, held_batch_answer, batch_answer, ack_answer, may_name, header_answer}
use Rattle.spec_model.specs.Nodes.{Node}
use Rattle.spec_model.specs.Slots.{same_digest}
use Rattle.spec_model.specs.States as states
use Rattle.spec_model.specs.States.{State, has_own_batch}
use Rattle.spec_model.specs.Words.{Author, BatchAck, BatchReference, BatchView, Digest, Event, Header, Message}
use Rattle.header.specs.declared.admission.Admission.{Admission}
use Rattle.header.specs.declared.admission.Admission.TheVariants.{New, Known, Refused}
use Rattle.header.specs.declared.refusal.Refusal.TheVariants.{NotOurs, StoreFull, DigestClash}
use Rattle.header.specs.declared.refusal.Refusal.{Refusal}
use Rattle.std.proofs.lemmas.Option.{same_Some, none-some}
use Rattle.spec_laws.proofs.Lists.{given_or_none}
use Rattle.spec_laws.proofs.Closed.{all_to}
use Rattle.spec_laws.proofs.Meeting.{any_to}
use Rattle.spec_machine.specs.Machine.{answered, after}
use Rattle.batchstore.specs.Answer.{is_full, held_answer, free_answer}
use Rattle.batchstore.specs.Answer.{answer as store_answer}
use Rattle.batchstore.specs.declared.refusal.StoreRefusal.{StoreRefusal}
use Rattle.batchstore.specs.declared.refusal.StoreRefusal.TheVariants as store
use Rattle.batchstore.specs.Stock.{BatchStoreView, digest_of, held_at, batch_in, has_own, holds, is_available}
use Rattle.batchstore.proofs.Among.{one_digest, found_is}
use Rattle.admission.specs.Batches.{HasBatches, as_refusal, may_name_by}
use Rattle.admission.proofs.Reading.{batch_of, batch_read, own_read, holds_read, available_read, with_read}

-- the event with a message is answered as the message
pub answered_as : (node : Node) (state : State) (event : Event) (m : Message) → event.message ≡ m
    → answered node state event ≡ answered node state (record { sender = event.sender; message = m })
answered_as node state event m is = ap (λ (x : Message). answered node state (record { sender = event.sender; message = x })) is

pub after_as : (P : State → Type 0) (node : Node) (state : State) (event : Event) (m : Message) → event.message ≡ m
    → P (after node state (record { sender = event.sender; message = m })) → P (after node state event)
after_as P node state event m is holds = subst (λ (x : Message). P (after node state (record { sender = event.sender; message = x }))) (sym is) holds

-- the store is the node's
pub the_own : (node : Node) (state : State) (stock : BatchStoreView) (own : Author) → HasBatches node state stock → own.0 ≡ stock.own → node.own ≡ own
the_own node state stock own has is = ap (λ (n : ℕ). record { 0 = n }) (sym (is ∙ has.own))

-- ---- batches

-- by the one that has the digest already
abbrev answer_from : Node → State → BatchView → Option BatchView → Admission
answer_from node state batch held =
    when held gives (λ h. held_batch_answer node h batch)
    else if nat_le node.charter.batches (length state.batches) then Refused StoreFull
    else New (batch_outputs node batch)

pub answer_held : (node : Node) (state : State) (stock : BatchStoreView) (batch : BatchView) (held : BatchView) → HasBatches node state stock
    → option_map batch_of (held_at stock (digest_of batch)) ≡ Some held → batch_answer node state batch ≡ held_batch_answer node held batch
answer_held node state stock batch held has is =
    ap (answer_from node state batch)
    (batch_read node state stock has (digest_of batch) ∙ is)

-- what is found under a digest has it
pub digest_found : (stock : BatchStoreView) (digest : Digest) (batch : BatchView) → Some batch ≡ batch_in stock digest → digest ≡ digest_of batch
digest_found stock digest batch is =
    elim (given_or_none (held_at stock digest)) [
      | inl found ↦
          let same : batch ≡ found.0.batch = same_Some batch found.0.batch (is ∙ ap (option_map batch_of) found.1) in
          sym (found_is digest stock.held found.0 found.1) ∙ ap digest_of (sym same)
      | inr none ↦ absurd (none-some batch (sym (is ∙ ap (option_map batch_of) none)))
    ]

pub none_under : (stock : BatchStoreView) (digest : Digest) → None ≡ batch_in stock digest → held_at stock digest ≡ None
none_under stock digest is =
    elim (given_or_none (held_at stock digest)) [
      | inl found ↦ absurd (none-some found.0.batch (is ∙ ap (option_map batch_of) found.1))
      | inr none ↦ none
    ]

same_room : (node : Node) (state : State) (stock : BatchStoreView) → HasBatches node state stock → nat_le node.charter.batches (length state.batches) ≡ is_full stock
same_room node state stock has =
    ap (λ (l : List BatchView). nat_le node.charter.batches (length l)) (sym has.batches) ∙ ap (nat_le node.charter.batches) (length-map stock.held batch_of)
    ∙ ap (λ c. nat_le c.batches (length stock.held)) (sym has.charter)

pub answer_free : (node : Node) (state : State) (stock : BatchStoreView) (batch : BatchView) → HasBatches node state stock → held_at stock (digest_of batch) ≡ None
    → batch_answer node state batch ≡ (if is_full stock then Refused StoreFull else New (batch_outputs node batch))
answer_free node state stock batch has is =
    ap (answer_from node state batch)
    (batch_read node state stock has (digest_of batch) ∙ ap (option_map batch_of) is)
    ∙ ap (λ b. if b then Refused StoreFull else New (batch_outputs node batch)) (same_room node state stock has)

-- what a state answers a batch, by what the store answers it
abbrev pub answered_by : Node → BatchView → Result (Option BatchView) StoreRefusal → Admission
answered_by node batch (Ok (Some held)) = Known (batch_outputs node held)
answered_by node batch (Ok None) = New (batch_outputs node batch)
answered_by node batch (Err refusal) = Refused (as_refusal refusal)

held_by : (node : Node) (batch held : BatchView) (same : Bool)
    → (if same then Known (batch_outputs node held) else Refused DigestClash) ≡ answered_by node batch (if same then Ok (Some held) else Err store.DigestClash)
held_by node batch held true = refl
held_by node batch held false = refl

free_by : (node : Node) (batch : BatchView) (full : Bool)
    → (if full then Refused StoreFull else New (batch_outputs node batch)) ≡ answered_by node batch (if full then Err store.Full else Ok None)
free_by node batch true = refl
free_by node batch false = refl

pub batch_answered : (node : Node) (state : State) (stock : BatchStoreView) (event : Event) (batch : BatchView) → event.message ≡ message.Batch batch
    → HasBatches node state stock → answered node state event ≡ answered_by node batch (store_answer stock batch)
batch_answered node state stock event batch came has =
    answered_as node state event (message.Batch batch) came
    ∙ elim (given_or_none (batch_in stock (digest_of batch))) [
      | inl found ↦
          answer_held node state stock batch found.0 has found.1
          ∙ held_by node batch found.0 (bytes_eq (batch_body found.0) (batch_body batch))
          ∙ sym (ap (λ o. answered_by node batch (option_map_or (λ held. held_answer held batch) o (free_answer stock))) found.1)
      | inr none ↦
          answer_free node state stock batch has (none_under stock (digest_of batch) (sym none))
          ∙ free_by node batch (is_full stock)
          ∙ sym (ap (λ o. answered_by node batch (option_map_or (λ held. held_answer held batch) o (free_answer stock))) none)
    ]

-- what the store answers that is held has the digest
pub held_digest : (stock : BatchStoreView) (digest : Digest) (batch held : BatchView) → digest ≡ digest_of batch → store_answer stock batch ≡ Ok (Some held) → digest ≡ digest_of held
held_digest stock digest batch held digested is =
    elim (given_or_none (batch_in stock digest)) [
      | inl found ↦
          let answered = ap (λ o. option_map_or (λ held. held_answer held batch) o (free_answer stock)) (sym found.1 ∙ ap (batch_in stock) digested) ∙ is in
          digest_found stock digest found.0 (sym found.1) ∙ ap digest_of (only (bytes_eq (batch_body found.0) (batch_body batch)) found.0 answered)
      | inr none ↦
          let answered = ap (λ o. option_map_or (λ held. held_answer held batch) o (free_answer stock)) (sym none ∙ ap (batch_in stock) digested) ∙ is in
          absurd (never (is_full stock) answered)
    ]
  where
    only : (same : Bool) (found : BatchView) → (if same then Ok (Some found) else Err store.DigestClash) ≡ Ok (Some held) → found ≡ held
    only true found e = cc
    only false found e = absurd cc

    never : (full : Bool) → (if full then Err store.Full else Ok None) ≡ Ok (Some held) → ⊥
    never true e = cc
    never false e = cc

-- ---- acknowledgements

pub answer_ack : (node : Node) (state : State) (stock : BatchStoreView) (ack : BatchAck) → HasBatches node state stock
    → ack_answer node state ack ≡ (if not (has_own stock ack.batch) then Refused NotOurs else if holds stock ack.batch ack.author.0 then Known [] else New [])
answer_ack node state stock ack has =
    ap (λ b. if not b then Refused NotOurs else if states.holds node state ack.batch ack.author.0 then Known [] else New []) (sym (own_read node state stock has ack.batch))
    ∙ ap (λ b. if not (has_own stock ack.batch) then Refused NotOurs else if b then Known [] else New []) (sym (holds_read node state stock has ack.batch ack.author.0))

pub ack_not_ours : (node : Node) (state : State) (stock : BatchStoreView) (ack : BatchAck) → HasBatches node state stock → has_own stock ack.batch ≡ false → ack_answer node state ack ≡ Refused NotOurs
ack_not_ours node state stock ack has own =
    answer_ack node state stock ack has ∙ ap (λ b. if not b then Refused NotOurs else if holds stock ack.batch ack.author.0 then Known [] else New []) own

pub ack_ours : (node : Node) (state : State) (stock : BatchStoreView) (ack : BatchAck) → HasBatches node state stock → has_own stock ack.batch ≡ true
    → ack_answer node state ack ≡ (if holds stock ack.batch ack.author.0 then Known [] else New [])
ack_ours node state stock ack has own =
    answer_ack node state stock ack has ∙ ap (λ b. if not b then Refused NotOurs else if holds stock ack.batch ack.author.0 then Known [] else New []) own

pub not_refused : (known : Bool) (refusal : Refusal) → (if known then Known [] else New []) ≡ Refused refusal → ⊥
not_refused true refusal is = cc
not_refused false refusal is = cc

-- ---- what is new

held_not_new : (node : Node) (held batch : BatchView) → is_new (held_batch_answer node held batch) ≡ false
held_not_new node held batch = same_not_new (bytes_eq (batch_body held) (batch_body batch))
  where
    same_not_new : (same : Bool) → is_new (if same then Known (batch_outputs node held) else Refused DigestClash) ≡ false
    same_not_new true = refl
    same_not_new false = refl

pub held_is_known : (node : Node) (state : State) (stock : BatchStoreView) (batch held : BatchView) → HasBatches node state stock → Some held ≡ batch_in stock (digest_of batch)
    → is_new (batch_answer node state batch) ≡ false
held_is_known node state stock batch held has is = ap is_new (answer_held node state stock batch held has (sym is)) ∙ held_not_new node held batch

pub new_if_room : (node : Node) (state : State) (stock : BatchStoreView) (batch : BatchView) → HasBatches node state stock → None ≡ batch_in stock (digest_of batch)
    → is_new (batch_answer node state batch) ≡ not (is_full stock)
new_if_room node state stock batch has is =
    ap is_new (answer_free node state stock batch has (none_under stock (digest_of batch) is)) ∙ in_room (is_full stock)
  where
    in_room : (full : Bool) → is_new (if full then Refused StoreFull else New (batch_outputs node batch)) ≡ not full
    in_room true = refl
    in_room false = refl

pub new_if_uncounted : (node : Node) (state : State) (stock : BatchStoreView) (ack : BatchAck) → HasBatches node state stock
    → is_new (ack_answer node state ack) ≡ (has_own stock ack.batch && not (holds stock ack.batch ack.author.0))
new_if_uncounted node state stock ack has = ap is_new (answer_ack node state stock ack has) ∙ uncounted (has_own stock ack.batch) (holds stock ack.batch ack.author.0)
  where
    uncounted : (own counted : Bool) → is_new (if not own then Refused NotOurs else if counted then Known [] else New []) ≡ (own && not counted)
    uncounted false counted = refl
    uncounted true true = refl
    uncounted true false = refl

-- ---- headers

pub may_name_alike : (node : Node) (state : State) (stock : BatchStoreView) (header : Header) (named : BatchReference) → HasBatches node state stock
    → may_name_by stock header.body.author named ≡ may_name node state header named
may_name_alike node state stock header named has =
    ap (λ b. b && (not (header.body.author.0 == stock.own) || is_available stock named.digest)) (with_read node state stock has named.digest named.worker)
    ∙ ap (λ (n : ℕ). worker && (not (header.body.author.0 == n) || is_available stock named.digest)) has.own
    ∙ ap (λ b. worker && (not (is_own node header.body.author) || b)) (available_read node state stock has named.digest)
  where
    worker : Bool
    worker = option_map_or (λ (batch : BatchView). batch.worker == named.worker) (states.batch_in state named.digest) false

pub may_name_all_alike : (node : Node) (state : State) (stock : BatchStoreView) (header : Header) → HasBatches node state stock
    → list_all (may_name_by stock header.body.author) header.body.batches ≡ list_all (may_name node state header) header.body.batches
may_name_all_alike node state stock header has =
    ap (λ (f : BatchReference → Bool). list_all f header.body.batches) (fun_ext (λ named. may_name_alike node state stock header named has))

header_named : (node : Node) (state : State) (header : Header) → is_new (header_answer node state header) ≡ true → list_all (may_name node state header) header.body.batches ≡ true
header_named node state header new = grind (arith, new, common_steps)

but_for : (left right : Bool) → left ≡ true → (not left || right) ≡ true → right ≡ true
but_for true right holds is = is
but_for false right holds is = absurd (true≢false (sym holds))

-- what a new own header names is an own batch
pub named_own : (node : Node) (state : State) (stock : BatchStoreView) (header : Header) → HasBatches node state stock → is_own node header.body.author ≡ true
    → is_new (header_answer node state header) ≡ true → (digest : Digest) → list_any (λ named. same_digest named.digest digest) header.body.batches ≡ true → has_own stock digest ≡ true
named_own node state stock header has mine new digest is =
    let named = any_to (λ (named : BatchReference). same_digest named.digest digest) header.body.batches is in
    let may = all_to (may_name node state header) header.body.batches named.0 (header_named node state header new) named.1 in
    let available = (and_parts (option_map_or (λ (batch : BatchView). batch.worker == named.0.worker) (states.batch_in state named.0.digest) false)
    (not (is_own node header.body.author) || states.is_available node state named.0.digest) may).1 in
    let it = but_for (is_own node header.body.author) (states.is_available node state named.0.digest) mine available in
    own_read node state stock has digest ∙ ap (has_own_batch node state) (sym (one_digest named.0.digest digest named.2)) ∙ (and_parts (has_own_batch node state named.0.digest) _ it).0
