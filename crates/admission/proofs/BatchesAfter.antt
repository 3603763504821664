-- What a store has after a batch, an acknowledgement or an own header is what the state has after the event.
use Rattle.std.proofs.Common.{◌≡◌, ℕ, Bool, true, false, cond, List, [], ◌∷◌, ◌++◌, map, Option, Some, None, inl, inr, refl, ap, sym, ◌∙◌}
use Rattle.std.proofs.Math.Bool.{or-true, or-false}
use Rattle.std.specs.Prelude.{◌==◌, ◌&&◌, ◌||◌, find, option_map}
use Rattle.std.specs.List.{list_any}
use Rattle.std.specs.Option.{option_map_or, option_or, option_to_list}
use Rattle.std.specs.Str.{bytes_eq}
use Rattle.std.proofs.lemmas.Bool.{cases_Bool, eqb-true, eq-eqb, false_from_ne_true, true≢false}
use Rattle.std.proofs.lemmas.List.{append-nil, map-append}
use Rattle.std.proofs.lemmas.List.Folds.{find-append}
use Rattle.std.proofs.lemmas.Nat.Bits.{bit_at-zero}
use Rattle.committee.specs.Sets.{has as is_in}
use Rattle.wire.specs.declared.message.Message.TheVariants as message
use Rattle.spec_model.specs.Admitting.{is_own}
use Rattle.spec_model.specs.Giving.{collected}
use Rattle.spec_model.specs.Histories.{as_batch}
use Rattle.spec_model.specs.Nodes.{Node}
use Rattle.spec_model.specs.Slots.{same_digest}
use Rattle.spec_model.specs.States.{State}
use Rattle.spec_model.specs.Words.{BatchAck, BatchReference, BatchView, Digest, Header, Message}
use Rattle.spec_laws.proofs.Lists.{given_or_none}
use Rattle.spec_machine.specs.Machine.{acknowledges, names, grown}
use Rattle.batchstore.specs.Answer.{no_members, with_member, with_batch, acked_by, with_ack, is_named_in, named_by, with_names}
use Rattle.batchstore.specs.Stock.{BatchStoreView, digest_of, held_at, has_own, has_acked, was_named}
use Rattle.batchstore.specs.declared.held.Held.{Held}
use Rattle.batchstore.proofs.Among.{digest_in, is_of, one_digest, found_is}
use Rattle.batchstore.proofs.Members.{has-with_member}
use Rattle.admission.specs.Batches.{HasBatches, changes_batches}
use Rattle.admission.specs.Laws.{BatchesStay}
use Rattle.admission.proofs.Reading.{batch_of, first_made, of_made}

-- the state after a message
abbrev pub state_after : Node → State → Message → State
state_after node state m = collected node (grown node state m)

-- ---- a new batch

nobody : (member : ℕ) → is_in no_members member ≡ false
nobody member = ap (λ (b : ℕ). b == 1) (bit_at-zero member)

-- one more at the end, of which nothing holds, is no other answer
nothing_more : {X : Type 0} (test : X → Bool) (found : Option X) (passes : Bool) (x : X) → test x ≡ false
    → option_map_or test (option_or found (cond passes (Some x) None)) false ≡ option_map_or test found false
nothing_more test (Some y) passes x fails = refl
nothing_more test None true x fails = fails
nothing_more test None false x fails = refl

pub batch_comes : (node : Node) (state : State) (stock : BatchStoreView) (batch : BatchView) → HasBatches node state stock
    → HasBatches node (state_after node state (message.Batch batch)) (with_batch stock batch)
batch_comes node state stock batch has =
    let new : Held = record { batch = batch; acknowledged = no_members; named = false } in
    let said : (test : Held → Bool) (digest : Digest) → test new ≡ false
    → option_map_or test (find (is_of digest) (stock.held ++ new ∷ [])) false ≡ option_map_or test (held_at stock digest) false =
    λ test digest fails. ap (λ o. option_map_or test o false) (find-append (is_of digest) stock.held (new ∷ []))
    ∙ nothing_more test (held_at stock digest) (is_of digest new) new fails in
    record {
      charter = has.charter;
      own = has.own;
      batches = map-append batch_of stock.held (new ∷ []) ∙ ap (λ (l : List BatchView). l ++ batch ∷ []) has.batches;
      acked = λ digest member. said (λ h. is_in h.acknowledged member) digest (nobody member) ∙ has.acked digest member ∙ sym (or-false (state.acked digest member));
      named = λ digest. said (λ h. h.named) digest refl ∙ has.named digest ∙ sym (or-false (state.named digest));
    }

-- ---- what is held changes, and the batches stay

kept_batch : (changes : Bool) (new old : Held) → new.batch ≡ old.batch → (cond changes new old).batch ≡ old.batch
kept_batch true new old same = same
kept_batch false new old same = refl

same_batches : (change : Held → Held) → ((h : Held) → (change h).batch ≡ h.batch) → (held : List Held) → map batch_of (map change held) ≡ map batch_of held
same_batches change same [] = refl
same_batches change same (h ∷ rest) = ap (λ (b : BatchView). b ∷ map batch_of (map change rest)) (same h) ∙ ap (λ l. h.batch ∷ l) (same_batches change same rest)

found_changed : (change : Held → Held) → ((h : Held) → (change h).batch ≡ h.batch) → (digest : Digest) (held : List Held)
    → find (is_of digest) (map change held) ≡ option_map change (find (is_of digest) held)
found_changed change same digest [] = refl
found_changed change same digest (h ∷ rest) =
    ap (λ (b : BatchView). cond (bytes_eq digest.0 (digest_of b).0) (Some (change h)) (find (is_of digest) (map change rest))) (same h)
    ∙ ap (cond (is_of digest h) (Some (change h))) (found_changed change same digest rest)
    ∙ first_made change (is_of digest h) h (find (is_of digest) rest)

-- what is said of the batch of a digest after a change
said_changed : (change : Held → Held) → ((h : Held) → (change h).batch ≡ h.batch) → (test : Held → Bool) (digest : Digest) (held : List Held)
    → option_map_or test (find (is_of digest) (map change held)) false ≡ option_map_or (λ h. test (change h)) (find (is_of digest) held) false
said_changed change same test digest held =
    ap (λ o. option_map_or test o false) (found_changed change same digest held) ∙ of_made test change (find (is_of digest) held)

said_alike : {X : Type 0} (one other : X → Bool) → ((x : X) → one x ≡ other x) → (o : Option X) → option_map_or one o false ≡ option_map_or other o false
said_alike one other same (Some x) = same x
said_alike one other same None = refl

eqb-swap : (a b : ℕ) → (a == b) ≡ (b == a)
eqb-swap a b =
    elim (cases_Bool (a == b)) [
      | inl same ↦ same ∙ sym (eq-eqb b a (sym (eqb-true a b same)))
      | inr apart ↦ apart ∙ sym (false_from_ne_true (b == a) (λ same. true≢false (sym (eq-eqb a b (sym (eqb-true b a same))) ∙ apart)))
    ]

-- ---- an acknowledgement

ack_keeps : (digest : Digest) (member : ℕ) (h : Held) → (acked_by digest member h).batch ≡ h.batch
ack_keeps digest member h = kept_batch (bytes_eq digest.0 (digest_in h).0) (record h { acknowledged = with_member h.acknowledged member }) h refl

one_acked : (here : Bool) (h : Held) (member other : ℕ)
    → is_in (cond here (record h { acknowledged = with_member h.acknowledged member }) h).acknowledged other ≡ (is_in h.acknowledged other || ((here && (member == other)) || false))
one_acked true h member other =
    has-with_member h.acknowledged member other ∙ ap (λ b. is_in h.acknowledged other || b) (eqb-swap other member ∙ sym (or-false (member == other)))
one_acked false h member other = sym (or-false (is_in h.acknowledged other))

-- of what isn't held nothing is said
nothing_own : (stock : BatchStoreView) (digest : Digest) → held_at stock digest ≡ None → has_own stock digest ≡ true → ⊥
nothing_own stock digest none own = true≢false (sym own ∙ ap (λ o. option_map_or (λ (h : Held). h.batch.author.0 == stock.own) o false) none)

acked_after : (stock : BatchStoreView) (digest : Digest) (member : ℕ) → has_own stock digest ≡ true → (other : Digest) (voter : ℕ)
    → has_acked (with_ack stock digest member) other voter ≡ (has_acked stock other voter || ((same_digest digest other && (member == voter)) || false))
acked_after stock digest member own other voter =
    let test : Held → Bool = λ h. is_in h.acknowledged voter in
    let change : Held → Held = acked_by digest member in
    said_changed change (ack_keeps digest member) test other stock.held
    ∙ elim (given_or_none (held_at stock other)) [
      | inl found ↦
          let h = found.0 in
          ap (λ o. option_map_or (λ x. test (change x)) o false) found.1
          ∙ ap (λ (d : Digest). is_in (cond (bytes_eq digest.0 d.0) (record h { acknowledged = with_member h.acknowledged member }) h).acknowledged voter) (found_is other stock.held h found.1)
          ∙ one_acked (same_digest digest other) h member voter
          ∙ sym (ap (λ o. option_map_or test o false || ((same_digest digest other && (member == voter)) || false)) found.1)
      | inr none ↦
          let apart : same_digest digest other ≡ false =
          false_from_ne_true (same_digest digest other) (λ same. nothing_own stock other none (ap (has_own stock) (sym (one_digest digest other same)) ∙ own)) in
          ap (λ o. option_map_or (λ x. test (change x)) o false) none
          ∙ sym (ap (λ o. option_map_or test o false || ((same_digest digest other && (member == voter)) || false)) none ∙ ap (λ b. (b && (member == voter)) || false) apart)
    ]

pub ack_comes : (node : Node) (state : State) (stock : BatchStoreView) (ack : BatchAck) → has_own stock ack.batch ≡ true → HasBatches node state stock
    → HasBatches node (state_after node state (message.BatchAck ack)) (with_ack stock ack.batch ack.author.0)
ack_comes node state stock ack own has =
    let change : Held → Held = acked_by ack.batch ack.author.0 in
    let keeps = ack_keeps ack.batch ack.author.0 in
    record {
      charter = has.charter;
      own = has.own;
      batches = same_batches change keeps stock.held ∙ has.batches ∙ sym (append-nil state.batches);
      acked = λ digest member.
          acked_after stock ack.batch ack.author.0 own digest member
          ∙ ap (λ b. b || ((same_digest ack.batch digest && (ack.author.0 == member)) || false)) (has.acked digest member);
      named = λ digest.
          said_changed change keeps (λ h. h.named) digest stock.held
          ∙ said_alike (λ h. (change h).named) (λ h. h.named) (λ h. still_named (bytes_eq ack.batch.0 (digest_in h).0) h) (held_at stock digest)
          ∙ has.named digest ∙ sym (or-false (state.named digest));
    }
  where
    still_named : (here : Bool) (h : Held) → (cond here (record h { acknowledged = with_member h.acknowledged ack.author.0 }) h).named ≡ h.named
    still_named true h = refl
    still_named false h = refl

-- ---- an own header

name_keeps : (own : ℕ) (references : List BatchReference) (h : Held) → (named_by own references h).batch ≡ h.batch
name_keeps own references h = kept_batch ((h.batch.author.0 == own) && is_named_in references h.batch) (record h { named = true }) h refl

one_named : (here : Bool) (h : Held) → (cond here (record h { named = true }) h).named ≡ (h.named || here)
one_named true h = sym (or-true h.named)
one_named false h = sym (or-false h.named)

same_acked : (here : Bool) (h : Held) (member : ℕ) → is_in (cond here (record h { named = true }) h).acknowledged member ≡ is_in h.acknowledged member
same_acked true h member = refl
same_acked false h member = refl

implied : (one other : Bool) → (other ≡ true → one ≡ true) → (one && other) ≡ other
implied true other then = refl
implied false true then = then refl
implied false false then = refl

abbrev among : List BatchReference → Digest → Bool
among references digest = list_any (λ (named : BatchReference). same_digest named.digest digest) references

named_after : (stock : BatchStoreView) (references : List BatchReference) (digest : Digest) → (among references digest ≡ true → has_own stock digest ≡ true)
    → was_named (with_names stock references) digest ≡ (was_named stock digest || among references digest)
named_after stock references digest ours =
    let change : Held → Held = named_by stock.own references in
    said_changed change (name_keeps stock.own references) (λ h. h.named) digest stock.held
    ∙ elim (given_or_none (held_at stock digest)) [
      | inl found ↦
          let h = found.0 in
          let own : has_own stock digest ≡ (h.batch.author.0 == stock.own) = ap (λ o. option_map_or (λ (x : Held). x.batch.author.0 == stock.own) o false) found.1 in
          ap (λ o. option_map_or (λ x. (change x).named) o false) found.1
          ∙ one_named ((h.batch.author.0 == stock.own) && is_named_in references h.batch) h
          ∙ ap (λ (d : Digest). h.named || ((h.batch.author.0 == stock.own) && among references d)) (found_is digest stock.held h found.1)
          ∙ ap (λ b. h.named || b) (implied (h.batch.author.0 == stock.own) (among references digest) (λ is. sym own ∙ ours is))
          ∙ sym (ap (λ o. option_map_or (λ (x : Held). x.named) o false || among references digest) found.1)
      | inr none ↦
          let apart : among references digest ≡ false = false_from_ne_true (among references digest) (λ is. nothing_own stock digest none (ours is)) in
          ap (λ o. option_map_or (λ x. (change x).named) o false) none
          ∙ sym (ap (λ o. option_map_or (λ (x : Held). x.named) o false || among references digest) none ∙ apart)
    ]

pub names_come : (node : Node) (state : State) (stock : BatchStoreView) (header : Header) → is_own node header.body.author ≡ true
    → ((digest : Digest) → list_any (λ named. same_digest named.digest digest) header.body.batches ≡ true → has_own stock digest ≡ true)
    → HasBatches node state stock → HasBatches node (state_after node state (message.Header header)) (with_names stock header.body.batches)
names_come node state stock header mine ours has =
    let references = header.body.batches in
    let change : Held → Held = named_by stock.own references in
    let keeps = name_keeps stock.own references in
    record {
      charter = has.charter;
      own = has.own;
      batches = same_batches change keeps stock.held ∙ has.batches ∙ sym (append-nil state.batches);
      acked = λ digest member.
          said_changed change keeps (λ h. is_in h.acknowledged member) digest stock.held
          ∙ said_alike (λ h. is_in (change h).acknowledged member) (λ h. is_in h.acknowledged member)
          (λ h. same_acked ((h.batch.author.0 == stock.own) && is_named_in references h.batch) h member) (held_at stock digest)
          ∙ has.acked digest member ∙ sym (or-false (state.acked digest member));
      named = λ digest.
          named_after stock references digest (ours digest)
          ∙ ap (λ b. b || among references digest) (has.named digest)
          ∙ ap (λ b. state.named digest || b) (sym (or-false (among references digest)))
          ∙ ap (λ b. state.named digest || ((b && among references digest) || false)) (sym mine);
    }

-- ---- any other message

-- a message says nothing of batches
record SaysNothing (node : Node) (m : Message) : Type 0 where
  batch : as_batch m ≡ None
  acks : (digest : Digest) (member : ℕ) → acknowledges m digest member ≡ false
  names : (digest : Digest) → names node m digest ≡ false

says_nothing : (node : Node) (m : Message) → changes_batches node m ≡ false → SaysNothing node m
says_nothing node (message.Batch batch) is = absurd (true≢false is)
says_nothing node (message.BatchAck ack) is = absurd (true≢false is)
says_nothing node (message.Header header) is = record { batch = refl; acks = λ digest member. refl; names = λ digest. ap (λ b. (b && among header.body.batches digest) || false) is }
says_nothing node (message.Vote vote) is = record { batch = refl; acks = λ digest member. refl; names = λ digest. refl }
says_nothing node (message.Certificate certificate) is = record { batch = refl; acks = λ digest member. refl; names = λ digest. refl }
says_nothing node (message.Coin coin) is = record { batch = refl; acks = λ digest member. refl; names = λ digest. refl }

pub batches_stay : BatchesStay
batches_stay node state event stock has is =
    let nothing = says_nothing node event.message is in
    record {
      charter = has.charter;
      own = has.own;
      batches = has.batches ∙ sym (append-nil state.batches) ∙ ap (λ o. state.batches ++ option_to_list o) (sym nothing.batch);
      acked = λ digest member. has.acked digest member ∙ sym (or-false (state.acked digest member)) ∙ ap (λ b. state.acked digest member || b) (sym (nothing.acks digest member));
      named = λ digest. has.named digest ∙ sym (or-false (state.named digest)) ∙ ap (λ b. state.named digest || b) (sym (nothing.names digest));
    }
