-- After a step from a sound state the batches are as they have to be.
use Rattle.std.proofs.Common.{◌≡◌, ◌≢◌, ℕ, zero, suc, ◌<◌, ◌≤◌, Bool, true, false, List, [], ◌∷◌, ◌++◌, length, Option, Some, None, ◌⊎◌, inl, inr, refl, ap, sym, ◌∙◌, subst, arith}
use Rattle.std.specs.Prelude.{◌==◌, ◌&&◌, ◌||◌, not, find, All, AllPairs}
use Rattle.std.specs.List.{list_any}
use Rattle.std.specs.Option.{option_map_or, option_to_list}
use Rattle.std.proofs.lemmas.Bool.{cases_Bool, and_parts, eqb-true, eq-eqb, true≢false}
use Rattle.std.proofs.lemmas.Option.{same_Some, none-some}
use Rattle.std.proofs.lemmas.List.{append-nil, length-append}
use Rattle.std.proofs.lemmas.List.Elements.{All-nil, All-cons, All-head, All-append}
use Rattle.std.proofs.lemmas.List.Folds.{find-append}
use Rattle.std.proofs.lemmas.List.Kept.{AllPairs-cons}
use Rattle.std.proofs.lemmas.Slice.Eq.{bytes_eq-Decides}
use Rattle.wire.specs.declared.message.Message.TheVariants as message
use Rattle.spec_model.specs.Admitting.{is_own, may_name, IsTaken}
use Rattle.spec_model.specs.Histories.{as_batch, as_ack, as_header}
use Rattle.spec_model.specs.Holdings.{batch_digest}
use Rattle.spec_model.specs.Nodes.{Node, size_of}
use Rattle.spec_model.specs.Slots.{same_digest}
use Rattle.spec_model.specs.States.{State, batch_in, has_own_batch, is_available}
use Rattle.spec_model.specs.Words.{Author, BatchAck, BatchReference, BatchView, Digest, Header, Message}
use Rattle.spec_laws.proofs.Closed.{all_to}
use Rattle.spec_laws.proofs.Lists.{given_or_none}
use Rattle.spec_laws.proofs.Meeting.{any_to}
use Rattle.spec_machine.specs.Machine.{acknowledges, names}
use Rattle.spec_machine.specs.Sound.{AreBatches}
use Rattle.spec_machine.proofs.AfterStep.{after_step}
use Rattle.spec_machine.proofs.NewThere.{new_batch, new_ack, new_header}
use Rattle.spec_machine.proofs.Passing.{batch_sender, ack_member}
use Rattle.spec_machine.proofs.Step.{IsStep, or_left}

-- ---- lists

-- where nothing is found nothing passes
none_pass : {X : Type 0} (test : X → Bool) (xs : List X) → find test xs ≡ None → All (λ x. test x ≡ false) xs
none_pass test [] none = All-nil (λ x. test x ≡ false)
none_pass test (x ∷ xs) none =
    elim (cases_Bool (test x)) [
      | inl here ↦ let found = rw here at none in absurd cc
      | inr other ↦ let rest = rw other at none in All-cons (λ y. test y ≡ false) x xs other (none_pass test xs rest)
    ]

-- one more at the end that each of the others goes with
pairs_push : {X : Type 0} (R : X → X → Type 0) (xs : List X) (x : X) → AllPairs R xs → All (λ y. R y x) xs → AllPairs R (xs ++ x ∷ [])
pairs_push R [] x pairs last = AllPairs-cons R x [] (All-nil (R x)) pairs
pairs_push R (y ∷ xs) x pairs last =
    let head : All (R y) xs = λ k d within. pairs zero (suc k) d (omega arith) (omega (arith, within)) in
    let tail : AllPairs R xs = λ i j d less within. pairs (suc i) (suc j) d (omega (arith, less)) (omega (arith, within)) in
    let rest : All (λ z. R z x) xs = λ k d within. last (suc k) d (omega (arith, within)) in
    AllPairs-cons R y (xs ++ x ∷ [])
    (All-append (R y) xs (x ∷ []) head (All-cons (R y) x [] (All-head (λ z. R z x) y xs last) (All-nil (R y))))
    (pairs_push R xs x tail rest)

-- ---- own batches

same_digests : (one other : Digest) → same_digest one other ≡ true → one ≡ other
same_digests one other same = ap (λ (bytes : List ℕ). record { 0 = bytes }) ((bytes_eq-Decides one.0 other.0).0 same)

-- an own batch stays one
own_stays : (node : Node) (state : State) (m : Message) (digest : Digest) → has_own_batch node state digest ≡ true → has_own_batch node (after_step node state m) digest ≡ true
own_stays node state m digest own =
    let test : BatchView → Bool = λ batch. same_digest (batch_digest batch) digest in
    let new = option_to_list (as_batch m) in
    elim (given_or_none (batch_in state digest)) [
      | inl found ↦
          let it = rw found.1 at own in
          let later : find test (state.batches ++ new) ≡ Some found.0 = find-append test state.batches new ∙ or_left (find test state.batches) (find test new) found.0 found.1 in
          ap (λ o. option_map_or (λ (batch : BatchView). batch.author.0 == node.own.0) o false) later ∙ it
      | inr none ↦ let bad = rw none at own in absurd cc
    ]

either : (one other : Bool) → (one || other) ≡ true → (one ≡ true) ⊎ (other ≡ true)
either true other is = inl refl
either false other is = inr is

but_for : (one other : Bool) → one ≡ true → (not one || other) ≡ true → other ≡ true
but_for true other holds is = is
but_for false other holds is = absurd cc

any_alone : {X : Type 0} (test : X → Bool) (o : Option X) → list_any test (option_to_list o) ≡ true → (x : X) × (o ≡ Some x) × (test x ≡ true)
any_alone test (Some x) is =
    elim (cases_Bool (test x)) [
      | inl passes ↦ (x, refl, passes)
      | inr fails ↦ let bad = rw fails at is in absurd cc
    ]
any_alone test None is = absurd cc

ack_is : (m : Message) (ack : BatchAck) → as_ack m ≡ Some ack → m ≡ message.BatchAck ack
ack_is (message.BatchAck new) ack is = ap (λ (a : BatchAck). message.BatchAck a) (same_Some new ack is)
ack_is (message.Batch batch) ack is = absurd (none-some ack is)
ack_is (message.Header header) ack is = absurd (none-some ack is)
ack_is (message.Vote vote) ack is = absurd (none-some ack is)
ack_is (message.Certificate certificate) ack is = absurd (none-some ack is)
ack_is (message.Coin coin) ack is = absurd (none-some ack is)

header_is : (m : Message) (header : Header) → as_header m ≡ Some header → m ≡ message.Header header
header_is (message.Header new) header is = ap (λ (h : Header). message.Header h) (same_Some new header is)
header_is (message.Batch batch) header is = absurd (none-some header is)
header_is (message.BatchAck ack) header is = absurd (none-some header is)
header_is (message.Vote vote) header is = absurd (none-some header is)
header_is (message.Certificate certificate) header is = absurd (none-some header is)
header_is (message.Coin coin) header is = absurd (none-some header is)

-- a new acknowledgement is of an own batch, by another member
record IsAckNew (node : Node) (state : State) (digest : Digest) (member : ℕ) : Type 0 where
  own : has_own_batch node state digest ≡ true
  within : member < size_of node
  other : member ≢ node.own.0

ack_new : (node : Node) (state : State) (sender : Author) (m : Message) → IsStep node state sender m → (digest : Digest) (member : ℕ)
    → acknowledges m digest member ≡ true → IsAckNew node state digest member
ack_new node state sender m step digest member is =
    let found = any_alone (λ (ack : BatchAck). same_digest ack.batch digest && (ack.author.0 == member)) (as_ack m) is in
    let ack = found.0 in
    let step' = subst (λ x. IsStep node state sender x) (ack_is m ack found.1) step in
    let parts = and_parts (same_digest ack.batch digest) (ack.author.0 == member) found.2 in
    let by = eqb-true ack.author.0 member parts.1 in
    let new = new_ack node state ack step'.new in
    record {
      own = ap (has_own_batch node state) (sym (same_digests ack.batch digest parts.0)) ∙ new.own;
      within = subst (λ a. a < size_of node) by (ack_member node sender ack step'.taken);
      other = λ own. true≢false (sym (eq-eqb ack.author.0 node.own.0 (by ∙ own)) ∙ new.foreign);
    }

-- what a new own header names is an own batch
named_new : (node : Node) (state : State) (sender : Author) (m : Message) → IsStep node state sender m → (digest : Digest) → names node m digest ≡ true → has_own_batch node state digest ≡ true
named_new node state sender m step digest is =
    let found = any_alone (λ (header : Header). (header.body.author.0 == node.own.0) && list_any (λ (named : BatchReference). same_digest named.digest digest) header.body.batches) (as_header m) is in
    let header = found.0 in
    let step' = subst (λ x. IsStep node state sender x) (header_is m header found.1) step in
    let parts = and_parts (header.body.author.0 == node.own.0) (list_any (λ (named : BatchReference). same_digest named.digest digest) header.body.batches) found.2 in
    let named = any_to (λ (named : BatchReference). same_digest named.digest digest) header.body.batches parts.1 in
    let new = new_header node state header step'.new in
    let may = all_to (may_name node state header) header.body.batches named.0 new.named named.1 in
    let available : (not (is_own node header.body.author) || is_available node state named.0.digest) ≡ true =
    (and_parts (option_map_or (λ (batch : BatchView). batch.worker == named.0.worker) (batch_in state named.0.digest) false)
    (not (is_own node header.body.author) || is_available node state named.0.digest) may).1 in
    let it = but_for (is_own node header.body.author) (is_available node state named.0.digest) parts.0 available in
    ap (has_own_batch node state) (sym (same_digests named.0.digest digest named.2)) ∙ (and_parts (has_own_batch node state named.0.digest) _ it).0

-- ---- the batches

abbrev Passed : Node → BatchView → Type 0
Passed node batch = IsTaken node (record { sender = batch.author; message = message.Batch batch })

abbrev Differ : BatchView → BatchView → Type 0
Differ one other = same_digest (batch_digest one) (batch_digest other) ≡ false

passed_new : (node : Node) (state : State) (sender : Author) (m : Message) → IsStep node state sender m → All (Passed node) (option_to_list (as_batch m))
passed_new node state sender (message.Batch batch) step =
    All-cons (Passed node) batch []
    (subst (λ a. IsTaken node (record { sender = a; message = message.Batch batch })) (sym (batch_sender node sender batch step.taken))
    step.taken) (All-nil (Passed node))
passed_new node state sender (message.BatchAck ack) step = All-nil (Passed node)
passed_new node state sender (message.Header header) step = All-nil (Passed node)
passed_new node state sender (message.Vote vote) step = All-nil (Passed node)
passed_new node state sender (message.Certificate certificate) step = All-nil (Passed node)
passed_new node state sender (message.Coin coin) step = All-nil (Passed node)

-- distinct ones, and so many
record AreFew (node : Node) (batches : List BatchView) : Type 0 where
  distinct : AllPairs Differ batches
  few : length batches ≤ node.charter.batches

few_same : (node : Node) (batches : List BatchView) → AreFew node batches → AreFew node (batches ++ [])
few_same node batches few = subst (AreFew node) (sym (append-nil batches)) few

few_stay : (node : Node) (state : State) (sender : Author) (m : Message) → IsStep node state sender m → AreFew node (state.batches ++ option_to_list (as_batch m))
few_stay node state sender (message.Batch batch) step =
    let was = step.sound.batches in
    let new = new_batch node state batch step.new in
    let room = new.room in
    let size = length-append state.batches (batch ∷ []) in
    record {
      distinct = pairs_push Differ state.batches batch was.distinct (none_pass (λ b. same_digest (batch_digest b) (batch_digest batch)) state.batches new.free);
      few = omega (arith, room, size);
    }
few_stay node state sender (message.BatchAck ack) step = few_same node state.batches (record { distinct = step.sound.batches.distinct; few = step.sound.batches.few })
few_stay node state sender (message.Header header) step = few_same node state.batches (record { distinct = step.sound.batches.distinct; few = step.sound.batches.few })
few_stay node state sender (message.Vote vote) step = few_same node state.batches (record { distinct = step.sound.batches.distinct; few = step.sound.batches.few })
few_stay node state sender (message.Certificate certificate) step = few_same node state.batches (record { distinct = step.sound.batches.distinct; few = step.sound.batches.few })
few_stay node state sender (message.Coin coin) step = few_same node state.batches (record { distinct = step.sound.batches.distinct; few = step.sound.batches.few })

pub batches_stay : (node : Node) (state : State) (sender : Author) (m : Message) → IsStep node state sender m → AreBatches node (after_step node state m)
batches_stay node state sender m step =
    let was = step.sound.batches in
    let few = few_stay node state sender m step in
    record {
      passed = All-append (Passed node) state.batches (option_to_list (as_batch m)) was.passed (passed_new node state sender m step);
      distinct = few.distinct;
      few = few.few;
      acked = λ digest member is. own_stays node state m digest
          (elim (either (state.acked digest member) (acknowledges m digest member) is) [
            | inl old ↦ was.acked digest member old
            | inr new ↦ (ack_new node state sender m step digest member new).own
          ]);
      by_members = λ digest member is.
          elim (either (state.acked digest member) (acknowledges m digest member) is) [
            | inl old ↦ was.by_members digest member old
            | inr new ↦ let it = ack_new node state sender m step digest member new in (it.within, it.other)
          ];
      named = λ digest is. own_stays node state m digest
          (elim (either (state.named digest) (names node m digest) is) [
            | inl old ↦ was.named digest old
            | inr new ↦ named_new node state sender m step digest new
          ]);
    }
