-- When a store of batches agrees with a state, and what it then answers.
use Rattle.std.specs.Prelude.{◌≡◌, ℕ, IsTrue, ◌==◌, ◌&&◌, ◌||◌, not, Bool, true, false, map, Result}
use Rattle.wire.specs.declared.message.Message.TheVariants as message
use Rattle.spec_model.specs.Admitting.{is_new, is_own}
use Rattle.spec_model.specs.Nodes.{Node}
use Rattle.spec_model.specs.States.{State}
use Rattle.spec_model.specs.Words.{Author, BatchReference, Digest, Event, Header, Message}
use Rattle.header.specs.declared.refusal.Refusal.{Refusal}
use Rattle.header.specs.declared.refusal.Refusal.TheVariants as refusal
use Rattle.spec_machine.specs.Machine.{answered, after}
use Rattle.batchstore.specs.Stock.{BatchStoreView, has_acked, has_with, is_available, was_named}
use Rattle.batchstore.specs.declared.refusal.StoreRefusal.{StoreRefusal}
use Rattle.batchstore.specs.declared.refusal.StoreRefusal.TheVariants as store
use Rattle.admission.specs.declared.step.Step.{Step}
use Rattle.admission.specs.Answers.{IsAnswer, RefusesAs}

-- a store has the batches of a node's state, in its order, each with who acknowledged it and whether an own header named it
pub record HasBatches (node : Node) (state : State) (stock : BatchStoreView) : Type 0 where
  pub charter : stock.charter ≡ node.charter
  pub own : stock.own ≡ node.own.0
  pub batches : map (λ held. held.batch) stock.held ≡ state.batches
  pub acked : (digest : Digest) (member : ℕ) → has_acked stock digest member ≡ state.acked digest member
  pub named : (digest : Digest) → was_named stock digest ≡ state.named digest

-- the refusal of admission for a refusal of the store
abbrev pub as_refusal : StoreRefusal → Refusal
as_refusal store.Memory = refusal.Memory
as_refusal store.DigestClash = refusal.DigestClash
as_refusal store.Full = refusal.StoreFull
as_refusal store.NotOurs = refusal.NotOurs

-- the store's result for a message is right: in each state whose batches the store has, it is the answer to any event with this message, or
-- Memory
abbrev pub AnswersFrom : BatchStoreView → Message → Result Step Refusal → Type 0
AnswersFrom stock came result = (node : Node) (state : State) (event : Event) → event.message ≡ came → HasBatches node state stock
    → IsAnswer (answered node state event) result

-- where a state whose batches the store has refuses an event with this message, the store's result is the same refusal, whether or not
-- memory runs out
abbrev pub RefusesFrom : BatchStoreView → Message → Result Step Refusal → Type 0
RefusesFrom stock came result = (node : Node) (state : State) (event : Event) → event.message ≡ came → HasBatches node state stock
    → RefusesAs (answered node state event) result

-- the flag says whether an event with this message is new, in each state whose batches the store has
abbrev pub IsNewFrom : BatchStoreView → Message → Bool → Type 0
IsNewFrom stock came result = (node : Node) (state : State) (event : Event) → event.message ≡ came → HasBatches node state stock
    → result ≡ is_new (answered node state event)

-- if the earlier store has the batches of a state, the later store has those of the state after any event with this message
abbrev pub GoesOn : BatchStoreView → BatchStoreView → Message → Type 0
GoesOn before later came = (node : Node) (state : State) (event : Event) → event.message ≡ came → HasBatches node state before
    → HasBatches node (after node state event) later

-- if the earlier store has the batches of a state, the later store has those of the state after this header, taken as a new own one
abbrev pub GoesOnWithOwn : BatchStoreView → BatchStoreView → Header → Type 0
GoesOnWithOwn before later header = (node : Node) (state : State) (event : Event) → event.message ≡ message.Header header
    → is_own node header.body.author ≡ true → IsTrue (is_new (answered node state event)) → HasBatches node state before
    → HasBatches node (after node state event) later

-- by what this store holds, a header of this author may name a batch: it is held with that worker, and for an own header it is also
-- available
abbrev pub may_name_by : BatchStoreView → Author → BatchReference → Bool
may_name_by stock author named = has_with stock named.digest named.worker && (not (author.0 == stock.own) || is_available stock named.digest)

-- a message of this kind changes the store of batches: it is a batch, an acknowledgement, or an own header
abbrev pub changes_batches : Node → Message → Bool
changes_batches node (message.Batch batch) = true
changes_batches node (message.BatchAck ack) = true
changes_batches node (message.Header header) = is_own node header.body.author
changes_batches node _ = false
