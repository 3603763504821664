-- What a store reads is what the state reads, where it has the state's batches.
use Rattle.std.proofs.Common.{◌≡◌, ℕ, Bool, true, false, cond, List, [], ◌∷◌, map, Option, Some, None, inl, inr, refl, ap, sym, ◌∙◌}
use Rattle.std.proofs.Math.Path.{fun_ext}
use Rattle.std.specs.Prelude.{◌==◌, ◌&&◌, ◌||◌, find, nat_le, option_map}
use Rattle.std.specs.Option.{option_map_or}
use Rattle.std.specs.Str.{bytes_eq}
use Rattle.std.proofs.lemmas.Bool.{cases_Bool, false_from_ne_true, true≢false}
use Rattle.std.proofs.lemmas.Slice.Eq.{bytes_eq-Decides}
use Rattle.committee.specs.Charter.{Charter, weight, quorum_of}
use Rattle.spec_model.specs.Holdings.{batch_digest}
use Rattle.spec_model.specs.Nodes.{Node}
use Rattle.spec_model.specs.Slots.{same_digest}
use Rattle.spec_model.specs.States as states
use Rattle.spec_model.specs.States.{State, has_own_batch}
use Rattle.spec_model.specs.Words.{BatchView, Digest}
use Rattle.batchstore.specs.Stock.{BatchStoreView, held_at, batch_in, has_with, has_own, has_acked, holds, is_available}
use Rattle.batchstore.specs.declared.held.Held.{Held}
use Rattle.batchstore.proofs.Among.{is_of, digest_in}
use Rattle.admission.specs.Batches.{HasBatches}
use Rattle.admission.specs.Laws.{BatchesRead}

pub bytes_eq-swap : (one other : List ℕ) → bytes_eq one other ≡ bytes_eq other one
bytes_eq-swap one other =
    elim (cases_Bool (bytes_eq one other)) [
      | inl same ↦ same ∙ sym ((bytes_eq-Decides other one).1 (sym ((bytes_eq-Decides one other).0 same)))
      | inr apart ↦ apart ∙ sym (false_from_ne_true (bytes_eq other one) (λ same. true≢false (sym ((bytes_eq-Decides one other).1 (sym ((bytes_eq-Decides other one).0 same))) ∙ apart)))
    ]

-- the batch of what is held
abbrev pub batch_of : Held → BatchView
batch_of held = held.batch

-- what is made of the first of a list that passes
pub first_made : {X Y : Type 0} (f : X → Y) (passes : Bool) (x : X) (later : Option X) → cond passes (Some (f x)) (option_map f later) ≡ option_map f (cond passes (Some x) later)
first_made f true x later = refl
first_made f false x later = refl

pub of_made : {X Y : Type 0} (f : Y → Bool) (g : X → Y) (o : Option X) → option_map_or f (option_map g o) false ≡ option_map_or (λ x. f (g x)) o false
of_made f g (Some x) = refl
of_made f g None = refl

found_among : (digest : Digest) (held : List Held) → find (λ (batch : BatchView). same_digest (batch_digest batch) digest) (map batch_of held) ≡ option_map batch_of (find (is_of digest) held)
found_among digest [] = refl
found_among digest (h ∷ rest) =
    ap (λ b. cond b (Some h.batch) (find (λ (batch : BatchView). same_digest (batch_digest batch) digest) (map batch_of rest))) (bytes_eq-swap (digest_in h).0 digest.0)
    ∙ ap (cond (is_of digest h) (Some h.batch)) (found_among digest rest)
    ∙ first_made batch_of (is_of digest h) h (find (is_of digest) rest)

pub batch_read : (node : Node) (state : State) (stock : BatchStoreView) → HasBatches node state stock → (digest : Digest) → states.batch_in state digest ≡ batch_in stock digest
batch_read node state stock has digest = ap (find (λ (batch : BatchView). same_digest (batch_digest batch) digest)) (sym has.batches) ∙ found_among digest stock.held

-- what is said of the batch of a digest
said_of : (node : Node) (state : State) (stock : BatchStoreView) → HasBatches node state stock → (digest : Digest) (test : BatchView → Bool)
    → option_map_or (λ (h : Held). test h.batch) (held_at stock digest) false ≡ option_map_or test (states.batch_in state digest) false
said_of node state stock has digest test =
    sym (of_made test batch_of (held_at stock digest)) ∙ ap (λ o. option_map_or test o false) (sym (batch_read node state stock has digest))

pub own_read : (node : Node) (state : State) (stock : BatchStoreView) → HasBatches node state stock → (digest : Digest) → has_own stock digest ≡ has_own_batch node state digest
own_read node state stock has digest =
    ap (λ (n : ℕ). option_map_or (λ (h : Held). h.batch.author.0 == n) (held_at stock digest) false) has.own
    ∙ said_of node state stock has digest (λ batch. batch.author.0 == node.own.0)

pub holds_read : (node : Node) (state : State) (stock : BatchStoreView) → HasBatches node state stock → (digest : Digest) (member : ℕ)
    → holds stock digest member ≡ states.holds node state digest member
holds_read node state stock has digest member =
    ap (λ (n : ℕ). (member == n) || has_acked stock digest member) has.own ∙ ap (λ b. (member == node.own.0) || b) (has.acked digest member)

pub available_read : (node : Node) (state : State) (stock : BatchStoreView) → HasBatches node state stock → (digest : Digest) → is_available stock digest ≡ states.is_available node state digest
available_read node state stock has digest =
    ap (λ b. b && nat_le (quorum_of stock.charter) (weight stock.charter (holds stock digest))) (own_read node state stock has digest)
    ∙ ap (λ (c : Charter). has_own_batch node state digest && nat_le (quorum_of c) (weight c (holds stock digest))) has.charter
    ∙ ap (λ (members : ℕ → Bool). has_own_batch node state digest && nat_le (quorum_of node.charter) (weight node.charter members)) (fun_ext (λ member. holds_read node state stock has digest member))

pub with_read : (node : Node) (state : State) (stock : BatchStoreView) → HasBatches node state stock → (digest : Digest) (worker : ℕ)
    → has_with stock digest worker ≡ option_map_or (λ batch. batch.worker == worker) (states.batch_in state digest) false
with_read node state stock has digest worker = said_of node state stock has digest (λ batch. batch.worker == worker)

pub batches_read : BatchesRead
batches_read node state stock has = record {
  same_batch = λ digest. sym (batch_read node state stock has digest);
  same_own = own_read node state stock has;
  same_holds = holds_read node state stock has;
  same_available = available_read node state stock has;
  same_with = with_read node state stock has;
}
