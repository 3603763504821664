-- What a store of batches holds, and what holds of every store.
use Rattle.std.specs.Prelude.{◌≡◌, ◌≢◌, ℕ, ◌<◌, ◌≤◌, ◌==◌, ◌&&◌, ◌||◌, not, nat_le, Bool, true, false, List, [], length, map, find, fold, filter_map}
use Rattle.std.specs.Prelude.{Option, Some, None, option_map, All, AllPairs, if◌then◌else◌}
use Rattle.std.specs.Option.{option_map_or}
use Rattle.std.specs.Str.{bytes_eq}
use Rattle.wire.specs.Batches.{BatchView}
use Rattle.wire.specs.Digests.{batch_digest_of}
use Rattle.wire.specs.References.{placed}
use Rattle.wire.specs.declared.keys.Digest.{Digest}
use Rattle.wire.specs.declared.references.BatchReference.{BatchReference}
use Rattle.committee.specs.Charter.{Charter, IsCharter, weight, quorum_of}
use Rattle.committee.specs.Sets.{has}
use Rattle.sigface.specs.declared.seed.TableSeed.{TableSeed}
use Rattle.batchstore.specs.declared.held.Held.{Held}

-- a store: the committee, the validator's own number, the seed with which its table hashes, and the batches in the order of acceptance,
-- each with the members who acknowledged it and whether an own header named it
pub record BatchStoreView : Type 0 where
  pub charter : Charter
  pub own : ℕ
  pub seed : TableSeed
  pub held : List Held

-- ---- look-ups by the digest

abbrev pub digest_of : BatchView → Digest
digest_of batch = record { 0 = batch_digest_of batch }

-- the entry of the batch with this digest: found looks in a list of entries, held_at in a store
abbrev pub found : Digest → List Held → Option Held
found digest batches = find (λ held. bytes_eq digest.0 (digest_of held.batch).0) batches

abbrev pub held_at : BatchStoreView → Digest → Option Held
held_at stock digest = found digest stock.held

-- the batch of a digest, if it is held
abbrev pub batch_in : BatchStoreView → Digest → Option BatchView
batch_in stock digest = option_map (λ held. held.batch) (held_at stock digest)

-- the batch with this digest is held, and is a batch of this worker
abbrev pub has_with : BatchStoreView → Digest → ℕ → Bool
has_with stock digest worker = option_map_or (λ held. held.batch.worker == worker) (held_at stock digest) false

-- the batch of a digest is held, and is the validator's own
abbrev pub has_own : BatchStoreView → Digest → Bool
has_own stock digest = option_map_or (λ held. held.batch.author.0 == stock.own) (held_at stock digest) false

-- a member has acknowledged the batch of a digest
abbrev pub has_acked : BatchStoreView → Digest → ℕ → Bool
has_acked stock digest member = option_map_or (λ held. has held.acknowledged member) (held_at stock digest) false

-- an own header has named the batch of a digest
abbrev pub was_named : BatchStoreView → Digest → Bool
was_named stock digest = option_map_or (λ held. held.named) (held_at stock digest) false

-- a member holds an own batch: the validator itself does, and so does whoever acknowledged it
abbrev pub holds : BatchStoreView → Digest → ℕ → Bool
holds stock digest member = (member == stock.own) || has_acked stock digest member

-- an own batch is available: the members who hold it weigh a quorum
abbrev pub is_available : BatchStoreView → Digest → Bool
is_available stock digest =
    has_own stock digest && nat_le (quorum_of stock.charter) (weight stock.charter (holds stock digest))

-- ---- what a header may name

-- this member holds the batch of this entry: it is the validator itself, or it acknowledged the batch
abbrev pub holders : ℕ → Held → ℕ → Bool
holders own held member = (member == own) || has held.acknowledged member

-- the members who hold the batch of this entry weigh a quorum
abbrev pub is_quorate : Charter → ℕ → Held → Bool
is_quorate charter own held = nat_le (quorum_of charter) (weight charter (holders own held))

-- the next own header may name the batch: it is an own one, available, and no own header has named it yet
abbrev pub may_be_named : Charter → ℕ → Held → Bool
may_be_named charter own held = (held.batch.author.0 == own) && (is_quorate charter own held && not held.named)

-- the reference by which a header names this batch
abbrev pub as_reference : BatchView → BatchReference
as_reference batch = record { digest = digest_of batch; worker = batch.worker }

-- the reference by which a header names the batch of this entry, if it may be named
abbrev pub to_name : Charter → ℕ → Held → Option BatchReference
to_name charter own held = if may_be_named charter own held then Some (as_reference held.batch) else None

-- the references of those of these batches that may be named, sorted by digest
abbrev pub nameable_among : Charter → ℕ → List Held → List BatchReference
nameable_among charter own batches = fold placed [] (filter_map (to_name charter own) batches)

-- the references of all batches that may be named, sorted by digest
abbrev pub nameable : BatchStoreView → List BatchReference
nameable stock = nameable_among stock.charter stock.own stock.held

-- ---- the invariant of every store

-- this member may be one of those who acknowledged this batch: it is another member than the validator, and the batch is the validator's
-- own
pub record MayAck (charter : Charter) (own : ℕ) (held : Held) (member : ℕ) : Type 0 where
  pub ours : held.batch.author.0 ≡ own
  pub inside : member < length charter.keys
  pub other : member ≢ own

-- only other members have acknowledged a batch, and only an own batch has acknowledgements or is marked as named
pub record IsHeld (charter : Charter) (own : ℕ) (held : Held) : Type 0 where
  pub acknowledged : (member : ℕ) → has held.acknowledged member ≡ true → MayAck charter own held member
  pub named : held.named ≡ true → held.batch.author.0 ≡ own

-- the committee is sound and has the own member; no digest occurs twice, and there are no more batches than may be held
pub record IsStock (stock : BatchStoreView) : Type 0 where
  pub charter : IsCharter stock.charter
  pub own : stock.own < length stock.charter.keys
  pub distinct : AllPairs (λ one other. one ≢ other) (map (λ held. digest_of held.batch) stock.held)
  pub few : length stock.held ≤ stock.charter.batches
  pub each : All (IsHeld stock.charter stock.own) stock.held
