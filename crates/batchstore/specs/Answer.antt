-- What a store of batches answers to a batch, and what it holds after a batch, an acknowledgement or an own header.
use Rattle.std.specs.Prelude.{ℕ, ◌==◌, ◌&&◌, ◌++◌, ◌^◌, not, nat_lt, nat_le, Bool, true, false, List, [], ◌∷◌, length, map, is_none, Option, Some, None, Result, Ok, Err, if◌then◌else◌}
use Rattle.std.specs.Prelude.{bit_or}
use Rattle.std.specs.List.{list_any}
use Rattle.std.specs.Option.{option_map_or}
use Rattle.std.specs.Str.{bytes_eq}
use Rattle.wire.specs.Batches.{BatchView, batch_body}
use Rattle.wire.specs.declared.keys.Digest.{Digest}
use Rattle.wire.specs.declared.references.BatchReference.{BatchReference}
use Rattle.committee.specs.declared.sets.MemberSet.{MemberSet}
use Rattle.batchstore.specs.Stock.{BatchStoreView, digest_of, held_at, batch_in}
use Rattle.batchstore.specs.declared.held.Held.{Held}
use Rattle.batchstore.specs.declared.refusal.StoreRefusal.{StoreRefusal}
use Rattle.batchstore.specs.declared.refusal.StoreRefusal.TheVariants.{DigestClash, Full}

-- ---- a batch comes in

-- the store holds this batch already: the batch under its digest has the same body
abbrev pub is_known : BatchStoreView → BatchView → Bool
is_known stock batch = option_map_or (λ held. bytes_eq (batch_body held.batch) (batch_body batch)) (held_at stock (digest_of batch)) false

-- the store holds a batch with another body under this batch's digest
abbrev pub is_clash : BatchStoreView → BatchView → Bool
is_clash stock batch = option_map_or (λ held. not (bytes_eq (batch_body held.batch) (batch_body batch))) (held_at stock (digest_of batch)) false

-- no batch is held under this batch's digest
abbrev pub is_new : BatchStoreView → BatchView → Bool
is_new stock batch = is_none (held_at stock (digest_of batch))

-- the store holds as many batches as it may
abbrev pub is_full : BatchStoreView → Bool
is_full stock = nat_le stock.charter.batches (length stock.held)

-- the answer to a batch under whose digest another entry is held: that entry's batch where the bodies are the same, else DigestClash
abbrev pub held_answer : BatchView → BatchView → Result (Option BatchView) StoreRefusal
held_answer held batch = if bytes_eq (batch_body held) (batch_body batch) then Ok (Some held) else Err DigestClash

-- the answer to a batch under whose digest the store holds none: Full, or None where there is room for it
abbrev pub free_answer : BatchStoreView → Result (Option BatchView) StoreRefusal
free_answer stock = if is_full stock then Err Full else Ok None

-- the answer to a batch: the one that is held already, or None where it is new and there is room for it
abbrev pub answer : BatchStoreView → BatchView → Result (Option BatchView) StoreRefusal
answer stock batch = option_map_or (λ held. held_answer held batch) (batch_in stock (digest_of batch)) (free_answer stock)

-- the set of members that has no member
abbrev pub no_members : MemberSet
no_members = record { bits = 0 }

-- the store with one more batch, which has no acknowledgement and is named by no header
abbrev pub with_batch : BatchStoreView → BatchView → BatchStoreView
with_batch stock batch = record stock { held = stock.held ++ record { batch = batch; acknowledged = no_members; named = false } ∷ [] }

-- ---- a member acknowledges a batch

-- this number is that of a member of the store's committee
abbrev pub is_member : BatchStoreView → ℕ → Bool
is_member stock member = nat_lt member (length stock.charter.keys)

-- the set of members with this member added
abbrev pub with_member : MemberSet → ℕ → MemberSet
with_member members member = record { bits = bit_or members.bits (2 ^ member) }

-- the batch of this digest with one more acknowledgement; any other batch unchanged
abbrev pub acked_by : Digest → ℕ → Held → Held
acked_by digest member held =
    if bytes_eq digest.0 (digest_of held.batch).0 then record held { acknowledged = with_member held.acknowledged member } else held

-- the store after a member has acknowledged the batch of this digest
abbrev pub with_ack : BatchStoreView → Digest → ℕ → BatchStoreView
with_ack stock digest member = record stock { held = map (acked_by digest member) stock.held }

-- ---- an own header names batches

-- a header with these references names the batch
abbrev pub is_named_in : List BatchReference → BatchView → Bool
is_named_in references batch = list_any (λ reference. bytes_eq reference.digest.0 (digest_of batch).0) references

-- an own batch that the header names, marked as named; any other batch unchanged
abbrev pub named_by : ℕ → List BatchReference → Held → Held
named_by own references held =
    if (held.batch.author.0 == own) && is_named_in references held.batch then record held { named = true } else held

-- the store after an own header with these references
abbrev pub with_names : BatchStoreView → List BatchReference → BatchStoreView
with_names stock references = record stock { held = map (named_by stock.own references) stock.held }
