-- How a store keeps its batches: a table, and a list of those that a header may name.
use Rattle.std.specs.Prelude.{◌≡◌, ℕ, List, map}
use Rattle.std.specs.Cmp.Lexicographic.{slice_cmp}
use Rattle.std.specs.Ordering.{nat_cmp}
use Rattle.std.specs.declared.cmp.Ordering.{Ordering}
use Rattle.wire.specs.declared.keys.Digest.{Digest}
use Rattle.wire.specs.declared.references.BatchReference.{BatchReference}
use Rattle.sigface.specs.declared.seed.TableSeed.{TableSeed}
use Rattle.batchstore.specs.Stock.{BatchStoreView, IsStock, digest_of, nameable}
use Rattle.batchstore.specs.declared.held.Held.{Held}

-- the table of a store's batches: the seed with which it hashes, and the batches in the order of acceptance
pub record TableView : Type 0 where
  pub seed : TableSeed
  pub held : List Held

-- the order of digests: lexicographic, byte by byte
abbrev pub compared : Digest → Digest → Ordering
compared left right = slice_cmp nat_cmp left.0 right.0

-- the digest that stands with a batch is the batch's own
abbrev pub IsUnderItsDigest : Digest × Held → Type 0
IsUnderItsDigest entry = entry.0 ≡ digest_of entry.1.batch

-- the reference with this digest and worker
abbrev pub reference_of : Digest × ℕ → BatchReference
reference_of entry = record { digest = entry.0; worker = entry.1 }

-- a sound store, with the list of the digests and workers of exactly those of its batches that a header may name
pub record IsKept (stock : BatchStoreView) (listed : List (Digest × ℕ)) : Type 0 where
  pub valid : IsStock stock
  pub named : map reference_of listed ≡ nameable stock
