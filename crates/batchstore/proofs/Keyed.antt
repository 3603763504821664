-- The table's entries, each under its digest.
use Rattle.std.proofs.Common.{◌≡◌, ◌<◌, ℕ, zero, suc, cond, List, [], ◌∷◌, ◌++◌, Some, refl, sym, ap, ◌∙◌, arith, length, slice_get, slice_set}
use Rattle.std.specs.List.{AllByRecursion}
use Rattle.std.specs.Map.{lookup, values_of}
use Rattle.std.specs.Str.{bytes_eq}
use Rattle.indexmap.specs.IndexMap.{set_value_at}
use Rattle.wire.specs.declared.keys.Digest.{Digest}
use Rattle.batchstore.specs.Stock.{found}
use Rattle.sigface.specs.declared.seed.TableSeed.{TableSeed}
use Rattle.batchstore.specs.Kept.{IsUnderItsDigest, TableView}
use Rattle.batchstore.specs.declared.held.Held.{Held}
use Rattle.batchstore.proofs.Among.{digest_in, is_of}

-- tables that hash with one seed and have the same batches are one
pub table_is : {left right : TableSeed} {held batches : List Held} → left ≡ right → held ≡ batches
    → ◌≡◌ {A = TableView} (record { seed = left; held = held }) (record { seed = right; held = batches })
table_is {left} {right} {held} {batches} seed same =
    ap (λ (s : TableSeed). record { seed = s; held = held }) seed ∙ ap (λ (l : List Held). record { seed = right; held = l }) same

abbrev pub Keyed : List (Digest × Held) → Type 0
Keyed entries = AllByRecursion IsUnderItsDigest entries

-- what the table finds is what is held
pub lookup-found : (digest : Digest) (entries : List (Digest × Held)) → Keyed entries → lookup (λ (k : Digest). bytes_eq digest.0 k.0) entries ≡ found digest (values_of entries)
lookup-found digest [] keyed = refl
lookup-found digest (e ∷ rest) keyed =
    ap (λ (k : Digest). cond (bytes_eq digest.0 k.0) (Some e.1) (lookup (λ (k : Digest). bytes_eq digest.0 k.0) rest)) keyed.0
    ∙ ap (cond (is_of digest e.1) (Some e.1)) (lookup-found digest rest keyed.1)

-- the value at a place stands where its entry does
pub value_at : (entries : List (Digest × Held)) (place : ℕ) (e : Digest × Held) → slice_get entries place ≡ Some e → slice_get (values_of entries) place ≡ Some e.1
value_at [] place e at = absurd cc
value_at (first ∷ rest) zero e at = let same : first ≡ e = cc in ap (λ (f : Digest × Held). Some f.1) same
value_at (first ∷ rest) (suc place) e at = value_at rest place e at

-- the values with one more after them
pub values-push : (entries : List (Digest × Held)) (digest : Digest) (held : Held) → values_of (entries ++ (digest, held) ∷ []) ≡ values_of entries ++ held ∷ []
values-push [] digest held = refl
values-push (e ∷ rest) digest held = ap (λ l. e.1 ∷ l) (values-push rest digest held)

pub keyed-push : (entries : List (Digest × Held)) (digest : Digest) (held : Held) → digest ≡ digest_in held → Keyed entries → Keyed (entries ++ (digest, held) ∷ [])
keyed-push [] digest held is keyed = (is, tt)
keyed-push (e ∷ rest) digest held is keyed = (keyed.0, keyed-push rest digest held is keyed.1)

-- the values with another one at a place
pub values-set : (entries : List (Digest × Held)) (place : ℕ) (new : Held) → values_of (set_value_at entries place new) ≡ slice_set (values_of entries) place new
values-set [] place new = refl
values-set (first ∷ rest) zero new = refl
values-set (first ∷ rest) (suc place) new = ap (λ l. first.1 ∷ l) (values-set rest place new)

-- each is still under its digest with another value of that digest at a place
pub keyed-set : (entries : List (Digest × Held)) (place : ℕ) (old new : Held) → slice_get (values_of entries) place ≡ Some old → digest_in new ≡ digest_in old → Keyed entries
    → Keyed (set_value_at entries place new)
keyed-set [] place old new at same keyed = absurd cc
keyed-set (first ∷ rest) zero old new at same keyed =
    let here : first.1 ≡ old = cc in
    (keyed.0 ∙ ap digest_in here ∙ sym same, keyed.1)
keyed-set (first ∷ rest) (suc place) old new at same keyed = (keyed.0, keyed-set rest place old new at same keyed.1)

-- something stands at each place below the count
pub stands_at : (batches : List Held) (place : ℕ) → place < length batches → (held : Held) × (slice_get batches place ≡ Some held)
stands_at [] place low = absurd (omega (arith, low))
stands_at (first ∷ rest) zero low = (first, refl)
stands_at (first ∷ rest) (suc place) low = stands_at rest place (omega (arith, low))
