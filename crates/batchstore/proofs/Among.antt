-- One batch among those that are held.
use Rattle.std.proofs.Common.{◌≡◌, ◌≢◌, ℕ, zero, suc, Bool, true, false, cond, List, [], ◌∷◌, ◌++◌, length, Some, None, refl, sym, ap, ◌∙◌, arith, take, drop, slice_get, slice_set}
use Rattle.std.specs.Prelude.{map, find, All, AllPairs}
use Rattle.std.specs.List.{AllByRecursion}
use Rattle.std.specs.Str.{bytes_eq}
use Rattle.std.proofs.lemmas.Bool.{false_from_ne_true}
use Rattle.std.proofs.lemmas.List.Elements.{recursion_from_All, All-from_recursion}
use Rattle.std.proofs.lemmas.Slice.Eq.{bytes_eq-Decides}
use Rattle.wire.specs.declared.keys.Digest.{Digest}
use Rattle.batchstore.specs.Stock.{digest_of}
use Rattle.batchstore.specs.declared.held.Held.{Held}

-- the digest of what is held of a batch
abbrev pub digest_in : Held → Digest
digest_in held = digest_of held.batch

-- the batch of this digest
abbrev pub is_of : Digest → Held → Bool
is_of digest held = bytes_eq digest.0 (digest_in held).0

pub same_digest : (digest : Digest) → bytes_eq digest.0 digest.0 ≡ true
same_digest digest = (bytes_eq-Decides digest.0 digest.0).1 refl

pub one_digest : (one other : Digest) → bytes_eq one.0 other.0 ≡ true → one ≡ other
one_digest one other same = ap (λ (l : List ℕ). record { 0 = l }) ((bytes_eq-Decides one.0 other.0).0 same)

pub apart : (one other : Digest) → one ≢ other → bytes_eq one.0 other.0 ≡ false
apart one other differ = false_from_ne_true (bytes_eq one.0 other.0) (λ same. differ (one_digest one other same))

-- another batch at a place
pub set_parted : (batches : List Held) (place : ℕ) (old new : Held) → slice_get batches place ≡ Some old → slice_set batches place new ≡ take place batches ++ new ∷ drop (suc place) batches
set_parted [] place old new at = absurd cc
set_parted (first ∷ rest) zero old new at = refl
set_parted (first ∷ rest) (suc place) old new at = ap (λ l. first ∷ l) (set_parted rest place old new at)

-- ---- no other batch has the digest

-- none of the batches has this digest
abbrev pub None_of : Digest → List Held → Type 0
None_of digest batches = AllByRecursion (λ held. is_of digest held ≡ false) batches

-- what stands at a place, what stands before it and what after it
pub parted : (batches : List Held) (place : ℕ) (held : Held) → slice_get batches place ≡ Some held → batches ≡ take place batches ++ held ∷ drop (suc place) batches
parted [] place held at = absurd cc
parted (first ∷ rest) zero held at = let same : first ≡ held = cc in ap (λ (h : Held). h ∷ rest) same
parted (first ∷ rest) (suc place) held at = ap (λ l. first ∷ l) (parted rest place held at)

-- no two have one digest
abbrev pub Distinct : List Held → Type 0
Distinct batches = AllPairs (λ one other. one ≢ other) (map digest_in batches)

distinct-head : (first : Held) (rest : List Held) → Distinct (first ∷ rest) → AllByRecursion (λ other. digest_in first ≢ other) (map digest_in rest)
distinct-head first rest distinct =
    recursion_from_All (λ other. digest_in first ≢ other) (map digest_in rest) (λ k d low. distinct 0 (suc k) d (omega arith) (omega arith))

distinct-tail : (first : Held) (rest : List Held) → Distinct (first ∷ rest) → Distinct rest
distinct-tail first rest distinct = λ i j d before within. distinct (suc i) (suc j) d (omega arith) (omega arith)

none-of_digests : (digest : Digest) (batches : List Held) → AllByRecursion (λ other. digest ≢ other) (map digest_in batches) → None_of digest batches
none-of_digests digest [] others = tt
none-of_digests digest (h ∷ rest) others = (apart digest (digest_in h) others.0, none-of_digests digest rest others.1)

at_middle : (P : Digest → Type 0) (front : List Held) (held : Held) (back : List Held) → AllByRecursion P (map digest_in (front ++ held ∷ back)) → P (digest_in held)
at_middle P [] held back all = all.0
at_middle P (h ∷ front) held back all = at_middle P front held back all.1

-- of those before and after a batch none has its digest
pub others : (front : List Held) (held : Held) (back : List Held) → Distinct (front ++ held ∷ back) → None_of (digest_in held) front × None_of (digest_in held) back
others [] held back distinct = (tt, none-of_digests (digest_in held) back (distinct-head held back distinct))
others (h ∷ front) held back distinct =
    let rest = others front held back (distinct-tail h (front ++ held ∷ back) distinct) in
    let differs : digest_in h ≢ digest_in held = at_middle (λ other. digest_in h ≢ other) front held back (distinct-head h (front ++ held ∷ back) distinct) in
    ((apart (digest_in held) (digest_in h) (λ e. differs (sym e)), rest.0), rest.1)

-- the one batch of a digest is found
pub found : (digest : Digest) (front : List Held) (held : Held) (back : List Held) → digest_in held ≡ digest → None_of digest front → find (is_of digest) (front ++ held ∷ back) ≡ Some held
found digest [] held back is none = ap (λ b. cond b (Some held) (find (is_of digest) back)) (ap (λ (d : Digest). bytes_eq digest.0 d.0) is ∙ same_digest digest)
found digest (h ∷ front) held back is none = ap (λ b. cond b (Some h) (find (is_of digest) (front ++ held ∷ back))) none.0 ∙ found digest front held back is none.1

none_found_by : (digest : Digest) (h : Held) (rest : List Held) (b : Bool) → is_of digest h ≡ b → (is_of digest h ≡ false → None_of digest rest)
    → find (is_of digest) (h ∷ rest) ≡ None → None_of digest (h ∷ rest)
none_found_by digest h rest true is later none = let there : Some h ≡ None = sym (ap (λ b. cond b (Some h) (find (is_of digest) rest)) is) ∙ none in absurd cc
none_found_by digest h rest false is later none = (is, later is)

found_is_by : (digest : Digest) (h : Held) (rest : List Held) (held : Held) (b : Bool) → is_of digest h ≡ b
    → (is_of digest h ≡ false → digest_in held ≡ digest) → find (is_of digest) (h ∷ rest) ≡ Some held → digest_in held ≡ digest
found_is_by digest h rest held true there_is later is =
    let there : Some h ≡ Some held = sym (ap (λ b. cond b (Some h) (find (is_of digest) rest)) there_is) ∙ is in
    let same : h ≡ held = cc in
    ap digest_in (sym same) ∙ sym (one_digest digest (digest_in h) there_is)
found_is_by digest h rest held false there_isnt later is = later there_isnt

-- where none is found none has the digest
pub none_found : (digest : Digest) (batches : List Held) → find (is_of digest) batches ≡ None → None_of digest batches
none_found digest [] none = tt
none_found digest (h ∷ rest) none =
    none_found_by digest h rest (is_of digest h) refl (λ is. none_found digest rest (sym (ap (λ b. cond b (Some h) (find (is_of digest) rest)) is) ∙ none)) none

-- what is found has the digest
pub found_is : (digest : Digest) (batches : List Held) (held : Held) → find (is_of digest) batches ≡ Some held → digest_in held ≡ digest
found_is digest [] held is = absurd cc
found_is digest (h ∷ rest) held is =
    found_is_by digest h rest held (is_of digest h) refl (λ there_isnt. found_is digest rest held (sym (ap (λ b. cond b (Some h) (find (is_of digest) rest)) there_isnt) ∙ is)) is

-- a change of the batch of a digest alone
pub map-others : (change : Held → Held) (digest : Digest) → ((held : Held) → is_of digest held ≡ false → change held ≡ held) → (batches : List Held)
    → None_of digest batches → map change batches ≡ batches
map-others change digest keeps [] none = refl
map-others change digest keeps (h ∷ rest) none =
    ap (λ (x : Held). x ∷ map change rest) (keeps h none.0) ∙ ap (λ l. h ∷ l) (map-others change digest keeps rest none.1)

pub map-one : (change : Held → Held) (digest : Digest) → ((held : Held) → is_of digest held ≡ false → change held ≡ held) → (front : List Held) (held : Held) (back : List Held)
    → None_of digest front → None_of digest back → map change (front ++ held ∷ back) ≡ front ++ change held ∷ back
map-one change digest keeps [] held back before after = ap (λ l. change held ∷ l) (map-others change digest keeps back after)
map-one change digest keeps (h ∷ front) held back before after =
    ap (λ (x : Held). x ∷ map change (front ++ held ∷ back)) (keeps h before.0) ∙ ap (λ l. h ∷ l) (map-one change digest keeps front held back before.1 after)

-- ---- the others stay what they are

pub all-one : (P : Held → Type 0) (front : List Held) (old new : Held) (back : List Held) → (P old → P new) → AllByRecursion P (front ++ old ∷ back) → AllByRecursion P (front ++ new ∷ back)
all-one P [] old new back goes all = (goes all.0, all.1)
all-one P (h ∷ front) old new back goes all = (all.0, all-one P front old new back goes all.1)

pub in_middle : (P : Held → Type 0) (front : List Held) (held : Held) (back : List Held) → AllByRecursion P (front ++ held ∷ back) → P held
in_middle P [] held back all = all.0
in_middle P (h ∷ front) held back all = in_middle P front held back all.1

pub digests-one : (front : List Held) (old new : Held) (back : List Held) → digest_in new ≡ digest_in old → map digest_in (front ++ new ∷ back) ≡ map digest_in (front ++ old ∷ back)
digests-one [] old new back same = ap (λ (d : Digest). d ∷ map digest_in back) same
digests-one (h ∷ front) old new back same = ap (λ l. digest_in h ∷ l) (digests-one front old new back same)

pub length-one : (front : List Held) (old new : Held) (back : List Held) → length (front ++ new ∷ back) ≡ length (front ++ old ∷ back)
length-one [] old new back = refl
length-one (h ∷ front) old new back = ap suc (length-one front old new back)

-- with one batch more of a new digest no two have one digest
none-digests : (digest : Digest) (batches : List Held) → None_of digest batches → AllByRecursion (λ other. other ≢ digest) (map digest_in batches)
none-digests digest [] none = tt
none-digests digest (h ∷ rest) none =
    (λ same. (let is = ap (λ (d : Digest). bytes_eq digest.0 d.0) same ∙ same_digest digest in let not = none.0 in absurd cc), none-digests digest rest none.1)

pub map-push : (batches : List Held) (held : Held) → map digest_in (batches ++ held ∷ []) ≡ map digest_in batches ++ digest_in held ∷ []
map-push [] held = refl
map-push (h ∷ rest) held = ap (λ l. digest_in h ∷ l) (map-push rest held)

pub others_differ : (digest : Digest) (batches : List Held) → None_of digest batches → All (λ other. other ≢ digest) (map digest_in batches)
others_differ digest batches none = All-from_recursion (λ other. other ≢ digest) (map digest_in batches) (none-digests digest batches none)
