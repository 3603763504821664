-- A store that is made of a list of batches.
use Rattle.std.proofs.Common.{◌≡◌, ℕ, suc, ◌+◌, ◌<◌, Bool, true, false, cond, List, [], ◌∷◌, ◌++◌, None, Some, refl, sym, ap, subst, ◌∙◌, length, get_or, take, drop}
use Rattle.std.specs.Prelude.{map, find, fold}
use Rattle.std.specs.BTreeMap.{insert_entry}
use Rattle.std.specs.Map.{lookup, values_of}
use Rattle.std.specs.Str.{bytes_eq}
use Rattle.std.proofs.Math.Seq.{drop-cons}
use Rattle.std.proofs.lemmas.List.{append-nil, take-append-drop, take_more}
use Rattle.indexmap.specs.IndexMap as index
use Rattle.indexmap.proofs.MapLemmas.{absent_from_lookup, insert_entry-absent}
use Rattle.wire.specs.References.{placed}
use Rattle.wire.specs.declared.keys.Digest.{Digest}
use Rattle.committee.specs.Charter.{Charter}
use Rattle.batchstore.specs.Stock.{as_reference, may_be_named, nameable_among}
use Rattle.batchstore.specs.Kept.{compared, reference_of}
use Rattle.batchstore.specs.declared.held.Held.{Held}
use Rattle.batchstore.proofs.Among.{digest_in, is_of, None_of, Distinct, others}
use Rattle.batchstore.proofs.Keyed.{Keyed, lookup-found, values-push}
use Rattle.batchstore.proofs.Listing.{named_among, absent-among, middle-some, push-none, to_name-none, to_name-some}
use Rattle.batchstore.proofs.Placed.{Absent, absent-fold, inserted}

-- an entry as the map has it
abbrev pub Entry : Type 0
Entry = Digest × Held

pub values-append : (front back : List Entry) → values_of (front ++ back) ≡ values_of front ++ values_of back
values-append [] back = refl
values-append (e ∷ front) back = ap (λ l. e.1 ∷ l) (values-append front back)

find_none : (digest : Digest) (batches : List Held) → None_of digest batches → find (is_of digest) batches ≡ None
find_none digest [] none = refl
find_none digest (h ∷ rest) none = ap (λ b. cond b (Some h) (find (is_of digest) rest)) none.0 ∙ find_none digest rest none.1

keyed_front : (front back : List Entry) → Keyed (front ++ back) → Keyed front
keyed_front [] back keyed = tt
keyed_front (e ∷ front) back keyed = (keyed.0, keyed_front front back keyed.1)

keyed_back : (front back : List Entry) → Keyed (front ++ back) → Keyed back
keyed_back [] back keyed = keyed
keyed_back (e ∷ front) back keyed = keyed_back front back keyed.1

joined : (front : List Entry) (e : Entry) (rest : List Entry) → (front ++ e ∷ []) ++ rest ≡ front ++ e ∷ rest
joined [] e rest = refl
joined (f ∷ front) e rest = ap (λ l. f ∷ l) (joined front e rest)

-- none of those before an entry has its digest
pub none_before : (front : List Entry) (e : Entry) (rest : List Entry) → Distinct (values_of (front ++ e ∷ rest)) → None_of (digest_in e.1) (values_of front)
none_before front e rest distinct = (others (values_of front) e.1 (values_of rest) (subst Distinct (values-append front (e ∷ rest)) distinct)).0

-- entries that are put into a map one after another stand there in their order
pub all_inserted : (front rest : List Entry) → Keyed (front ++ rest) → Distinct (values_of (front ++ rest))
    → index.insert_all (λ (one other : Digest). bytes_eq one.0 other.0) front rest ≡ front ++ rest
all_inserted front [] keyed distinct = sym (append-nil front)
all_inserted front (e ∷ rest) keyed distinct =
    let mine : e.0 ≡ digest_in e.1 = (keyed_back front (e ∷ rest) keyed).0 in
    let none : None_of e.0 (values_of front) = subst (λ d. None_of d (values_of front)) (sym mine) (none_before front e rest distinct) in
    let unfound : lookup (λ (k : Digest). bytes_eq e.0.0 k.0) front ≡ None = lookup-found e.0 front (keyed_front front (e ∷ rest) keyed) ∙ find_none e.0 (values_of front) none in
    let one : index.insert_entry (λ (one other : Digest). bytes_eq one.0 other.0) front e.0 e.1 ≡ front ++ e ∷ [] =
    insert_entry-absent (λ (one other : Digest). bytes_eq one.0 other.0) e.0 e.1 front (absent_from_lookup (λ (k : Digest). bytes_eq e.0.0 k.0) front unfound) in
    ap (λ l. index.insert_all (λ (one other : Digest). bytes_eq one.0 other.0) l rest) one
    ∙ all_inserted (front ++ e ∷ []) rest (subst Keyed (sym (joined front e rest)) keyed) (subst (λ l. Distinct (values_of l)) (sym (joined front e rest)) distinct)
    ∙ joined front e rest

-- one more that may be named is put in its place
push-some : (charter : Charter) (own : ℕ) (batches : List Held) (held : Held) → may_be_named charter own held ≡ true
    → nameable_among charter own (batches ++ held ∷ []) ≡ placed (nameable_among charter own batches) (as_reference held.batch)
push-some charter own batches held may =
    middle-some charter own batches held [] (to_name-some charter own held may) tt
    ∙ ap (λ l. placed (fold placed [] l) (as_reference held.batch)) (append-nil (named_among charter own batches))

more_by : (charter : Charter) (own : ℕ) (front : List Held) (e : Entry) (listed : List (Digest × ℕ)) (may : Bool) → may_be_named charter own e.1 ≡ may
    → map reference_of listed ≡ nameable_among charter own front → e.0 ≡ digest_in e.1 → None_of (digest_in e.1) front
    → map reference_of (cond may (insert_entry compared listed e.0 e.1.batch.worker) listed) ≡ nameable_among charter own (front ++ e.1 ∷ [])
more_by charter own front e listed false may same mine none = same ∙ sym (push-none charter own front e.1 (to_name-none charter own e.1 may))
more_by charter own front e listed true may same mine none =
    let absent : Absent e.0 (map reference_of listed) =
    subst (Absent e.0) (sym same) (absent-fold e.0 (named_among charter own front) (absent-among charter own e.0 front (subst (λ d. None_of d front) (sym mine) none))) in
    inserted listed e.0 e.1.batch.worker absent ∙ ap (λ l. placed l (reference_of (e.0, e.1.batch.worker))) same
    ∙ ap (λ (d : Digest). placed (nameable_among charter own front) (record { digest = d; worker = e.1.batch.worker })) mine
    ∙ sym (push-some charter own front e.1 may)

-- what may be named is listed with one batch more
pub listed_more : (charter : Charter) (own : ℕ) (batches : List Entry) (i : ℕ) (e : Entry) (listed after : List (Digest × ℕ)) → i < length batches → get_or batches i e ≡ e
    → Keyed batches → Distinct (values_of batches) → map reference_of listed ≡ nameable_among charter own (values_of (take i batches))
    → after ≡ cond (may_be_named charter own e.1) (insert_entry compared listed e.0 e.1.batch.worker) listed
    → map reference_of after ≡ nameable_among charter own (values_of (take (i + 1) batches))
listed_more charter own batches i e listed after within at keyed distinct same is =
    let front = take i batches in
    let rest = drop (suc i) batches in
    let parted : front ++ e ∷ rest ≡ batches = ap (λ x. front ++ x ∷ rest) (sym at) ∙ ap (λ l. front ++ l) (sym (drop-cons batches i e within)) ∙ take-append-drop i batches in
    let mine = (keyed_back front (e ∷ rest) (subst Keyed (sym parted) keyed)).0 in
    let none = none_before front e rest (subst (λ l. Distinct (values_of l)) (sym parted) distinct) in
    ap (λ l. map reference_of l) is
    ∙ more_by charter own (values_of front) e listed (may_be_named charter own e.1) refl same mine none
    ∙ ap (nameable_among charter own) (sym (values-push front e.0 e.1) ∙ ap (λ x. values_of (front ++ x ∷ [])) (sym at) ∙ ap values_of (sym (take_more batches i e within)))
