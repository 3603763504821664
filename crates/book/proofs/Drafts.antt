-- The bytes of a group that is being filled.
use Rattle.std.proofs.Common.{◌≡◌, ℕ, ◌+◌, ◌≤◌, ◌<◌, List, [], ◌∷◌, ◌++◌, length, take, drop, refl, sym, ap, ◌∙◌, arith, append_assoc, append-nil, length-append}
use Rattle.std.specs.Prelude.{get_or, set, ◌-◌}
use Rattle.std.specs.Int.{w32, to_be_bytes}
use Rattle.std.proofs.Math.Seq.{get_or-append_seam, set-append_seam}
use Rattle.std.proofs.lemmas.Grind.{flat_map-append}
use Rattle.std.proofs.lemmas.List.{drop_at, take_at}
use Rattle.std.proofs.lemmas.List.Sums.{sum_by-append, sum_by-cons}
use Rattle.journal.specs.Format.{FitsGroup, record_bytes, body_len, body_bytes, group_bytes}
use Rattle.book.specs.Pending.{IsDraft}
use Rattle.book.specs.OneDraft.{records_of_draft}

-- how long a record is with its length, and a body
length_record : (bytes : List ℕ) → length (record_bytes bytes) ≡ 4 + length bytes
length_record bytes = omega arith

pub length_body : (records : List (List ℕ)) → length (body_bytes records) ≡ body_len records
length_body [] = refl
length_body (bytes ∷ records) =
    omega (
      arith,
      length-append (record_bytes bytes) (body_bytes records),
      length_body records,
      length_record bytes,
      sum_by-cons
          (λ (b : List ℕ). 4 + length b) bytes records,
    )

-- how long the bytes are
pub length_draft : (bytes : List ℕ) (count : ℕ) (draft : IsDraft bytes count) → length bytes ≡ 4 + body_len draft.records
length_draft bytes count draft = omega (arith, ap length draft.written, length-append draft.front (body_bytes draft.records), draft.room, length_body draft.records)

-- one record more
pub put_fits : (records : List (List ℕ)) (bytes : List ℕ) → length records < 1024 → body_len records + (4 + length bytes) ≤ 4194304 → FitsGroup (records ++ bytes ∷ [])
put_fits records bytes many long = record {
  some = omega (arith, length-append records (bytes ∷ []));
  not_many = omega (arith, length-append records (bytes ∷ []), many);
  not_long = omega (arith, sum_by-append (λ (b : List ℕ). 4 + length b) records (bytes ∷ []), long);
}

pub fits_put : (records : List (List ℕ)) (bytes : List ℕ) → FitsGroup (records ++ bytes ∷ []) → (length records < 1024) × (body_len records + (4 + length bytes) ≤ 4194304)
fits_put records bytes fits = (omega (arith, fits.not_many, length-append records (bytes ∷ [])), omega (arith, fits.not_long, sum_by-append (λ (b : List ℕ). 4 + length b) records (bytes ∷ [])))

-- the bytes with it
written_put : (old new : List ℕ) (count : ℕ) (draft : IsDraft old count) (bytes : List ℕ) → new ≡ old ++ record_bytes bytes → new ≡ draft.front ++ body_bytes (draft.records ++ bytes ∷ [])
written_put old new count draft bytes same =
    same ∙ ap (λ l. l ++ record_bytes bytes) draft.written ∙ append_assoc draft.front (body_bytes draft.records) (record_bytes bytes)
    ∙ ap (λ l. draft.front ++ l) (ap (λ l. body_bytes draft.records ++ l) (sym (append-nil (record_bytes bytes))) ∙ sym (flat_map-append record_bytes draft.records (bytes ∷ [])))

-- their records
pub records_put : (old new : List ℕ) (count : ℕ) (draft : IsDraft old count) (later : IsDraft new (count + 1)) (bytes : List ℕ)
    → FitsGroup (draft.records ++ bytes ∷ []) → new ≡ old ++ record_bytes bytes
    → later.records ≡ draft.records ++ bytes ∷ []
records_put old new count draft later bytes fits same =
    records_of_draft new (count + 1) later (draft.records ++ bytes ∷ []) draft.front fits.not_long draft.room (written_put old new count draft bytes same)

-- a list with one more at its end says both
pub push_same : {X : Type 0} (one other : List X) (last also : X) → one ++ last ∷ [] ≡ other ++ also ∷ [] → (one ≡ other) × (last ≡ also)
push_same one other last also same =
    let long : length other ≡ length one = omega (arith, ap length same, length-append one (last ∷ []), length-append other (also ∷ [])) in
    let ends : last ∷ [] ≡ also ∷ [] = sym (drop_at one (last ∷ []) (length one) refl) ∙ ap (drop (length one)) same ∙ drop_at other (also ∷ []) (length one) long in
    (sym (take_at one (last ∷ []) (length one) refl) ∙ ap (take (length one)) same ∙ take_at other (also ∷ []) (length one) long, ap (λ l. get_or l 0 last) ends)

-- its last element, and another one in its place
last_place : {X : Type 0} (items front : List X) (last : X) (len : ℕ) → items ≡ front ++ last ∷ [] → len ≡ length items → len - 1 ≡ length front
last_place items front last len parts long = omega (arith, long, ap length parts, length-append front (last ∷ []))

pub get_last : {X : Type 0} (items front : List X) (last one : X) (len : ℕ) → items ≡ front ++ last ∷ [] → len ≡ length items → get_or items (len - 1) one ≡ last
get_last items front last one len parts long =
    ap (λ i. get_or items i one) (last_place items front last len parts long) ∙ ap (λ l. get_or l (length front) one) parts ∙ get_or-append_seam front last [] one

pub set_last : {X : Type 0} (items front : List X) (last one : X) (len : ℕ) → items ≡ front ++ last ∷ [] → len ≡ length items → set items (len - 1) one ≡ front ++ one ∷ []
set_last items front last one len parts long =
    ap (λ i. set items i one) (last_place items front last len parts long) ∙ ap (λ l. set l (length front) one) parts ∙ set-append_seam front last [] one

-- without the last record
pub written_back : (old new : List ℕ) (count : ℕ) (draft : IsDraft old count) (others : List (List ℕ)) (last : List ℕ) → draft.records ≡ others ++ last ∷ []
    → new ≡ take (length old - (4 + length last)) old → new ≡ draft.front ++ body_bytes others
written_back old new count draft others last parts same =
    let bytes : body_bytes draft.records ≡ body_bytes others ++ record_bytes last =
    ap body_bytes parts ∙ flat_map-append record_bytes others (last ∷ []) ∙ ap (λ l. body_bytes others ++ l) (append-nil (record_bytes last)) in
    let whole : old ≡ (draft.front ++ body_bytes others) ++ record_bytes last = draft.written ∙ ap (λ l. draft.front ++ l) bytes
    ∙ sym (append_assoc draft.front (body_bytes others) (record_bytes last)) in
    let tail = length_record last in
    let long : length old - (4 + length last) ≡ length (draft.front ++ body_bytes others) =
    omega (arith, ap length whole, length-append (draft.front ++ body_bytes others) (record_bytes last), tail) in
    same ∙ ap (take (length old - (4 + length last))) whole ∙ take_at (draft.front ++ body_bytes others) (record_bytes last) (length old - (4 + length last)) (sym long)

-- the bytes of a group: the length of the body stands in the room before it, and a closed gate after it
pub closes : (bytes closed : List ℕ) (count len : ℕ) (draft : IsDraft bytes count) → len ≡ body_len draft.records → closed
    ≡ (to_be_bytes w32 len ++ drop 4 bytes) ++ 0 ∷ [] → closed ≡ group_bytes draft.records
closes bytes closed count len draft is same =
    let body : drop 4 bytes ≡ body_bytes draft.records = ap (drop 4) draft.written ∙ drop_at draft.front (body_bytes draft.records) 4 draft.room in
    same ∙ ap (λ n. (to_be_bytes w32 n ++ drop 4 bytes) ++ 0 ∷ []) is ∙ ap (λ l. (to_be_bytes w32 (body_len draft.records) ++ l) ++ 0 ∷ []) body

-- fewer records are no longer
pub fewer_fit : (records others : List (List ℕ)) (last : List ℕ) → records ≡ others ++ last ∷ [] → body_len records ≤ 4194304 → body_len others ≤ 4194304
fewer_fit records others last parts short = omega (arith, ap body_len parts, sum_by-append (λ (b : List ℕ). 4 + length b) others (last ∷ []), short)
