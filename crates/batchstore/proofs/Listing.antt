-- The batches that may be named, when one of those that are held changes.
use Rattle.std.proofs.Common.{◌≡◌, ℕ, Bool, true, false, cond, List, [], ◌∷◌, ◌++◌, Some, None, refl, sym, ap, subst, ◌∙◌}
use Rattle.std.specs.Prelude.{fold}
use Rattle.std.specs.List.{filter_map, cons_option}
use Rattle.std.proofs.lemmas.List.{append-nil}
use Rattle.std.proofs.lemmas.List.Elements.{filter_map-append}
use Rattle.wire.specs.References.{placed}
use Rattle.wire.specs.declared.keys.Digest.{Digest}
use Rattle.wire.specs.declared.references.BatchReference.{BatchReference}
use Rattle.committee.specs.Charter.{Charter}
use Rattle.batchstore.specs.Stock.{as_reference, may_be_named, nameable_among, to_name}
use Rattle.batchstore.specs.declared.held.Held.{Held}
use Rattle.batchstore.proofs.Among.{digest_in, is_of, None_of}
use Rattle.batchstore.proofs.Placed.{Absent, absent-append, absent-fold, one_among, without, without-absent, without-placed}

-- those that may be named, in the order of acceptance
abbrev pub named_among : Charter → ℕ → List Held → List BatchReference
named_among charter own batches = filter_map (to_name charter own) batches

-- what may not be named is no reference
pub to_name-none : (charter : Charter) (own : ℕ) (held : Held) → may_be_named charter own held ≡ false → to_name charter own held ≡ None
to_name-none charter own held is = ap (λ b. cond b (Some (as_reference held.batch)) None) is

pub to_name-some : (charter : Charter) (own : ℕ) (held : Held) → may_be_named charter own held ≡ true → to_name charter own held ≡ Some (as_reference held.batch)
to_name-some charter own held is = ap (λ b. cond b (Some (as_reference held.batch)) None) is

absent_more : (digest : Digest) (h : Held) (rest : List BatchReference) (b : Bool) → is_of digest h ≡ false → Absent digest rest
    → Absent digest (cons_option (cond b (Some (as_reference h.batch)) None) rest)
absent_more digest h rest true here later = (here, later)
absent_more digest h rest false here later = later

-- of batches of other digests none has this one
pub absent-among : (charter : Charter) (own : ℕ) (digest : Digest) (batches : List Held) → None_of digest batches → Absent digest (named_among charter own batches)
absent-among charter own digest [] none = tt
absent-among charter own digest (h ∷ rest) none = absent_more digest h (named_among charter own rest) (may_be_named charter own h) none.0 (absent-among charter own digest rest none.1)

-- none of those before and after
around : (charter : Charter) (own : ℕ) (digest : Digest) (front back : List Held) → None_of digest front → None_of digest back
    → Absent digest (fold placed [] (named_among charter own front ++ named_among charter own back))
around charter own digest front back before after =
    absent-fold digest (named_among charter own front ++ named_among charter own back)
    (absent-append digest (named_among charter own front) (named_among charter own back) (absent-among charter own digest front before) (absent-among charter own digest back after))

-- with one that may not be named in the middle, the list is that of the others
middle-none : (charter : Charter) (own : ℕ) (front : List Held) (held : Held) (back : List Held) → to_name charter own held ≡ None
    → nameable_among charter own (front ++ held ∷ back) ≡ fold placed [] (named_among charter own front ++ named_among charter own back)
middle-none charter own front held back none =
    ap (fold placed []) (filter_map-append (to_name charter own) front (held ∷ back) ∙ ap (λ o. named_among charter own front ++ cons_option o (named_among charter own back)) none)

-- with one that may be named it is in its place among them
pub middle-some : (charter : Charter) (own : ℕ) (front : List Held) (held : Held) (back : List Held) → to_name charter own held ≡ Some (as_reference held.batch)
    → None_of (digest_in held) back
    → nameable_among charter own (front ++ held ∷ back) ≡ placed (fold placed [] (named_among charter own front ++ named_among charter own back)) (as_reference held.batch)
middle-some charter own front held back some after =
    ap (fold placed []) (filter_map-append (to_name charter own) front (held ∷ back) ∙ ap (λ o. named_among charter own front ++ cons_option o (named_among charter own back)) some)
    ∙ one_among (named_among charter own front) (named_among charter own back) (as_reference held.batch) (absent-among charter own (digest_in held) back after)

-- what may not be named isn't listed
pub unlisted : (charter : Charter) (own : ℕ) (front : List Held) (held : Held) (back : List Held) → to_name charter own held ≡ None → None_of (digest_in held) front → None_of (digest_in held) back
    → Absent (digest_in held) (nameable_among charter own (front ++ held ∷ back))
unlisted charter own front held back none before after =
    subst (Absent (digest_in held)) (sym (middle-none charter own front held back none)) (around charter own (digest_in held) front back before after)

-- what begins to be nameable is put in its place
pub gains : (charter : Charter) (own : ℕ) (front : List Held) (old new : Held) (back : List Held) → to_name charter own old ≡ None → to_name charter own new ≡ Some (as_reference new.batch)
    → None_of (digest_in new) back → nameable_among charter own (front ++ new ∷ back) ≡ placed (nameable_among charter own (front ++ old ∷ back)) (as_reference new.batch)
gains charter own front old new back none some after =
    middle-some charter own front new back some after ∙ ap (λ l. placed l (as_reference new.batch)) (sym (middle-none charter own front old back none))

-- what stays as it is to be named leaves the list
pub stays : (charter : Charter) (own : ℕ) (front : List Held) (old new : Held) (back : List Held) → to_name charter own new ≡ to_name charter own old
    → nameable_among charter own (front ++ new ∷ back) ≡ nameable_among charter own (front ++ old ∷ back)
stays charter own front old new back same =
    ap (fold placed []) (
    filter_map-append (to_name charter own) front (new ∷ back) ∙ ap (λ o. named_among charter own front ++ cons_option o (named_among charter own back)) same
    ∙ sym (filter_map-append (to_name charter own) front (old ∷ back)))

loses_by : (charter : Charter) (own : ℕ) (front : List Held) (old new : Held) (back : List Held) (may : Bool) → may_be_named charter own old ≡ may → to_name charter own new ≡ None
    → None_of (digest_in old) front → None_of (digest_in old) back → without (digest_in old) (nameable_among charter own (front ++ old ∷ back)) ≡ nameable_among charter own (front ++ new ∷ back)
loses_by charter own front old new back true may none before after =
    ap (without (digest_in old)) (middle-some charter own front old back (to_name-some charter own old may) after)
    ∙ without-placed (fold placed [] (named_among charter own front ++ named_among charter own back)) (as_reference old.batch) (around charter own (digest_in old) front back before after)
    ∙ sym (middle-none charter own front new back none)
loses_by charter own front old new back false may none before after =
    ap (without (digest_in old)) (middle-none charter own front old back (to_name-none charter own old may))
    ∙ without-absent (digest_in old) (fold placed [] (named_among charter own front ++ named_among charter own back)) (around charter own (digest_in old) front back before after)
    ∙ sym (middle-none charter own front new back none)

-- what may not be named any more is taken out
pub loses : (charter : Charter) (own : ℕ) (front : List Held) (old new : Held) (back : List Held) → to_name charter own new ≡ None
    → None_of (digest_in old) front → None_of (digest_in old) back → without (digest_in old) (nameable_among charter own (front ++ old ∷ back)) ≡ nameable_among charter own (front ++ new ∷ back)
loses charter own front old new back none before after = loses_by charter own front old new back (may_be_named charter own old) refl none before after

-- one more after the others that may not be named
pub push-none : (charter : Charter) (own : ℕ) (batches : List Held) (held : Held) → to_name charter own held ≡ None
    → nameable_among charter own (batches ++ held ∷ []) ≡ nameable_among charter own batches
push-none charter own batches held none =
    middle-none charter own batches held [] none ∙ ap (fold placed []) (append-nil (named_among charter own batches))
