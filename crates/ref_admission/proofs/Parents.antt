-- The order of parents, and the author of what a slot holds.
use Rattle.std.proofs.Common.{◌≡◌, ℕ, ◌+◌, Bool, true, false, List, [], ◌∷◌, ◌++◌, IsTrue, refl, ap, arith, Option, Some, None, map}
use Rattle.std.specs.Prelude.{◌==◌, cond, IfSome, option_map}
use Rattle.std.specs.List.{filter_map, cons_option}
use Rattle.std.proofs.lemmas.Bool.{lt-ltb, ltb-true, eqb-true}
use Rattle.wire.specs.declared.header.Certificate.{Certificate}
use Rattle.wire.specs.declared.references.ParentReference.{ParentReference}
use Rattle.wire.specs.References.{parent_follows}
use Rattle.wire.proofs.RisingLemmas.{both-are}
use Rattle.spec_model.specs.Slots.{slots_of, is_of_slot}

-- what follows the parents so far follows them with more room before it
pub parent_follows_more : (parents : List ParentReference) (author : ℕ) → IsTrue (parent_follows parents (record { 0 = author })) → IsTrue (parent_follows parents (record { 0 = author + 1 }))
parent_follows_more [] author h = h
parent_follows_more (p ∷ []) author h = lt-ltb p.author.0 (author + 1) (omega (arith, ltb-true p.author.0 author h))
parent_follows_more (p ∷ q ∷ rest) author h = parent_follows_more (q ∷ rest) author h

-- the next author follows a parent
pub parent_follows_next : (parents : List ParentReference) (parent : ParentReference) (author : ℕ) → parent.author.0 ≡ author
    → IsTrue (parent_follows (parents ++ parent ∷ []) (record { 0 = author + 1 }))
parent_follows_next [] parent author h = lt-ltb parent.author.0 (author + 1) (omega (arith, h))
parent_follows_next (p ∷ []) parent author h = parent_follows_next [] parent author h
parent_follows_next (p ∷ q ∷ rest) parent author h = parent_follows_next (q ∷ rest) parent author h

-- a certificate of a slot, if this one is, and otherwise what else is found, is by the slot's author
slot_or : (c : Certificate) (round author : ℕ) (b : Bool) (others : Option Certificate) → is_of_slot round author c.header ≡ b
    → IfSome others (λ c. c.header.author.0 ≡ author) → IfSome (cond b (Some c) others) (λ c. c.header.author.0 ≡ author)
slot_or c round author true others is by = eqb-true c.header.author.0 author (both-are (c.header.round == round) (c.header.author.0 == author) is).1
slot_or c round author false others is by = by

-- what a slot holds is by its author
pub slot_author : (certificates : List Certificate) (round author : ℕ) → IfSome (slots_of certificates round author) (λ c. c.header.author.0 ≡ author)
slot_author [] round author = tt
slot_author (c ∷ rest) round author =
    slot_or c round author (is_of_slot round author c.header) (slots_of rest round author) refl (slot_author rest round author)

-- what one element gives is mapped, and so is what the others give
mapped_or : {Y Z : Type 0} (name : Y → Z) (o : Option Y) (ys : List Y) (zs : List Z) → map name ys ≡ zs
    → map name (cons_option o ys) ≡ cons_option (option_map name o) zs
mapped_or name None ys zs h = h
mapped_or name (Some y) ys zs h = ap (λ l. name y ∷ l) h

-- what elements give, mapped, is what they give where each is mapped
pub mapped_filter : {X Y Z : Type 0} (name : Y → Z) (make : X → Option Y) (xs : List X) → map name (filter_map make xs) ≡ filter_map (λ x. option_map name (make x)) xs
mapped_filter name make [] = refl
mapped_filter name make (x ∷ xs) =
    mapped_or name (make x) (filter_map make xs) (filter_map (λ x. option_map name (make x)) xs) (mapped_filter name make xs)
