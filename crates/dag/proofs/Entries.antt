-- What is known of what is kept.
use Rattle.std.proofs.Common.{◌≡◌, ℕ, ◌+◌, ◌-◌, ◌<◌, ◌≤◌, Bool, true, false, List, [], ◌∷◌, length, Option, Some, None, inl, inr, refl, ap, sym, ◌∙◌, subst, arith, slice_get}
use Rattle.std.proofs.Math.Path.{fun_ext}
use Rattle.std.specs.Prelude.{nat_le, nat_lt, option_map, option_and_then, All, ◌==◌, ◌&&◌, ◌||◌}
use Rattle.std.specs.List.{AllByRecursion, list_any, list_all}
use Rattle.std.specs.Option.{option_map_or}
use Rattle.std.proofs.lemmas.Bool.{cases_Bool, and_parts, and_from, eqb-true, eq-eqb}
use Rattle.std.proofs.lemmas.Option.{same_Some, none-some, slice_get_within, get_or_from_slice_get}
use Rattle.committee.specs.Charter.{Charter}
use Rattle.spec_model.specs.Holdings.{is_held}
use Rattle.spec_model.specs.Slots.{Slots, same_digest, certificate_digest, is_of_slot, is_named, is_parent}
use Rattle.spec_model.specs.Words.{Certificate, Digest, ParentReference}
use Rattle.spec_laws.proofs.Closed.{or_right}
use Rattle.spec_laws.proofs.Growing.{AreInPlace}
use Rattle.spec_laws.proofs.Lists.{given_or_none}
use Rattle.spec_laws.proofs.Meeting.{any_to}
use Rattle.spec_laws.proofs.Votes.{slot_is}
use Rattle.dag.specs.Graph.{row_at, slots_in}
use Rattle.dag.specs.Kept.{Rows, entry_at, graph_of, has_below, IsKept}
use Rattle.dag.specs.Rows.{names}
use Rattle.dag.specs.declared.entry.Entry.{Entry}
use Rattle.dag.proofs.Slots.{slot_kept}
use Rattle.dag.proofs.Tests.{same_test, any_from, same_digest_sym}

-- ---- rows

-- a row that has something
pub record IsInRow {X : Type 0} (rows : List (List (Option X))) (author : ℕ) : Type 0 where
  pub row : List (Option X)
  pub place : ℕ
  pub there : slice_get rows place ≡ Some row
  pub within : author < length row

in_row : {X : Type 0} (rows : List (List (Option X))) (place author : ℕ) (x : X)
    → option_and_then (λ row. option_and_then (λ held. held) (slice_get row author)) (slice_get rows place) ≡ Some x → IsInRow rows author
in_row rows place author x is =
    elim (given_or_none (slice_get rows place)) [
      | inr none ↦ let bad = rw none at is in absurd cc
      | inl row ↦
          let is' = rw row.1 at is in
          elim (given_or_none (slice_get row.0 author)) [
            | inr none ↦ let bad = rw none at is' in absurd cc
            | inl slot ↦ record { row = row.0; place = place; there = row.1; within = slice_get_within row.0 author slot.0 slot.1 }
          ]
    ]

pub row_has : {X : Type 0} (floor : ℕ) (rows : List (List (Option X))) (round author : ℕ) (x : X) → row_at floor rows round author ≡ Some x → IsInRow rows author
row_has floor rows round author x is =
    elim (cases_Bool (nat_le floor round)) [
      | inr below ↦ let bad = rw below at is in absurd cc
      | inl here ↦ let is' = rw here at is in in_row rows (round - floor) author x is'
    ]

-- nothing is after the last row
pub round_below : {X : Type 0} (floor : ℕ) (rows : List (List (Option X))) (round author : ℕ) (x : X) → row_at floor rows round author ≡ Some x → round < floor + length rows
round_below floor rows round author x is =
    elim (cases_Bool (nat_le floor round)) [
      | inr below ↦ let bad = rw below at is in absurd cc
      | inl here ↦
          let is' = rw here at is in
          elim (given_or_none (slice_get rows (round - floor))) [
            | inr none ↦ let bad = rw none at is' in absurd cc
            | inl row ↦ let within = slice_get_within rows (round - floor) row.0 row.1 in omega (arith, within)
          ]
    ]

-- what holds of all of a list holds of what stands in it
pub all_at : {X : Type 0} (P : X → Type 0) (xs : List X) (i : ℕ) (x : X) → All P xs → slice_get xs i ≡ Some x → P x
all_at P xs i x all there = subst P (get_or_from_slice_get xs i x x there) (all i x (slice_get_within xs i x there))

pub author_within : {X : Type 0} (size floor : ℕ) (rows : List (List (Option X))) (round author : ℕ) (x : X) → All (λ row. length row ≡ size) rows
    → row_at floor rows round author ≡ Some x → author < size
author_within size floor rows round author x all is =
    let has = row_has floor rows round author x is in
    let long : length has.row ≡ size = all_at (λ row. length row ≡ size) rows has.place has.row all has.there in
    omega (arith, long, has.within)

-- ---- what is kept and what contracts see

pub entry_seen : (charter : Charter) (floor base : ℕ) (rows : Rows) (round author : ℕ) (e : Entry) → entry_at floor rows round author ≡ Some e
    → slots_in (graph_of charter floor base rows) round author ≡ Some e.certificate
entry_seen charter floor base rows round author e is = slot_kept charter floor base rows round author ∙ ap (option_map (λ entry. entry.certificate)) is

pub nothing_seen : (charter : Charter) (floor base : ℕ) (rows : Rows) (round author : ℕ) → entry_at floor rows round author ≡ None → slots_in (graph_of charter floor base rows) round author ≡ None
nothing_seen charter floor base rows round author none = slot_kept charter floor base rows round author ∙ ap (option_map (λ entry. entry.certificate)) none

-- what is kept of a certificate that contracts see
pub record IsOfEntry (floor : ℕ) (rows : Rows) (round author : ℕ) (c : Certificate) : Type 0 where
  pub entry : Entry
  pub there : entry_at floor rows round author ≡ Some entry
  pub of : entry.certificate ≡ c

pub seen_entry : (charter : Charter) (floor base : ℕ) (rows : Rows) (round author : ℕ) (c : Certificate)
    → slots_in (graph_of charter floor base rows) round author ≡ Some c → IsOfEntry floor rows round author c
seen_entry charter floor base rows round author c is =
    elim (given_or_none (entry_at floor rows round author)) [
      | inl e ↦ record { entry = e.0; there = e.1; of = same_Some e.0.certificate c (sym (entry_seen charter floor base rows round author e.0 e.1) ∙ is) }
      | inr none ↦ absurd (none-some c (sym (nothing_seen charter floor base rows round author none) ∙ is))
    ]

pub unseen_entry : (charter : Charter) (floor base : ℕ) (rows : Rows) (round author : ℕ) → slots_in (graph_of charter floor base rows) round author ≡ None → entry_at floor rows round author ≡ None
unseen_entry charter floor base rows round author none =
    elim (given_or_none (entry_at floor rows round author)) [
      | inl e ↦ absurd (none-some e.0.certificate (sym none ∙ entry_seen charter floor base rows round author e.0 e.1))
      | inr is ↦ is
    ]

pub in_place : (charter : Charter) (floor base : ℕ) (rows : Rows) → IsKept charter floor base rows → AreInPlace (slots_in (graph_of charter floor base rows))
in_place charter floor base rows kept round author c is =
    let of = seen_entry charter floor base rows round author c is in
    ap (λ (d : Certificate). is_of_slot round author d.header) (sym of.of) ∙ (kept.entries round author of.entry of.there).place

pub of_members : (charter : Charter) (floor base : ℕ) (rows : Rows) → IsKept charter floor base rows → (round author : ℕ) (c : Certificate)
    → slots_in (graph_of charter floor base rows) round author ≡ Some c → author < length charter.keys
of_members charter floor base rows kept round author c is =
    let of = seen_entry charter floor base rows round author c is in
    author_within (length charter.keys) floor rows round author of.entry kept.full of.there

-- ---- parents

-- all parents of a round at or below a floor above 0 are held
pub all_low : (slots : Slots) (floor round : ℕ) (parents : List ParentReference) → (nat_lt 0 floor && nat_le (round - 1) floor) ≡ true → list_all (is_held slots floor round) parents ≡ true
all_low slots floor round [] low = refl
all_low slots floor round (p ∷ parents) low =
    and_from _ _ (or_right (option_map_or (λ c. same_digest (certificate_digest c.header) p.certificate) (slots (round - 1) p.author.0) false)
    (nat_lt 0 floor && nat_le (round - 1) floor) low) (all_low slots floor round parents low)

-- a parent is named where contracts see that it is held
or_false : (b : Bool) → (b || false) ≡ b
or_false true = refl
or_false false = refl

named_held : (charter : Charter) (floor base : ℕ) (rows : Rows) → IsKept charter floor base rows → (round : ℕ) → (nat_lt 0 floor && nat_le (round - 1) floor) ≡ false
    → (p : ParentReference) → names (entry_at floor rows (round - 1) p.author.0) p ≡ is_held (slots_in (graph_of charter floor base rows)) floor round p
named_held charter floor base rows kept round high p =
    elim (given_or_none (entry_at floor rows (round - 1) p.author.0)) [
      | inl e ↦
          let seen = entry_seen charter floor base rows (round - 1) p.author.0 e.0 e.1 in
          let digest = (kept.entries (round - 1) p.author.0 e.0 e.1).digest in
          rw (e.1, seen, high) (ap (λ (d : Digest). same_digest d p.certificate) digest ∙ sym (or_false (same_digest (certificate_digest e.0.certificate.header) p.certificate)))
      | inr none ↦
          let seen = nothing_seen charter floor base rows (round - 1) p.author.0 none in
          rw (none, seen, high) refl
    ]

pub all_named : (charter : Charter) (floor base : ℕ) (rows : Rows) → IsKept charter floor base rows → (round : ℕ) → (nat_lt 0 floor && nat_le (round - 1) floor) ≡ false
    → (parents : List ParentReference) → list_all (λ p. names (entry_at floor rows (round - 1) p.author.0) p) parents
    ≡ list_all (is_held (slots_in (graph_of charter floor base rows)) floor round) parents
all_named charter floor base rows kept round high parents =
    ap (λ (test : ParentReference → Bool). list_all test parents) (fun_ext (named_held charter floor base rows kept round high))

-- where all parents pass a test, it may be asked of each besides another one
pub any_besides : (test other : ParentReference → Bool) (parents : List ParentReference) → list_all test parents ≡ true
    → list_any other parents ≡ list_any (λ p. test p && other p) parents
any_besides test other [] all = refl
any_besides test other (p ∷ parents) all =
    let parts = and_parts (test p) (list_all test parents) all in
    ap (λ rest. other p || rest) (any_besides test other parents parts.1) ∙ ap (λ b. (b && other p) || list_any (λ q. test q && other q) parents) (sym parts.0)

-- the author of a parent that is there is a member
named_within : (size floor : ℕ) (rows : Rows) (below : ℕ) → All (λ row. length row ≡ size) rows → (p : ParentReference)
    → names (entry_at floor rows below p.author.0) p ≡ true → p.author.0 < size
named_within size floor rows below full p named =
    elim (given_or_none (entry_at floor rows below p.author.0)) [
      | inl e ↦ author_within size floor rows below p.author.0 e.0 full e.1
      | inr none ↦ let bad = rw none at named in absurd cc
    ]

pub all_within : (size most floor : ℕ) (rows : Rows) (below : ℕ) → size ≤ most → All (λ row. length row ≡ size) rows → (parents : List ParentReference)
    → list_all (λ p. names (entry_at floor rows below p.author.0) p) parents ≡ true → AllByRecursion (λ p. p.author.0 < most) parents
all_within size most floor rows below few full [] all = tt
all_within size most floor rows below few full (p ∷ parents) all =
    let parts = and_parts (names (entry_at floor rows below p.author.0) p) (list_all (λ q. names (entry_at floor rows below q.author.0) q) parents) all in
    let within = named_within size floor rows below full p parts.0 in
    (omega (arith, within, few), all_within size most floor rows below few full parents parts.1)

-- those of a certificate's parents that are kept are held
pub parent_bit : (charter : Charter) (floor base : ℕ) (rows : Rows) → IsKept charter floor base rows → (x : Certificate) → 0 < x.header.round → (author : ℕ)
    → list_any (λ p. names (entry_at floor rows (x.header.round - 1) p.author.0) p && (author == p.author.0)) x.header.parents
    ≡ has_below (slots_in (graph_of charter floor base rows)) x author
parent_bit charter floor base rows kept x above author =
    let below = x.header.round - 1 in
    let slots = slots_in (graph_of charter floor base rows) in
    same_test _ _
    (λ passes.
    let found = any_to (λ p. names (entry_at floor rows below p.author.0) p && (author == p.author.0)) x.header.parents passes in
    let p = found.0 in
    let parts = and_parts (names (entry_at floor rows below p.author.0) p) (author == p.author.0) found.2 in
    let same : author ≡ p.author.0 = eqb-true author p.author.0 parts.1 in
    elim (given_or_none (entry_at floor rows below author)) [
      | inl e ↦
          let there : entry_at floor rows below p.author.0 ≡ Some e.0 = ap (entry_at floor rows below) (sym same) ∙ e.1 in
          let seen = entry_seen charter floor base rows below author e.0 e.1 in
          let facts = kept.entries below author e.0 e.1 in
          let place = slot_is below author e.0.certificate.header facts.place in
          let digest : same_digest e.0.digest p.certificate ≡ true = (let named = rw there at parts.0 in named) in
          let digest' : same_digest p.certificate (certificate_digest e.0.certificate.header) ≡ true =
          same_digest_sym (certificate_digest e.0.certificate.header) p.certificate (ap (λ (d : Digest). same_digest d p.certificate) (sym facts.digest) ∙ digest) in
          let named : is_named e.0.certificate p ≡ true = and_from _ _ (eq-eqb p.author.0 e.0.certificate.header.author.0 (sym same ∙ sym place.1)) digest' in
          let parent : is_parent e.0.certificate x ≡ true =
          and_from _ _ (eq-eqb (e.0.certificate.header.round + 1) x.header.round (omega (arith, above, place.0))) (any_from (is_named e.0.certificate) x.header.parents p found.1 named) in
          rw seen parent
      | inr none ↦
          let none' : entry_at floor rows below p.author.0 ≡ None = ap (entry_at floor rows below) (sym same) ∙ none in
          let bad = rw none' at parts.0 in
          absurd cc
    ])
    (λ passes.
    elim (given_or_none (entry_at floor rows below author)) [
      | inl e ↦
          let seen = entry_seen charter floor base rows below author e.0 e.1 in
          let facts = kept.entries below author e.0 e.1 in
          let place = slot_is below author e.0.certificate.header facts.place in
          let parent : is_parent e.0.certificate x ≡ true = (let is = rw seen at passes in is) in
          let parts = and_parts (e.0.certificate.header.round + 1 == x.header.round) (list_any (is_named e.0.certificate) x.header.parents) parent in
          let found = any_to (is_named e.0.certificate) x.header.parents parts.1 in
          let p = found.0 in
          let named = and_parts (p.author.0 == e.0.certificate.header.author.0) (same_digest p.certificate (certificate_digest e.0.certificate.header)) found.2 in
          let same : author ≡ p.author.0 = sym (eqb-true _ _ named.0 ∙ place.1) in
          let there : entry_at floor rows below p.author.0 ≡ Some e.0 = ap (entry_at floor rows below) (sym same) ∙ e.1 in
          let digest : same_digest e.0.digest p.certificate ≡ true =
          ap (λ (d : Digest). same_digest d p.certificate) facts.digest ∙ same_digest_sym p.certificate (certificate_digest e.0.certificate.header) named.1 in
          let is : names (entry_at floor rows below p.author.0) p ≡ true = rw there digest in
          any_from (λ p. names (entry_at floor rows below p.author.0) p && (author == p.author.0)) x.header.parents p found.1 (and_from _ _ is (eq-eqb author p.author.0 same))
      | inr none ↦
          let seen = nothing_seen charter floor base rows below author none in
          let bad = rw seen at passes in
          absurd cc
    ])
