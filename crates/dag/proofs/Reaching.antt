-- Who reaches whom, where a certificate more is held whose parents are held and which nothing names as a parent yet.
use Rattle.std.proofs.Common.{◌≡◌, ℕ, ◌-◌, ◌<◌, true, false, [], ◌∷◌, Some, None, inl, inr, refl, ap, sym, ◌∙◌, arith}
use Rattle.std.specs.Prelude.{◌&&◌, ◌==◌}
use Rattle.std.specs.Option.{option_map_or, option_or}
use Rattle.std.proofs.lemmas.Bool.{cases_Bool, true≢false}
use Rattle.std.proofs.lemmas.Option.{same_Some}
use Rattle.spec_model.specs.Holdings.{is_held, all_held}
use Rattle.spec_model.specs.Slots.{Slots, is_of_slot, slots_of, is_parent, reaches}
use Rattle.spec_model.specs.Words.{Certificate, HeaderBody}
use Rattle.spec_laws.proofs.Closed.{held_stays, all_stay}
use Rattle.spec_laws.proofs.Growing.{AreInPlace, Extends, IsIn, reaches_same, reaches_new}
use Rattle.spec_laws.proofs.Lists.{given_or_none}
use Rattle.spec_laws.proofs.Votes.{of_its_slot}
use Rattle.dag.specs.Kept.{has_below}
use Rattle.dag.proofs.Paths.{parent_below}

-- slots with one certificate more
pub record IsMore (n floor : ℕ) (before after : Slots) (c : Certificate) : Type 0 where
  pub placed : AreInPlace before
  pub members : (round author : ℕ) (d : Certificate) → before round author ≡ Some d → author < n
  pub closed : (round author : ℕ) (d : Certificate) → before round author ≡ Some d → all_held before floor d.header ≡ true
  pub grown : (round author : ℕ) → after round author ≡ option_or (before round author) (slots_of (c ∷ []) round author)
  pub free : before c.header.round c.header.author.0 ≡ None
  pub member : c.header.author.0 < n
  pub unnamed : (round author : ℕ) (d : Certificate) → before round author ≡ Some d → is_parent c d ≡ false
  pub held : all_held before floor c.header ≡ true

-- what was held is held
pub stays : (n floor : ℕ) (before after : Slots) (c : Certificate) → IsMore n floor before after c → (round author : ℕ) (d : Certificate) → before round author ≡ Some d → after round author ≡ Some d
stays n floor before after c more round author d held = more.grown round author ∙ ap (λ o. option_or o (slots_of (c ∷ []) round author)) held

-- what is held of another slot was held
pub same_elsewhere : (n floor : ℕ) (before after : Slots) (c : Certificate) → IsMore n floor before after c → (round author : ℕ)
    → is_of_slot round author c.header ≡ false → after round author ≡ before round author
same_elsewhere n floor before after c more round author other =
    elim (given_or_none (before round author)) [
      | inl old ↦ stays n floor before after c more round author old.0 old.1 ∙ sym old.1
      | inr none ↦ more.grown round author ∙ ap (λ o. option_or o (slots_of (c ∷ []) round author)) none ∙ rw other (sym none)
    ]

-- what is new is the certificate, in its slot
pub is_new : (n floor : ℕ) (before after : Slots) (c : Certificate) → IsMore n floor before after c → (round author : ℕ) (d : Certificate) → before round author ≡ None → after round author ≡ Some d
    → (is_of_slot round author c.header ≡ true) × (c ≡ d)
is_new n floor before after c more round author d none new =
    let found : slots_of (c ∷ []) round author ≡ Some d = sym (more.grown round author ∙ ap (λ o. option_or o (slots_of (c ∷ []) round author)) none) ∙ new in
    elim (cases_Bool (is_of_slot round author c.header)) [
      | inl here ↦ let is = rw here at found in (here, same_Some c d is)
      | inr other ↦ let nothing = rw other at found in absurd cc
    ]

pub placed_after : (n floor : ℕ) (before after : Slots) (c : Certificate) → IsMore n floor before after c → AreInPlace after
placed_after n floor before after c more round author d held =
    elim (given_or_none (before round author)) [
      | inl old ↦
          let same : old.0 ≡ d = same_Some old.0 d (sym (stays n floor before after c more round author old.0 old.1) ∙ held) in
          ap (λ (e : Certificate). is_of_slot round author e.header) (sym same) ∙ more.placed round author old.0 old.1
      | inr none ↦ let new = is_new n floor before after c more round author d none held in ap (λ (e : Certificate). is_of_slot round author e.header) (sym new.1) ∙ new.0
    ]

-- the certificate is held
pub is_there : (n floor : ℕ) (before after : Slots) (c : Certificate) → IsMore n floor before after c → IsIn after c
is_there n floor before after c more =
    let here = of_its_slot c.header in
    more.grown c.header.round c.header.author.0 ∙ ap (λ o. option_or o (slots_of (c ∷ []) c.header.round c.header.author.0)) more.free ∙ rw here refl

extends : (n floor : ℕ) (before after : Slots) (c : Certificate) → IsMore n floor before after c → Extends before after
extends n floor before after c more = record {
  placed_before = more.placed;
  placed_after = placed_after n floor before after c more;
  kept = stays n floor before after c more;
  childless = λ round author d none new above other child held.
      elim (cases_Bool (is_parent d child)) [
        | inr not ↦ not
        | inl names ↦
            let same = (is_new n floor before after c more round author d none new).1 in
            let names' : is_parent c child ≡ true = ap (λ e. is_parent e child) same ∙ names in
            elim (given_or_none (before above other)) [
              | inl old ↦
                  let is : old.0 ≡ child = same_Some old.0 child (sym (stays n floor before after c more above other old.0 old.1) ∙ held) in
                  absurd (true≢false (sym (ap (is_parent c) is ∙ names') ∙ more.unnamed above other old.0 old.1))
              | inr fresh ↦
                  let is = (is_new n floor before after c more above other child fresh held).1 in
                  let below = parent_below c c (ap (is_parent c) is ∙ names') in
                  absurd (omega (arith, below))
            ]
      ];
}

-- parents that are held stay so
pub held_after : (n floor : ℕ) (before after : Slots) (c : Certificate) → IsMore n floor before after c → (header : HeaderBody)
    → all_held before floor header ≡ true → all_held after floor header ≡ true
held_after n floor before after c more header held =
    all_stay (is_held before floor header.round) (is_held after floor header.round) header.parents
    (λ p. held_stays before after floor floor header.round p (stays n floor before after c more) (omega arith)) held

-- what was held reaches what it reached
pub old_reaches : (n floor : ℕ) (before after : Slots) (c : Certificate) → IsMore n floor before after c → (start : Certificate) → IsIn before start → (round author : ℕ)
    → option_map_or (reaches n after start) (after round author) false ≡ option_map_or (reaches n before start) (before round author) false
old_reaches n floor before after c more start held round author =
    let ext = extends n floor before after c more in
    elim (given_or_none (before round author)) [
      | inl old ↦
          let also = stays n floor before after c more round author old.0 old.1 in
          rw (old.1, also) (reaches_same n before after ext start old.0 held)
      | inr none ↦ elim (given_or_none (after round author)) [
        | inl new ↦ rw (none, new.1) (reaches_new n before after ext start round author new.0 held none new.1)
        | inr nothing ↦ rw (none, nothing) refl
      ]
    ]

-- what was held has the parents that it had
pub old_parents : (n floor : ℕ) (before after : Slots) (c : Certificate) → IsMore n floor before after c → (child : Certificate) → IsIn before child → (author : ℕ)
    → has_below after child author ≡ has_below before child author
old_parents n floor before after c more child held author =
    let ext = extends n floor before after c more in
    let round = child.header.round - 1 in
    elim (given_or_none (before round author)) [
      | inl old ↦
          let also = stays n floor before after c more round author old.0 old.1 in
          rw (old.1, also) refl
      | inr none ↦ elim (given_or_none (after round author)) [
        | inl new ↦
            let there = stays n floor before after c more child.header.round child.header.author.0 child held in
            rw (none, new.1) (ext.childless round author new.0 none new.1 child.header.round child.header.author.0 child there)
        | inr nothing ↦ rw (none, nothing) refl
      ]
    ]

-- the new one has those that were held
pub new_parents : (n floor : ℕ) (before after : Slots) (c : Certificate) → IsMore n floor before after c → 0 < c.header.round → (author : ℕ) → has_below after c author ≡ has_below before c author
new_parents n floor before after c more above author =
    let lower : (c.header.round == c.header.round - 1) ≡ false = grind (arith, above) in
    let other : is_of_slot (c.header.round - 1) author c.header ≡ false = ap (λ b. b && (c.header.author.0 == author)) lower in
    ap (λ o. option_map_or (λ d. is_parent d c) o false) (same_elsewhere n floor before after c more (c.header.round - 1) author other)
