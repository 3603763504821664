-- The slots of two lists of certificates don't contradict one another exactly where no slot of the first does.
use Rattle.std.proofs.Common.{◌≡◌, ℕ, Bool, true, List, Option, Some, refl, sym, ap, subst, ◌∙◌, inl, inr}
use Rattle.std.specs.Bool.{Decides}
use Rattle.std.specs.Option.{option_map_or}
use Rattle.std.specs.Prelude.{◌==◌}
use Rattle.std.proofs.lemmas.Bool.Decides.{Decides-at, Decides-eqb, Decides-and}
use Rattle.spec_accord.specs.Accord.{HaveOneHeader}
use Rattle.spec_laws.proofs.Closed.{all_to}
use Rattle.spec_laws.proofs.Lists.{given_or_none, found_passes}
use Rattle.spec_laws.proofs.Proposed.{all_from}
use Rattle.spec_model.specs.Admitting.{same_header}
use Rattle.spec_model.specs.Slots.{Slots, is_of_slot, slots_of}
use Rattle.spec_model.specs.Words.{Certificate}
use Rattle.test_parts.specs.Accords.{has_one_header, have_one_header}
use Rattle.test_parts.proofs.Headers.{headers}

-- a slot that passes the test has one header
one_header : (one other : Slots) (round author : ℕ) (c d : Certificate) → has_one_header one other round author ≡ true
    → one round author ≡ Some c → other round author ≡ Some d → c.header ≡ d.header
one_header one other round author c d passes first second =
    let by_second : has_one_header one other round author ≡ same_header c.header d.header =
    ap (λ (o : Option Certificate). option_map_or (λ c. option_map_or (λ d. same_header c.header d.header) (other round author) true) o true) first
    ∙ ap (λ (o : Option Certificate). option_map_or (λ d. same_header c.header d.header) o true) second in
    (headers c.header d.header).0 (sym by_second ∙ passes)

-- and one that has one header passes the test
passes : (one other : Slots) (round author : ℕ)
    → ((c d : Certificate) → one round author ≡ Some c → other round author ≡ Some d → c.header ≡ d.header)
    → has_one_header one other round author ≡ true
passes one other round author same =
    elim (given_or_none (one round author)) [
      | inr none ↦ rw none refl
      | inl first ↦ elim (given_or_none (other round author)) [
        | inr none ↦ rw (first.1, none) refl
        | inl second ↦ rw (first.1, second.1) ((headers first.0.header second.0.header).1 (same first.0 second.0 first.1 second.1))
      ]
    ]

-- a certificate of a slot has its round and its author
of_slot : (round author : ℕ) (c : Certificate) → is_of_slot round author c.header ≡ true
    → (c.header.round ≡ round) × (c.header.author.0 ≡ author)
of_slot round author c is =
    (Decides-and (c.header.round == round) (c.header.author.0 == author) (Decides-eqb c.header.round round) (Decides-eqb c.header.author.0 author)).0 is

pub slots : (one other : List Certificate) → Decides (have_one_header one other) (HaveOneHeader (slots_of one) (slots_of other))
slots one other =
    let test : Certificate → Bool = λ c. has_one_header (slots_of one) (slots_of other) c.header.round c.header.author.0 in (
      (λ all round author c d first second.
          let found = found_passes (λ (c : Certificate). is_of_slot round author c.header) one c first in
          let slot = of_slot round author c found.0 in
          let at : has_one_header (slots_of one) (slots_of other) c.header.round c.header.author.0 ≡ true = all_to test one c all found.1 in
          one_header (slots_of one) (slots_of other) round author c d
          (subst (λ r. has_one_header (slots_of one) (slots_of other) r author ≡ true) slot.0
          (subst (λ a. has_one_header (slots_of one) (slots_of other) c.header.round a ≡ true) slot.1 at))
          first second),
      λ same. all_from test one (λ c is. passes (slots_of one) (slots_of other) c.header.round c.header.author.0 (same c.header.round c.header.author.0)),
    )

-- so is what is found of lists that are these
pub slots_at : (one other first second : List Certificate) (found : Bool) → first ≡ one → second ≡ other
    → found ≡ have_one_header first second → Decides found (HaveOneHeader (slots_of one) (slots_of other))
slots_at one other first second found is also at =
    Decides-at found (have_one_header one other)
    (at ∙ ap (λ (l : List Certificate). have_one_header l second) is ∙ ap (λ (l : List Certificate). have_one_header one l) also)
    (slots one other)
