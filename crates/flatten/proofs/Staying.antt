-- What stays as it was where a certificate enters.
use Rattle.std.proofs.Common.{◌≡◌, ℕ, ◌-◌, ◌<◌, true, false, [], ◌∷◌, length, Option, Some, None, ◌⊎◌, inl, inr, refl, ap, sym, ◌∙◌, arith}
use Rattle.std.specs.Prelude.{IfSome, not, is_some, option_map, ◌==◌, ◌&&◌}
use Rattle.std.specs.Option.{option_map_or, option_or}
use Rattle.std.proofs.lemmas.Option.{none-some}
use Rattle.committee.specs.Charter.{Charter}
use Rattle.spec_model.specs.Ordering.{is_past}
use Rattle.spec_model.specs.Slots.{is_of_slot, slots_of, reaches}
use Rattle.spec_model.specs.Words.{Author, Certificate}
use Rattle.spec_laws.proofs.Growing.{Extends, WasHeld, is_in as is_held, reaches_same}
use Rattle.spec_laws.proofs.Lists.{given_or_none}
use Rattle.spec_laws.proofs.SlotsGrow.{or_none}
use Rattle.dag.specs.Graph.{DagView, Placed, IsGraph, size_in, slots_in, marked_in, placed_at}
use Rattle.tusk.specs.Chain.{ledger_in}
use Rattle.tusk.proofs.Adding.{is_new, extends}
use Rattle.flatten.specs.Laws.{Enters}
use Rattle.flatten.specs.Lengthening.{LengtheningView, FitsTo}
use Rattle.flatten.specs.Segments.{leader_held}
use Rattle.flatten.specs.Sets.{is_in}

-- a slot holds a certificate
abbrev IsHeld : DagView → ℕ × Author → Type 0
IsHeld graph slot = is_some (slots_in graph slot.0 slot.1.0) ≡ true

grows : (before after : DagView) (certificate : Certificate) → Enters before after certificate → Extends (slots_in before) (slots_in after)
grows before after certificate enters = extends before after certificate enters.graph (is_new before certificate enters.new) enters.with

-- a slot that holds something holds the same
kept_slot : (before after : DagView) (certificate : Certificate) → Enters before after certificate → (slot : ℕ × Author) → IsHeld before slot
    → slots_in after slot.0 slot.1.0 ≡ slots_in before slot.0 slot.1.0
kept_slot before after certificate enters slot held =
    elim (given_or_none (slots_in before slot.0 slot.1.0)) [
      | inl c ↦ (grows before after certificate enters).kept slot.0 slot.1.0 c.0 c.1 ∙ sym c.1
      | inr none ↦ let bad = rw none at held in absurd cc
    ]

kept_leader : (before after : DagView) (certificate : Certificate) → Enters before after certificate → (previous : Option (ℕ × Author))
    → IfSome previous (IsHeld before) → leader_held after previous ≡ leader_held before previous
kept_leader before after certificate enters None held = refl
kept_leader before after certificate enters (Some slot) held = kept_slot before after certificate enters slot held

-- the leader before was held, and is in its slot
was_held : (graph : DagView) → IsGraph graph → (previous : Option (ℕ × Author)) → WasHeld (slots_in graph) (leader_held graph previous)
was_held graph is None c same = absurd cc
was_held graph is (Some slot) c same = is_held (slots_in graph) slot.0 slot.1.0 c is.placed same

-- it reaches the same
same_past : (before after : DagView) (certificate : Certificate) → Enters before after certificate → (previous : Option Certificate) → WasHeld (slots_in before) previous → (c : Certificate)
    → is_past (ledger_in after []) previous c ≡ is_past (ledger_in before []) previous c
same_past before after certificate enters None held c = refl
same_past before after certificate enters (Some leader) held c =
    ap (λ (charter : Charter). reaches (length charter.keys) (slots_in after) leader c) enters.with.charter
    ∙ reaches_same (size_in before) (slots_in before) (slots_in after) (grows before after certificate enters) leader c (held leader refl)

-- by its slot
past_stays : (before after : DagView) (certificate : Certificate) → Enters before after certificate → (previous : Option (ℕ × Author)) → IfSome previous (IsHeld before) → (c : Certificate)
    → is_past (ledger_in after []) (leader_held after previous) c ≡ is_past (ledger_in before []) (leader_held before previous) c
past_stays before after certificate enters previous held c =
    ap (λ p. is_past (ledger_in after []) p c) (kept_leader before after certificate enters previous held)
    ∙ same_past before after certificate enters (leader_held before previous) (was_held before enters.graph previous) c

-- what holds nothing isn't marked
pub unheld_unmarked : (graph : DagView) (round author : ℕ) → slots_in graph round author ≡ None → marked_in graph round author ≡ false
unheld_unmarked graph round author none = by (placed_at graph round author) none
  where
    by : (o : Option Placed) → option_map (λ (placed : Placed). placed.certificate) o ≡ None → option_map_or (λ (placed : Placed). placed.marked) o false ≡ false
    by None none = refl
    by (Some placed) none = absurd (none-some placed.certificate (sym none))

-- what is held of a slot was held before, or it is new
was_or_new : (before after : DagView) (certificate : Certificate) → Enters before after certificate → (round author : ℕ) (c : Certificate) → slots_in after round author ≡ Some c
    → (slots_in before round author ≡ Some c) ⊎ (slots_in before round author ≡ None)
was_or_new before after certificate enters round author c held =
    elim (given_or_none (slots_in before round author)) [
      | inl d ↦ inl (d.1 ∙ sym ((grows before after certificate enters).kept round author d.0 d.1) ∙ held)
      | inr none ↦ inr none
    ]

-- what is marked of what is held now was held
marked_was : (before after : DagView) (certificate : Certificate) → Enters before after certificate → (round author : ℕ) (c : Certificate)
    → slots_in after round author ≡ Some c → marked_in after round author ≡ true
    → (slots_in before round author ≡ Some c) × (marked_in before round author ≡ true)
marked_was before after certificate enters round author c held marked =
    let was = sym (enters.with.marked round author) ∙ marked in
    elim (was_or_new before after certificate enters round author c held) [
      | inl same ↦ (same, was)
      | inr none ↦ let bad : true ≡ false = sym was ∙ unheld_unmarked before round author none in absurd cc
    ]

-- below the new one's round all was held
was_below : (before after : DagView) (certificate : Certificate) → Enters before after certificate → (round author : ℕ) (c : Certificate)
    → round < certificate.header.round → slots_in after round author ≡ Some c
    → slots_in before round author ≡ Some c
was_below before after certificate enters round author c lower held =
    let apart : (certificate.header.round == round) ≡ false = grind (arith, lower) in
    let same = enters.with.slots round author in
    let other : is_of_slot round author certificate.header ≡ false = ap (λ b. b && (certificate.header.author.0 == author)) apart in
    let nothing : slots_of (certificate ∷ []) round author ≡ None = rw other refl in
    let none : slots_in after round author ≡ slots_in before round author = same ∙ ap (option_or (slots_in before round author)) nothing ∙ or_none (slots_in before round author) in
    sym none ∙ held

pub made_still : (before after : DagView) (certificate : Certificate) (made : LengtheningView) → Enters before after certificate
    → made.last.0 < certificate.header.round → FitsTo before made → FitsTo after made
made_still before after certificate made enters above of =
    let past = past_stays before after certificate enters (Some made.last) of.held in
    let leader = kept_slot before after certificate enters made.last of.held in
    let floor = enters.with.floor in
    let depth : after.charter.depth ≡ before.charter.depth = ap (λ (charter : Charter). charter.depth) enters.with.charter in
    record {
      held = ap (λ (o : Option Certificate). is_some o) leader ∙ of.held;
      unordered = λ r a c from to held.
          let was = was_below before after certificate enters r a c (omega (arith, to, above)) held in
          ap (λ (o : Option Certificate). (is_some o && not (marked_in after r a)) && not (is_in made.ordered (made.last.0 - r) a)) (held ∙ sym was)
          ∙ ap (λ b. (is_some (slots_in before r a) && not b) && not (is_in made.ordered (made.last.0 - r) a)) (enters.with.marked r a)
          ∙ of.unordered r a c (omega (arith, from, floor, depth)) to was ∙ ap not (sym (past c));
      marked = λ r a c from held marked. let was = marked_was before after certificate enters r a c held marked in past c ∙ of.marked r a c (omega (arith, from, floor, depth)) was.0 was.1;
    }
