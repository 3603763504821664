-- What is kept where rounds are taken out.
use Rattle.std.proofs.Common.{◌≡◌, ℕ, zero, suc, ◌+◌, ◌-◌, ◌<◌, ◌≤◌, Bool, true, false, map, length, Option, Some, None, inl, inr, refl, ap, sym, ◌∙◌, arith, drop}
use Rattle.std.proofs.Math.Path.{fun_ext}
use Rattle.std.specs.Prelude.{nat_le, nat_lt, option_map, if◌then◌else◌, ◌&&◌, ◌||◌}
use Rattle.std.specs.List.{list_any}
use Rattle.std.specs.Option.{option_map_or}
use Rattle.std.proofs.lemmas.Bool.{cases_Bool, and_from, le-leb, ltb-true, lt-ltb}
use Rattle.std.proofs.lemmas.List.{length-drop, length-map}
use Rattle.std.proofs.lemmas.List.Elements.{All-drop}
use Rattle.std.proofs.lemmas.Option.{none-some}
use Rattle.committee.specs.Charter.{Charter, numbers}
use Rattle.spec_model.specs.Holdings.{is_held}
use Rattle.spec_model.specs.Slots.{Slots, same_digest, certificate_digest, is_parent, has_path, reaches}
use Rattle.spec_model.specs.Words.{Certificate, ParentReference}
use Rattle.spec_laws.proofs.Closed.{all_stay, or_right}
use Rattle.spec_laws.proofs.FromRounds.{AgreeFrom, round_from}
use Rattle.spec_laws.proofs.Growing.{any_same}
use Rattle.spec_laws.proofs.Lists.{given_or_none}
use Rattle.spec_laws.proofs.Votes.{slot_is}
use Rattle.dag.specs.Changes.{IsDropped}
use Rattle.dag.specs.Graph.{DagView, IsGraph, size_in, slots_in, reaches_in}
use Rattle.dag.specs.Kept.{Rows, entry_at, graph_of, placed_of, IsKept, IsEntry}
use Rattle.dag.specs.declared.entry.Entry.{Entry}
use Rattle.dag.proofs.Slots.{at_place, at_place-drop, slot_kept, mark_kept}

not_less : (one other : ℕ) → nat_lt one other ≡ false → other ≤ one
not_less one other not = grind (arith, not)

-- paths between certificates from a round on are the same where slots agree from there on
paths_from : (n low : ℕ) (one other : Slots) → AgreeFrom low one other → (steps : ℕ) (start end : Certificate) → low ≤ end.header.round
    → has_path n one steps start end ≡ has_path n other steps start end
paths_from n low one other agree zero start end above = refl
paths_from n low one other agree (suc steps) start end above =
    let round = end.header.round + 1 in
    any_same (one round) (one round) (λ child. has_path n other steps start child && is_parent end child) (λ child. has_path n one steps start child && is_parent end child) (numbers n)
    (λ a child held. let place = slot_is round a child.header (agree.placed round a child held) in
    (held, ap (λ b. b && is_parent end child) (paths_from n low one other agree steps start child (omega (arith, above, place.0)))))
    (λ a child none held. absurd (none-some child (sym none ∙ held)))
    ∙ ap (list_any (λ child. has_path n other steps start child && is_parent end child)) (round_from n low one other agree round (omega (arith, above)))

reaches_from : (n low : ℕ) (one other : Slots) → AgreeFrom low one other → (start end : Certificate) → low ≤ end.header.round → reaches n one start end ≡ reaches n other start end
reaches_from n low one other agree start end above =
    ap (λ b. nat_le end.header.round start.header.round && b) (paths_from n low one other agree (start.header.round - end.header.round) start end above)

-- what is kept above the new floor is what was
pub entry_dropped : (floor round : ℕ) (rows : Rows) → floor < round → (r a : ℕ) → entry_at round (drop (round - floor) rows) r a ≡ (if nat_lt r round then None else entry_at floor rows r a)
entry_dropped floor round rows higher r a =
    elim (cases_Bool (nat_lt r round)) [
      | inl below ↦
          let outside : nat_le round r ≡ false = grind (arith, below) in
          rw (below, outside) refl
      | inr above ↦
          let least = not_less r round above in
          let within = le-leb round r least in
          let within' = le-leb floor r (omega (arith, least, higher)) in
          let place : (round - floor) + (r - round) ≡ r - floor = omega (arith, least, higher) in
          rw (above, within, within')
          (at_place-drop rows (round - floor) (r - round) a ∙ ap (λ k. at_place rows k a) place)
    ]

-- contracts see the certificates from the new floor on
slots_from : (charter : Charter) (floor round base : ℕ) (rows : Rows) → floor < round → (r a : ℕ) → round ≤ r
    → slots_in (graph_of charter floor base rows) r a ≡ slots_in (graph_of charter round base (drop (round - floor) rows)) r a
slots_from charter floor round base rows higher r a least =
    let above : nat_lt r round ≡ false = grind (arith, least) in
    let same : entry_at round (drop (round - floor) rows) r a ≡ entry_at floor rows r a = entry_dropped floor round rows higher r a ∙ rw above refl in
    slot_kept charter floor base rows r a ∙ ap (option_map (λ (e : Entry). e.certificate)) (sym same) ∙ sym (slot_kept charter round base (drop (round - floor) rows) r a)

-- what is kept then was kept
was_kept : (floor round : ℕ) (rows : Rows) → floor < round → (r a : ℕ) (e : Entry) → entry_at round (drop (round - floor) rows) r a ≡ Some e → (round ≤ r) × (entry_at floor rows r a ≡ Some e)
was_kept floor round rows higher r a e is =
    let both = sym (entry_dropped floor round rows higher r a) ∙ is in
    elim (cases_Bool (nat_lt r round)) [
      | inl below ↦ let bad = rw below at both in absurd cc
      | inr above ↦ let there = rw above at both in (not_less r round above, there)
    ]

-- parents that are held stay so: those that aren't there any more lie at or below the new floor
held_from : (charter : Charter) (floor round base : ℕ) (rows : Rows) → floor < round → (of : ℕ) (p : ParentReference)
    → is_held (slots_in (graph_of charter floor base rows)) floor of p ≡ true → is_held (slots_in (graph_of charter round base (drop (round - floor) rows))) round of p ≡ true
held_from charter floor round base rows higher of p held =
    let before = slots_in (graph_of charter floor base rows) (of - 1) p.author.0 in
    let after = slots_in (graph_of charter round base (drop (round - floor) rows)) (of - 1) p.author.0 in
    let test : Certificate → Bool = λ c. same_digest (certificate_digest c.header) p.certificate in
    elim (cases_Bool (nat_lt (of - 1) round)) [
      | inl below ↦
          let less = ltb-true (of - 1) round below in
          or_right (option_map_or test after false) (nat_lt 0 round && nat_le (of - 1) round)
          (and_from _ _ (lt-ltb 0 round (omega (arith, higher))) (le-leb (of - 1) round (omega (arith, less))))
      | inr above ↦
          let least = not_less (of - 1) round above in
          let same : before ≡ after = slots_from charter floor round base rows higher (of - 1) p.author.0 least in
          let high : nat_le (of - 1) floor ≡ false = grind (arith, least, higher) in
          let here : option_map_or test before false ≡ true = left_of (option_map_or test before false) (nat_lt 0 floor) (nat_le (of - 1) floor) high held in
          or_left (option_map_or test after false) (nat_lt 0 round && nat_le (of - 1) round) (ap (λ o. option_map_or test o false) (sym same) ∙ here)
    ]
  where
    left_of : (a b c : Bool) → c ≡ false → (a || (b && c)) ≡ true → a ≡ true
    left_of true b c none is = refl
    left_of false true c none is = absurd cc
    left_of false false c none is = absurd cc

    or_left : (a b : Bool) → a ≡ true → (a || b) ≡ true
    or_left true b is = refl
    or_left false b is = absurd cc

entry_from : (charter : Charter) (floor round base : ℕ) (rows : Rows) → IsKept charter floor base rows → floor < round → round < base → (r a : ℕ) (e : Entry)
    → entry_at round (drop (round - floor) rows) r a ≡ Some e → IsEntry (graph_of charter round base (drop (round - floor) rows)) r a e
entry_from charter floor round base rows kept higher within r a e is =
    let before = slots_in (graph_of charter floor base rows) in
    let after = slots_in (graph_of charter round base (drop (round - floor) rows)) in
    let was = was_kept floor round rows higher r a e is in
    let facts = kept.entries r a e was.1 in
    let at = slot_is r a e.certificate.header facts.place in
    record {
      place = facts.place;
      digest = facts.digest;
      held = all_stay (is_held before floor e.certificate.header.round) (is_held after round e.certificate.header.round) e.certificate.header.parents
          (held_from charter floor round base rows higher e.certificate.header.round) facts.held;
      parents = λ above other.
          let least : round ≤ e.certificate.header.round - 1 = omega (arith, above, at.0) in
          facts.parents (omega (arith, above, higher)) other
          ∙ ap (λ o. option_map_or (λ d. is_parent d e.certificate) o false) (slots_from charter floor round base rows higher (e.certificate.header.round - 1) other least);
    }

pub kept_from : (charter : Charter) (floor round base : ℕ) (rows : Rows) → IsKept charter floor base rows → floor < round → round < base → IsKept charter round base (drop (round - floor) rows)
kept_from charter floor round base rows kept higher within =
    let long = length-drop (round - floor) rows in
    record {
      valid = kept.valid;
      low = within;
      within = kept.within;
      few = omega (arith, long, kept.few, kept.within, within, higher);
      full = All-drop (λ row. length row ≡ length charter.keys) (round - floor) rows kept.full;
      entries = entry_from charter floor round base rows kept higher within;
    }

pub seen_from : (charter : Charter) (floor round base : ℕ) (rows : Rows) → floor < round → IsDropped (graph_of charter floor base rows) (graph_of charter round base (drop (round - floor) rows)) round
seen_from charter floor round base rows higher =
    let later = drop (round - floor) rows in
    let long = length-drop (round - floor) rows in
    let was = length-map rows (λ row. map (option_map placed_of) row) in
    let now = length-map later (λ row. map (option_map placed_of) row) in
    let seen : Option Entry → Option Certificate = option_map (λ (e : Entry). e.certificate) in
    let mark_of : Option Entry → Bool = λ o. option_map_or (λ (f : Entry). f.marked) o false in
    record {
      charter = refl;
      floor = omega (arith, higher);
      base = refl;
      slots = λ r a.
          slot_kept charter round base later r a ∙ ap seen (entry_dropped floor round rows higher r a)
          ∙ elim (cases_Bool (nat_lt r round)) [ inl below ↦ rw below refl | inr above ↦ rw above (sym (slot_kept charter floor base rows r a)) ];
      marked = λ r a.
          mark_kept charter round base later r a ∙ ap mark_of (entry_dropped floor round rows higher r a)
          ∙ elim (cases_Bool (nat_lt r round)) [ inl below ↦ rw below refl | inr above ↦ rw above (sym (mark_kept charter floor base rows r a)) ];
      end = omega (arith, higher, long, was, now);
    }

-- ---- the law

-- certificates from a round on are the same where nothing below it is held any more
pub agree_above : (before after : DagView) (low : ℕ) → IsGraph before → IsDropped before after low → AgreeFrom low (slots_in before) (slots_in after)
agree_above before after low graph dropped =
    let same : (r a : ℕ) → low ≤ r → slots_in before r a ≡ slots_in after r a =
    λ r a least. let above : nat_lt r low ≡ false = grind (arith, least) in sym (dropped.slots r a ∙ rw above refl) in
    record {
      placed = graph.placed;
      placed_other = λ r a c held.
          elim (cases_Bool (nat_lt r low)) [
            | inl below ↦ absurd (none-some c (sym (dropped.slots r a ∙ rw below refl) ∙ held))
            | inr above ↦ graph.placed r a c (same r a (not_less r low above) ∙ held)
          ];
      same = same;
    }

-- what is still held reaches the same of what is still held
pub still_reaches : (before after : DagView) (low : ℕ) → IsGraph before → IsDropped before after low → (round author below other : ℕ) → low ≤ below
    → reaches_in after round author below other ≡ reaches_in before round author below other
still_reaches before after low graph dropped round author below other least =
    let n = size_in before in
    let agrees = agree_above before after low graph dropped in
    let over : ℕ → Slots → Option Certificate → Option Certificate → Bool =
    λ m s starts ends. option_map_or (λ start. option_map_or (reaches m s start) ends false) starts false in
    let size : reaches_in after round author below other ≡ over n (slots_in after) (slots_in after round author) (slots_in after below other) =
    ap (λ (charter : Charter). over (length charter.keys) (slots_in after) (slots_in after round author) (slots_in after below other)) dropped.charter in
    let end : over n (slots_in after) (slots_in after round author) (slots_in after below other) ≡ over n (slots_in after) (slots_in after round author) (slots_in before below other) =
    ap (over n (slots_in after) (slots_in after round author)) (sym (agrees.same below other least)) in
    size ∙ end ∙ elim (given_or_none (slots_in before below other)) [
      | inr none ↦
          ap (over n (slots_in after) (slots_in after round author)) none ∙ nothing (slots_in after round author)
          ∙ sym (ap (over n (slots_in before) (slots_in before round author)) none ∙ nothing (slots_in before round author))
      | inl c ↦
          let of = slot_is below other c.0.header (graph.placed below other c.0 c.1) in
          let same : (start : Certificate) → reaches n (slots_in after) start c.0 ≡ reaches n (slots_in before) start c.0 =
          λ start. sym (reaches_from n low (slots_in before) (slots_in after) agrees start c.0 (omega (arith, least, of.0))) in
          ap (over n (slots_in after) (slots_in after round author)) c.1
          ∙ ap (λ (test : Certificate → Bool). option_map_or test (slots_in after round author) false) (fun_ext same)
          ∙ elim (cases_Bool (nat_lt round low)) [
            | inr above ↦ ap (λ o. option_map_or (λ start. reaches n (slots_in before) start c.0) o false) (sym (agrees.same round author (not_less round low above)))
            | inl lower ↦
                let gone : slots_in after round author ≡ None = dropped.slots round author ∙ rw lower refl in
                ap (λ o. option_map_or (λ start. reaches n (slots_in before) start c.0) o false) gone
                ∙ elim (given_or_none (slots_in before round author)) [
                  | inr none ↦ sym (ap (λ o. option_map_or (λ start. reaches n (slots_in before) start c.0) o false) none)
                  | inl start ↦
                      let at = slot_is round author start.0.header (graph.placed round author start.0 start.1) in
                      let less = ltb-true round low lower in
                      let upward : nat_le c.0.header.round start.0.header.round ≡ false = grind (arith, at.0, of.0, less, least) in
                      sym (ap (λ o. option_map_or (λ s. reaches n (slots_in before) s c.0) o false) start.1
                      ∙ ap (λ b. b && has_path n (slots_in before) (start.0.header.round - c.0.header.round) start.0 c.0) upward)
                ]
          ]
          ∙ sym (ap (over n (slots_in before) (slots_in before round author)) c.1)
    ]
  where
    nothing : {X : Type 0} (o : Option X) → option_map_or (λ x. false) o false ≡ false
    nothing None = refl
    nothing (Some x) = refl
