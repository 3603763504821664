-- What is kept with one certificate more.
use Rattle.std.proofs.Common.{◌≡◌, ◌≢◌, ℕ, suc, ◌+◌, ◌-◌, ◌<◌, ◌≤◌, true, false, List, [], ◌∷◌, ◌++◌, map, max, length, Option, Some, None, inl, inr}
use Rattle.std.proofs.Common.{refl, ap, sym, ◌∙◌, subst, arith, get_or, slice_set, replicate, length-append}
use Rattle.std.specs.Prelude.{nat_le, nat_lt, option_map, All, ◌==◌, ◌&&◌}
use Rattle.std.specs.List.{list_all}
use Rattle.std.specs.Option.{option_map_or, option_or}
use Rattle.std.proofs.lemmas.Bool.{cases_Bool, and_parts, eqb-true, eq-eqb, leb-true, le-leb, true≢false}
use Rattle.std.proofs.lemmas.List.{length-map, length-replicate, length-set}
use Rattle.std.proofs.lemmas.List.Elements.{All-append, All-replicate, All-set}
use Rattle.std.proofs.lemmas.Option.{same_Some}
use Rattle.wire.specs.declared.round.TheConstants.Round.{MAX}
use Rattle.committee.specs.Charter.{Charter}
use Rattle.spec_model.specs.Holdings.{is_low, is_held, all_held}
use Rattle.spec_model.specs.Slots.{certificate_digest, is_of_slot, is_parent, slots_of}
use Rattle.spec_model.specs.Words.{Certificate, ParentReference}
use Rattle.spec_laws.proofs.Growing.{is_in}
use Rattle.spec_laws.proofs.Lists.{given_or_none}
use Rattle.spec_laws.proofs.Votes.{slot_is, of_its_slot}
use Rattle.committee.specs.Sets.{has}
use Rattle.dag.specs.Changes.{IsWith}
use Rattle.dag.specs.Graph.{slots_in, end_in}
use Rattle.dag.specs.Kept.{Rows, entry_at, graph_of, placed_of, has_below, IsKept, IsEntry}
use Rattle.dag.specs.declared.entry.Entry.{Entry}
use Rattle.dag.proofs.Entries.{round_below, entry_seen, nothing_seen, seen_entry, unseen_entry, in_place, of_members}
use Rattle.dag.proofs.Reaching.{IsMore, held_after, old_parents, new_parents}
use Rattle.dag.proofs.Slots.{at_place, at_place-longer, set_slot, slot_here, slot_other_row, slot_other_author, slot_kept, mark_kept}

-- a round that isn't low
pub high_above : (floor round : ℕ) → is_low floor round ≡ false → (0 < round) × (floor ≤ round)
high_above floor round high = (grind (arith, high), grind (arith, high))

-- a certificate that enters, as it is kept
pub record Enters (charter : Charter) (floor base : ℕ) (rows : Rows) (entry : Entry) : Type 0 where
  pub kept : IsKept charter floor base rows
  pub member : entry.certificate.header.author.0 < length charter.keys
  pub limit : entry.certificate.header.round ≤ MAX
  pub positive : 0 < entry.certificate.header.round
  pub above : floor ≤ entry.certificate.header.round
  pub unnamed : (round author : ℕ) (d : Certificate) → slots_in (graph_of charter floor base rows) round author ≡ Some d → is_parent entry.certificate d ≡ false
  pub free : slots_in (graph_of charter floor base rows) entry.certificate.header.round entry.certificate.header.author.0 ≡ None
  pub held : all_held (slots_in (graph_of charter floor base rows)) floor entry.certificate.header ≡ true
  pub digest : entry.digest ≡ certificate_digest entry.certificate.header
  pub parents : (author : ℕ) → has entry.parents author ≡ has_below (slots_in (graph_of charter floor base rows)) entry.certificate author
  pub without_mark : entry.marked ≡ false
  pub near : entry.certificate.header.round ≤ max (floor + length rows) (floor + 1)

-- the rows up to a place
abbrev pub extended : ℕ → Rows → ℕ → Rows
extended size rows place = rows ++ replicate (suc place - length rows) (replicate size None)

-- the rows with it
abbrev pub entered : ℕ → ℕ → Rows → Entry → Rows
entered size floor rows entry = set_slot (extended size rows (entry.certificate.header.round - floor)) (entry.certificate.header.round - floor) entry.certificate.header.author.0 (Some entry)

-- ---- its round

near_by : (charter : Charter) (floor base : ℕ) (rows : Rows) (round : ℕ) (parents : List ParentReference) → 0 < length parents
    → list_all (is_held (slots_in (graph_of charter floor base rows)) floor round) parents ≡ true → round ≤ max (floor + length rows) (floor + 1)
near_by charter floor base rows round [] some all = absurd (omega (arith, some))
near_by charter floor base rows round (p ∷ parents) some all =
    let slots = slots_in (graph_of charter floor base rows) in
    let held : is_held slots floor round p ≡ true = (and_parts (is_held slots floor round p) (list_all (is_held slots floor round) parents) all).0 in
    elim (given_or_none (entry_at floor rows (round - 1) p.author.0)) [
      | inl e ↦ let below = round_below floor rows (round - 1) p.author.0 e.0 e.1 in omega (arith, below)
      | inr none ↦
          let low : (nat_lt 0 floor && nat_le (round - 1) floor) ≡ true = rw (nothing_seen charter floor base rows (round - 1) p.author.0 none) at held in
          let within = leb-true (round - 1) floor (and_parts (nat_lt 0 floor) (nat_le (round - 1) floor) low).1 in
          omega (arith, within)
    ]

-- a certificate with a parent that is held or low is of the next round at most
pub is_near : (charter : Charter) (floor base : ℕ) (rows : Rows) (x : Certificate) → 0 < length x.header.parents → all_held (slots_in (graph_of charter floor base rows)) floor x.header ≡ true
    → x.header.round ≤ max (floor + length rows) (floor + 1)
is_near charter floor base rows x some held = near_by charter floor base rows x.header.round x.header.parents some held

-- ---- the rows up to a place

pub long_enough : (size : ℕ) (rows : Rows) (place : ℕ) → place < length (extended size rows place)
long_enough size rows place =
    let parts = length-append rows (replicate (suc place - length rows) (replicate size None)) in
    let more = length-replicate {A = List (Option Entry)} (suc place - length rows) (replicate size None) in
    omega (arith, parts, more)

pub not_too_long : (size : ℕ) (rows : Rows) (place most : ℕ) → length rows ≤ most → place < most → length (extended size rows place) ≤ most
not_too_long size rows place most few within =
    let parts = length-append rows (replicate (suc place - length rows) (replicate size None)) in
    let more = length-replicate {A = List (Option Entry)} (suc place - length rows) (replicate size None) in
    omega (arith, parts, more, few, within)

pub full_extended : (size : ℕ) (rows : Rows) (place : ℕ) → All (λ row. length row ≡ size) rows → All (λ row. length row ≡ size) (extended size rows place)
full_extended size rows place full =
    All-append (λ (row : List (Option Entry)). length row ≡ size) rows (replicate (suc place - length rows) (replicate size None)) full
    (All-replicate (λ (row : List (Option Entry)). length row ≡ size) (suc place - length rows) (replicate size None) (length-replicate {A = Option Entry} size None))

pub full_row : (size : ℕ) (rows : Rows) (place : ℕ) → All (λ row. length row ≡ size) rows → length (get_or (extended size rows place) place []) ≡ size
full_row size rows place full = full_extended size rows place full place [] (long_enough size rows place)

-- ---- the rows with the certificate

entry_here : (charter : Charter) (floor base : ℕ) (rows : Rows) (entry : Entry) → Enters charter floor base rows entry → (round author : ℕ) → is_of_slot round author entry.certificate.header ≡ true
    → entry_at floor (entered (length charter.keys) floor rows entry) round author ≡ Some entry
entry_here charter floor base rows entry enters round author here =
    let header = entry.certificate.header in
    let size = length charter.keys in
    let place = slot_is round author header here in
    let within = le-leb floor header.round enters.above in
    let row = full_row size rows (header.round - floor) enters.kept.full in
    ap (λ r. entry_at floor (entered size floor rows entry) r author) (sym place.0) ∙ ap (entry_at floor (entered size floor rows entry) header.round) (sym place.1)
    ∙ rw within (slot_here (extended size rows (header.round - floor)) (header.round - floor) header.author.0 (Some entry)
    (long_enough size rows (header.round - floor)) (omega (arith, row, enters.member)))

entry_other_at : (size floor : ℕ) (rows : Rows) (entry : Entry) (round author : ℕ) → floor ≤ round → floor ≤ entry.certificate.header.round → is_of_slot round author entry.certificate.header ≡ false
    → at_place (entered size floor rows entry) (round - floor) author ≡ at_place rows (round - floor) author
entry_other_at size floor rows entry round author within above other =
    let header = entry.certificate.header in
    let place = header.round - floor in
    let all = extended size rows place in
    elim (cases_Bool (header.round == round)) [
      | inl same ↦
          let is = eqb-true header.round round same in
          let apart : author ≢ header.author.0 = λ e. (let here = eq-eqb header.author.0 author (sym e) in let bad = rw (same, here) at other in absurd cc) in
          ap (λ r. at_place (entered size floor rows entry) (r - floor) author) (sym is)
          ∙ slot_other_author all place header.author.0 (Some entry) author (long_enough size rows place) apart
          ∙ at_place-longer rows size (suc place - length rows) place author
          ∙ ap (λ r. at_place rows (r - floor) author) is
      | inr differs ↦
          let apart : round - floor ≢ place = λ e. (let same : header.round ≡ round = omega (arith, e, within, above) in absurd (true≢false (sym (eq-eqb header.round round same) ∙ differs))) in
          slot_other_row all place header.author.0 (Some entry) (round - floor) author apart ∙ at_place-longer rows size (suc place - length rows) (round - floor) author
    ]

entry_other : (charter : Charter) (floor base : ℕ) (rows : Rows) (entry : Entry) → Enters charter floor base rows entry → (round author : ℕ) → is_of_slot round author entry.certificate.header ≡ false
    → entry_at floor (entered (length charter.keys) floor rows entry) round author ≡ entry_at floor rows round author
entry_other charter floor base rows entry enters round author other =
    elim (cases_Bool (nat_le floor round)) [
      | inr below ↦ rw below refl
      | inl within ↦
          rw within (entry_other_at (length charter.keys) floor rows entry round author (leb-true floor round within) enters.above other)
    ]

-- what contracts see: one certificate more
grown : (charter : Charter) (floor base : ℕ) (rows : Rows) (entry : Entry) → Enters charter floor base rows entry → (round author : ℕ)
    → slots_in (graph_of charter floor base (entered (length charter.keys) floor rows entry)) round author
    ≡ option_or (slots_in (graph_of charter floor base rows) round author) (slots_of (entry.certificate ∷ []) round author)
grown charter floor base rows entry enters round author =
    let later = entered (length charter.keys) floor rows entry in
    let before = slots_in (graph_of charter floor base rows) round author in
    elim (cases_Bool (is_of_slot round author entry.certificate.header)) [
      | inl here ↦
          let place = slot_is round author entry.certificate.header here in
          let free : before ≡ None =
          ap (λ r. slots_in (graph_of charter floor base rows) r author) (sym place.0) ∙ ap (slots_in (graph_of charter floor base rows) entry.certificate.header.round) (sym place.1) ∙ enters.free in
          let found : slots_of (entry.certificate ∷ []) round author ≡ Some entry.certificate = rw here refl in
          entry_seen charter floor base later round author entry (entry_here charter floor base rows entry enters round author here)
          ∙ sym (ap (λ o. option_or o (slots_of (entry.certificate ∷ []) round author)) free ∙ found)
      | inr other ↦
          let none : slots_of (entry.certificate ∷ []) round author ≡ None = rw other refl in
          let same = slot_kept charter floor base later round author ∙ ap (option_map (λ e. e.certificate)) (entry_other charter floor base rows entry enters round author other)
          ∙ sym (slot_kept charter floor base rows round author) in
          same ∙ sym (ap (option_or before) none ∙ or_none before)
    ]
  where
    or_none : (o : Option Certificate) → option_or o None ≡ o
    or_none None = refl
    or_none (Some c) = refl

more : (charter : Charter) (floor base : ℕ) (rows : Rows) (entry : Entry) → Enters charter floor base rows entry
    → IsMore (length charter.keys) floor (slots_in (graph_of charter floor base rows)) (slots_in (graph_of charter floor base (entered (length charter.keys) floor rows entry))) entry.certificate
more charter floor base rows entry enters = record {
  placed = in_place charter floor base rows enters.kept;
  members = of_members charter floor base rows enters.kept;
  closed = λ round author c held.
      let of = seen_entry charter floor base rows round author c held in
      ap (λ (d : Certificate). all_held (slots_in (graph_of charter floor base rows)) floor d.header) (sym of.of) ∙ (enters.kept.entries round author of.entry of.there).held;
  grown = grown charter floor base rows entry enters;
  free = enters.free;
  member = enters.member;
  unnamed = enters.unnamed;
  held = enters.held;
}

-- the new one is kept as it has to be
new_kept : (charter : Charter) (floor base : ℕ) (rows : Rows) (entry : Entry) → Enters charter floor base rows entry
    → IsEntry (graph_of charter floor base (entered (length charter.keys) floor rows entry)) entry.certificate.header.round entry.certificate.header.author.0 entry
new_kept charter floor base rows entry enters =
    let n = length charter.keys in
    let before = slots_in (graph_of charter floor base rows) in
    let after = slots_in (graph_of charter floor base (entered n floor rows entry)) in
    let is = more charter floor base rows entry enters in
    record {
      place = of_its_slot entry.certificate.header;
      digest = enters.digest;
      held = held_after n floor before after entry.certificate is entry.certificate.header enters.held;
      parents = λ _ author. enters.parents author ∙ sym (new_parents n floor before after entry.certificate is enters.positive author);
    }

-- and the others still are
old_kept : (charter : Charter) (floor base : ℕ) (rows : Rows) (entry : Entry) → Enters charter floor base rows entry → (round author : ℕ) (old : Entry)
    → entry_at floor rows round author ≡ Some old → IsEntry (graph_of charter floor base (entered (length charter.keys) floor rows entry)) round author old
old_kept charter floor base rows entry enters round author old there =
    let n = length charter.keys in
    let before = slots_in (graph_of charter floor base rows) in
    let after = slots_in (graph_of charter floor base (entered n floor rows entry)) in
    let is = more charter floor base rows entry enters in
    let facts = enters.kept.entries round author old there in
    let held = is_in before round author old.certificate is.placed (entry_seen charter floor base rows round author old there) in
    record {
      place = facts.place;
      digest = facts.digest;
      held = held_after n floor before after entry.certificate is old.certificate.header facts.held;
      parents = λ above other. facts.parents above other ∙ sym (old_parents n floor before after entry.certificate is old.certificate held other);
    }

-- the rows go up to its round
long_after : (charter : Charter) (floor base : ℕ) (rows : Rows) (entry : Entry) → Enters charter floor base rows entry
    → end_in (graph_of charter floor base (entered (length charter.keys) floor rows entry)) ≡ max (end_in (graph_of charter floor base rows)) (entry.certificate.header.round + 1)
long_after charter floor base rows entry enters =
    let header = entry.certificate.header in
    let size = length charter.keys in
    let place = header.round - floor in
    let all = extended size rows place in
    let above = enters.above in
    let set = length-set all place (slice_set (get_or all place []) header.author.0 (Some entry)) in
    let parts = length-append rows (replicate (suc place - length rows) (replicate size None)) in
    let more = length-replicate {A = List (Option Entry)} (suc place - length rows) (replicate size None) in
    let was = length-map rows (λ row. map (option_map placed_of) row) in
    let now = length-map (entered size floor rows entry) (λ row. map (option_map placed_of) row) in
    omega (arith, above, set, parts, more, was, now)

-- all of it is kept as it has to be
pub kept_with : (charter : Charter) (floor base : ℕ) (rows : Rows) (entry : Entry) → Enters charter floor base rows entry
    → IsKept charter floor base (entered (length charter.keys) floor rows entry)
kept_with charter floor base rows entry enters =
    let header = entry.certificate.header in
    let size = length charter.keys in
    let place = header.round - floor in
    let all = extended size rows place in
    let later = entered size floor rows entry in
    let above = enters.above in
    let few = not_too_long size rows place ((MAX + 1) - floor) (omega (arith, enters.kept.few)) (omega (arith, enters.limit, above)) in
    let long = length-set all place (slice_set (get_or all place []) header.author.0 (Some entry)) in
    record {
      valid = enters.kept.valid;
      low = enters.kept.low;
      within = enters.kept.within;
      few = omega (arith, few, long, enters.kept.low, enters.kept.within);
      full = All-set (λ row. length row ≡ size) all place (slice_set (get_or all place []) header.author.0 (Some entry))
          (length-set (get_or all place []) header.author.0 (Some entry) ∙ full_row size rows place enters.kept.full) (full_extended size rows place enters.kept.full);
      entries = λ round author e is.
          elim (cases_Bool (is_of_slot round author header)) [
            | inl here ↦
                let same : entry ≡ e = same_Some entry e (sym (entry_here charter floor base rows entry enters round author here) ∙ is) in
                let slot = slot_is round author header here in
                subst (λ (f : Entry). IsEntry (graph_of charter floor base later) round author f) same
                (subst (λ a. IsEntry (graph_of charter floor base later) round a entry) slot.1
                (subst (λ r. IsEntry (graph_of charter floor base later) r header.author.0 entry) slot.0 (new_kept charter floor base rows entry enters)))
            | inr other ↦ old_kept charter floor base rows entry enters round author e (sym (entry_other charter floor base rows entry enters round author other) ∙ is)
          ];
    }

-- what contracts see of it
pub is_with : (charter : Charter) (floor base : ℕ) (rows : Rows) (entry : Entry) → Enters charter floor base rows entry
    → IsWith (graph_of charter floor base rows) (graph_of charter floor base (entered (length charter.keys) floor rows entry)) entry.certificate
is_with charter floor base rows entry enters = record {
  charter = refl;
  floor = refl;
  base = refl;
  slots = grown charter floor base rows entry enters;
  marked = λ round author.
      let later = entered (length charter.keys) floor rows entry in
      let now = mark_kept charter floor base later round author in
      let was = mark_kept charter floor base rows round author in
      elim (cases_Bool (is_of_slot round author entry.certificate.header)) [
        | inl here ↦
            let place = slot_is round author entry.certificate.header here in
            let none : entry_at floor rows round author ≡ None =
            unseen_entry charter floor base rows round author (ap (λ r. slots_in (graph_of charter floor base rows) r author) (sym place.0)
            ∙ ap (slots_in (graph_of charter floor base rows) entry.certificate.header.round) (sym place.1) ∙ enters.free) in
            now ∙ ap (λ o. option_map_or (λ (e : Entry). e.marked) o false) (entry_here charter floor base rows entry enters round author here) ∙ enters.without_mark
            ∙ sym (was ∙ ap (λ o. option_map_or (λ (e : Entry). e.marked) o false) none)
        | inr other ↦
            now ∙ ap (λ o. option_map_or (λ (e : Entry). e.marked) o false) (entry_other charter floor base rows entry enters round author other) ∙ sym was
      ];
  end = long_after charter floor base rows entry enters;
  near = (let was = length-map rows (λ row. map (option_map placed_of) row) in omega (arith, was, enters.near));
}
