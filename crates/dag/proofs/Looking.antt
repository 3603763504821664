-- What look-ups find.
use Rattle.std.proofs.Common.{◌≡◌, ℕ, zero, suc, ◌+◌, ◌-◌, ◌<◌, ◌≤◌, Bool, true, false, cond, List, [], ◌∷◌, map, length, Option, Some, None, inl}
use Rattle.std.proofs.Common.{inr, refl, ap, sym, ◌∙◌, arith, slice_get, option_copied, Bor}
use Rattle.std.proofs.Math.Path.{fun_ext}
use Rattle.std.specs.Prelude.{nat_le, nat_lt, option_map, is_some, All, count_by, sum_by, if◌then◌else◌, ◌==◌, ◌&&◌, ◌||◌}
use Rattle.std.specs.Option.{option_map_or}
use Rattle.std.proofs.lemmas.Bool.{cases_Bool, eqb-true, lt-ltb, ltb-true, leb-true}
use Rattle.std.proofs.lemmas.List.{length-map}
use Rattle.std.proofs.lemmas.Option.{slice_get-map}
use Rattle.committee.specs.Charter.{Charter}
use Rattle.spec_model.specs.Holdings.{all_held}
use Rattle.spec_model.specs.Slots.{is_parent}
use Rattle.spec_model.specs.Words.{Certificate}
use Rattle.spec_laws.proofs.Lists.{given_or_none}
use Rattle.spec_laws.proofs.Votes.{slot_is}
use Rattle.spec_laws.proofs.Weighing.{sum_mapped}
use Rattle.committee.specs.Sets.{has}
use Rattle.dag.specs.Graph.{IsGraph, slots_in, count_in, row_at, has_parent_in}
use Rattle.dag.specs.Kept.{Rows, entry_at, graph_of, placed_of, IsKept}
use Rattle.dag.specs.declared.entry.Entry.{Entry}
use Rattle.dag.proofs.Entries.{entry_seen, nothing_seen, seen_entry, in_place, of_members}
use Rattle.dag.proofs.Paths.{parent_below}
use Rattle.dag.proofs.Walking.{parent_of}

-- ---- what holds of each

pub row_above : {X : Type 0} (floor : ℕ) (rows : List (List (Option X))) (round author : ℕ) (x : X) → row_at floor rows round author ≡ Some x → floor ≤ round
row_above floor rows round author x is =
    elim (cases_Bool (nat_le floor round)) [
      | inl within ↦ leb-true floor round within
      | inr below ↦ let bad = rw below at is in absurd cc
    ]

full_seen : (size : ℕ) (rows : Rows) → All (λ row. length row ≡ size) rows → All (λ row. length row ≡ size) (map (λ row. map (option_map placed_of) row) rows)
full_seen size [] full k d within = absurd (omega (arith, within))
full_seen size (row ∷ rows) full zero d within = length-map row (option_map placed_of) ∙ full zero [] (omega arith)
full_seen size (row ∷ rows) full (suc k) d within = full_seen size rows (λ i d' inside. full (suc i) d' (omega (arith, inside))) k d (omega (arith, within))

pub is_graph : (charter : Charter) (floor base : ℕ) (rows : Rows) → IsKept charter floor base rows → IsGraph (graph_of charter floor base rows)
is_graph charter floor base rows kept = record {
  charter = kept.valid;
  low = kept.low;
  within = kept.within;
  few = (let long = length-map rows (λ row. map (option_map placed_of) row) in omega (arith, kept.few, long));
  full = full_seen (length charter.keys) rows kept.full;
  placed = in_place charter floor base rows kept;
  above = λ round author c held. let of = seen_entry charter floor base rows round author c held in row_above floor rows round author of.entry of.there;
  of_members = of_members charter floor base rows kept;
  held = λ round author c held.
      let of = seen_entry charter floor base rows round author c held in
      ap (λ (d : Certificate). all_held (slots_in (graph_of charter floor base rows)) floor d.header) (sym of.of) ∙ (kept.entries round author of.entry of.there).held;
}

-- ---- counts

some_same : {X Y : Type 0} (f : X → Y) (o : Option X) → ◌≡◌ {A = ℕ} (cond (is_some (option_map f o)) 1 0) (cond (is_some o) 1 0)
some_same f (Some x) = refl
some_same f None = refl

count_mapped : (o : Option (List (Option Entry))) → option_map_or (λ row. count_by is_some row) (option_map (λ row. map (option_map placed_of) row) o)
    0 ≡ option_map_or (λ row. count_by is_some row) o 0
count_mapped None = refl
count_mapped (Some row) =
    sum_mapped (option_map placed_of) (λ placed. cond (is_some placed) 1 0) row ∙ ap (λ (f : Option Entry → ℕ). count_with f row) (fun_ext (some_same placed_of))
  where
    count_with : (Option Entry → ℕ) → List (Option Entry) → ℕ
    count_with f row = sum_by f row

pub count_kept : (charter : Charter) (floor base : ℕ) (rows : Rows) (round : ℕ)
    → count_in (graph_of charter floor base rows) round ≡ option_map_or (λ row. count_by is_some row) (if nat_le floor round then slice_get rows (round - floor) else None) 0
count_kept charter floor base rows round =
    elim (cases_Bool (nat_le floor round)) [
      | inr below ↦ rw below refl
      | inl within ↦
          rw within
          (ap (λ o. option_map_or (λ row. count_by is_some row) o 0) (slice_get-map (λ row. map (option_map placed_of) row) rows (round - floor)) ∙ count_mapped (slice_get rows (round - floor)))
    ]

-- ---- a set that is made member by member

pub one_in : (test : ℕ → Bool) (next other : ℕ) (b : Bool) → b ≡ (nat_lt other next && test other) → test next ≡ true → (b || (other == next)) ≡ (nat_lt other (next + 1) && test other)
one_in test next other b is passes =
    elim (cases_Bool (other == next)) [
      | inl same ↦
          let at = eqb-true other next same in
          let here : test other ≡ true = ap test at ∙ passes in
          let less = lt-ltb other (next + 1) (omega (arith, at)) in
          rw (same, here, less) (or_true b)
      | inr apart ↦
          let alike : nat_lt other next ≡ nat_lt other (next + 1) = grind (arith, apart) in
          rw apart (or_false' b ∙ is ∙ ap (λ c. c && test other) alike)
    ]
  where
    or_true : (c : Bool) → (c || true) ≡ true
    or_true true = refl
    or_true false = refl

    or_false' : (c : Bool) → (c || false) ≡ c
    or_false' true = refl
    or_false' false = refl

pub one_out : (test : ℕ → Bool) (next other : ℕ) (b : Bool) → b ≡ (nat_lt other next && test other) → test next ≡ false → b ≡ (nat_lt other (next + 1) && test other)
one_out test next other b is fails =
    elim (cases_Bool (other == next)) [
      | inl same ↦
          let at = eqb-true other next same in
          let here : test other ≡ false = ap test at ∙ fails in
          is ∙ rw here (and_false' (nat_lt other next) ∙ sym (and_false' (nat_lt other (next + 1))))
      | inr apart ↦
          let alike : nat_lt other next ≡ nat_lt other (next + 1) = grind (arith, apart) in
          is ∙ ap (λ c. c && test other) alike
    ]
  where
    and_false' : (c : Bool) → (c && false) ≡ false
    and_false' true = refl
    and_false' false = refl

-- at the end the set is that of those who pass, where only members do
pub all_in : (test : ℕ → Bool) (size other : ℕ) (b : Bool) → b ≡ (nat_lt other size && test other) → (test other ≡ true → other < size) → b ≡ test other
all_in test size other b is members =
    elim (cases_Bool (test other)) [
      | inl passes ↦ let less = lt-ltb other size (members passes) in is ∙ rw (passes, less) refl
      | inr fails ↦ is ∙ rw fails (and_false' (nat_lt other size))
    ]
  where
    and_false' : (c : Bool) → (c && false) ≡ false
    and_false' true = refl
    and_false' false = refl

-- ---- parents

-- the set of what is kept says who its parents are
pub parents_kept : (charter : Charter) (floor base : ℕ) (rows : Rows) → IsKept charter floor base rows → (round author parent : ℕ)
    → (nat_lt floor round && option_map_or (λ e. has e.parents parent) (entry_at floor rows round author) false) ≡ has_parent_in (graph_of charter floor base rows) round author (round - 1) parent
parents_kept charter floor base rows kept round author parent =
    let slots = slots_in (graph_of charter floor base rows) in
    let over : Option Certificate → Bool = λ o. option_map_or (λ child. option_map_or (λ c. is_parent c child) (slots (round - 1) parent) false) o false in
    elim (cases_Bool (nat_lt floor round)) [
      | inr low ↦ rw low (
          elim (cases_Bool (has_parent_in (graph_of charter floor base rows) round author (round - 1) parent)) [
            | inr none ↦ sym none
            | inl has ↦
                let found = parent_of (graph_of charter floor base rows) round author (round - 1) parent has in
                let is = is_graph charter floor base rows kept in
                let child = slot_is round author found.child.header (is.placed round author found.child found.held_child) in
                let at = slot_is (round - 1) parent found.parent.header (is.placed (round - 1) parent found.parent found.held_parent) in
                let above = is.above (round - 1) parent found.parent found.held_parent in
                let below = parent_below found.parent found.child found.names in
                let under : round ≤ floor = grind (arith, low) in
                absurd (omega (arith, child.0, at.0, above, below, under))
          ]
          )
      | inl high ↦
          elim (given_or_none (entry_at floor rows round author)) [
            | inl e ↦
                let facts = kept.entries round author e.0 e.1 in
                let place = slot_is round author e.0.certificate.header facts.place in
                ap (λ b. b && option_map_or (λ f. has f.parents parent) (entry_at floor rows round author) false) high
                ∙ ap (λ o. option_map_or (λ (f : Entry). has f.parents parent) o false) e.1
                ∙ facts.parents (ltb-true floor round high) parent
                ∙ ap (λ r. option_map_or (λ c. is_parent c e.0.certificate) (slots (r - 1) parent) false) place.0
                ∙ sym (ap over (entry_seen charter floor base rows round author e.0 e.1))
            | inr none ↦
                ap (λ b. b && option_map_or (λ f. has f.parents parent) (entry_at floor rows round author) false) high
                ∙ ap (λ o. option_map_or (λ (f : Entry). has f.parents parent) o false) none
                ∙ sym (ap over (nothing_seen charter floor base rows round author none))
          ]
    ]

-- a certificate is lent where one is held
pub some_copied : (o : Option (Bor Certificate)) → is_some (option_copied o) ≡ is_some o
some_copied None = refl
some_copied (Some x) = refl
