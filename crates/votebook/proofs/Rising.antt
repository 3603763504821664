-- A list of entries whose slots rise is that of its map, and what an iterator over it gives at a place.
use Rattle.std.proofs.Common.{◌≡◌, ℕ, Bool, true, false, List, [], ◌∷◌, Option, Some, None, refl, sym, ap, subst, ◌∙◌, arith}
use Rattle.std.specs.Prelude.{slice_get, option_map}
use Rattle.std.specs.Prelude.{T, ◌&&◌}
use Rattle.std.specs.Cmp.{eq_by_cmp_equiv}
use Rattle.std.specs.Ordering.{is_lt, eq_by_cmp}
use Rattle.std.specs.declared.cmp.Ordering.TheVariants.{Less}
use Rattle.std.specs.FinMap.{from_entries, from_sorted, entries, is_sorted, get-from_sorted, entries-from_sorted, same_map}
use Rattle.std.specs.FinMap.Entries.{below_all}
use Rattle.std.specs.Iterator.{SkipsThenYields}
use Rattle.std.specs.List.{AllByRecursion}
use Rattle.std.specs.List.Sorted.{IsStrictlySortedBy}
use Rattle.std.specs.Map.{keys_of, update_all}
use Rattle.std.specs.Map.Iter.{TakesFirst}
use Rattle.std.proofs.lemmas.Map.Iter.{iter_turn, iter_end}
use Rattle.std.proofs.lemmas.Map.Keys.{IsDistinct-from_sorted}
use Rattle.std.proofs.lemmas.Map.Made.{update_all_none}
use Rattle.std.proofs.lemmas.Option.{slice_get_past}
use Rattle.wire.specs.declared.keys.Digest.{Digest}
use Rattle.votebook.specs.declared.slot.Slot.{Slot}
use Rattle.votebook.specs.Slot.{slot_cmp}
use Rattle.votebook.specs.Votes.{Votes}
use Rattle.votebook.proofs.Lookups.{digest_at, get-entries, exact_slots, slots_total, find_is-digest_at}

both : (a b : Bool) → T a → T b → T (a && b)
both true b p q = q
both false b p q = absurd p

below : (slot : Slot) (es : List (Slot × Digest)) → AllByRecursion (λ other. slot_cmp slot other ≡ Less) (keys_of es) → T (below_all slot_cmp slot es)
below slot [] h = tt
below slot (e ∷ es) h = both (is_lt (slot_cmp slot e.0)) (below_all slot_cmp slot es) (subst (λ o. T (is_lt o)) (sym h.0) tt) (below slot es h.1)

pub sorted : (es : List (Slot × Digest)) → IsStrictlySortedBy slot_cmp (keys_of es) → T (is_sorted slot_cmp es)
unfolding IsStrictlySortedBy
sorted [] h = tt
sorted (e ∷ es) h = both (below_all slot_cmp e.0 es) (is_sorted slot_cmp es) (below e.0 es h.0) (sorted es h.1)

-- entries that have at each slot what a rising list has make the map whose list that is
pub map_of-rising : (es list : List (Slot × Digest)) → IsStrictlySortedBy slot_cmp (keys_of list) → ((slot : Slot) → digest_at es slot ≡ digest_at list slot)
    → entries (from_entries {R = slot_cmp} es) ≡ list
map_of-rising es list rising same =
    let is = sorted list rising in
    ap entries (same_map slots_total exact_slots (from_entries es) (from_sorted list)
    (λ q. get-entries es q ∙ same q ∙ sym (get-from_sorted slot_cmp list q is ∙ find_is-digest_at list q)))
    ∙ entries-from_sorted slot_cmp list is

-- what is collected of a rising list has at each slot what the list has
pub collected : (list es : List (Slot × Digest)) → IsStrictlySortedBy slot_cmp (keys_of list)
    → ((slot : Slot) → digest_at es slot ≡ update_all (eq_by_cmp slot_cmp) (λ _. None) list slot)
    → entries (from_entries {R = slot_cmp} es) ≡ list
collected list es rising made =
    map_of-rising es list rising
    (λ q. made q ∙ update_all_none (eq_by_cmp_equiv slots_total) (eq_by_cmp slot_cmp) (λ x y. refl) list q (IsDistinct-from_sorted slot_cmp (keys_of list) rising))

-- after as many items as a place says an iterator gives what its list has there
pub nth_shows : {A X : Type 0} (shows : A → X) (all s u : List X) (place : ℕ) (r : Option A) → s ≡ all → SkipsThenYields (TakesFirst shows) s place r u
    → option_map shows r ≡ slice_get all place
nth_shows shows all s u place None begins (xs, (t, given, last), few) =
    let whole = (iter_end shows all xs s t u None begins given refl last).1 in
    sym (slice_get_past all place (omega (arith, whole, few)))
nth_shows shows all s u place (Some x) begins (xs, (t, given, last), long) =
    sym ((iter_turn shows all xs s t u (Some x) begins given x refl last).1) ∙ ap (slice_get all) long

-- so over rising entries it gives what the list of their map has there
pub nth_in : {A : Type 0} (shows : A → Slot × Digest) (es : List (Slot × Digest)) (votes : Votes) (s u : List (Slot × Digest)) (place : ℕ) (r : Option A)
    → IsStrictlySortedBy slot_cmp (keys_of es) → from_entries {R = slot_cmp} es ≡ votes → s ≡ es → SkipsThenYields (TakesFirst shows) s place r u
    → option_map shows r ≡ slice_get (entries votes) place
nth_in shows es votes s u place r rising view begins ran =
    nth_shows shows es s u place r begins ran ∙ ap (λ l. slice_get l place) (sym (map_of-rising es es rising (λ q. refl)) ∙ ap entries view)
