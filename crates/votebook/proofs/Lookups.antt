-- What the map of a tree's entries has at a slot.
use Rattle.std.proofs.Common.{◌≡◌, ℕ, Bool, true, false, cond, List, [], ◌∷◌, Option, Some, None, refl, sym, ap, ◌∙◌, arith}
use Rattle.std.specs.Prelude.{filter, nat_le, nat_lt}
use Rattle.std.specs.Cmp.{IsTotalOrder, nat_cmp_total, eq_by_cmp_equiv}
use Rattle.std.specs.declared.cmp.Ordering.{Ordering}
use Rattle.std.specs.declared.cmp.Ordering.TheVariants.{Less, Equal, Greater}
use Rattle.std.specs.Ordering.{nat_cmp, is_eq}
use Rattle.std.proofs.lemmas.Bool.{ltb-true, ltb-false, leb-true, leb-false}
use Rattle.std.specs.FinMap.{from_entries, insert, get, find, get-from_entries, get-insert, same_map}
use Rattle.std.specs.BTreeMap.{is_at}
use Rattle.std.specs.Map.{lookup}
use Rattle.std.proofs.lemmas.Cmp.{on_total, then_total}
use Rattle.std.proofs.lemmas.Map.Lookups.{CmpEqualImpliesEq, exact_pairs, exact_unsigned}
use Rattle.wire.specs.declared.keys.Digest.{Digest}
use Rattle.votebook.specs.declared.slot.Slot.{Slot}
use Rattle.votebook.specs.Slot.{slot_cmp}

-- the digest that a list of entries has at a slot
abbrev pub digest_at : List (Slot × Digest) → Slot → Option Digest
digest_at entries slot = lookup (is_at (slot_cmp slot)) entries

-- slots that compare alike are one
pub exact_slots : CmpEqualImpliesEq slot_cmp
exact_slots a b h = ap (λ (p : ℕ × ℕ). record { round = p.0; author = p.1 }) (exact_pairs nat_cmp nat_cmp exact_unsigned exact_unsigned (a.round, a.author) (b.round, b.author) h)

pub slots_total : IsTotalOrder slot_cmp
slots_total = then_total (on_total (λ s. s.round) nat_cmp_total) (on_total (λ s. s.author) nat_cmp_total)

pub find_is-digest_at : (entries : List (Slot × Digest)) (slot : Slot) → find slot_cmp slot entries ≡ digest_at entries slot
find_is-digest_at [] slot = refl
find_is-digest_at (e ∷ rest) slot = ap (cond (is_at (slot_cmp slot) e.0) (Some e.1)) (find_is-digest_at rest slot)

pub get-entries : (entries : List (Slot × Digest)) (slot : Slot) → get (from_entries {R = slot_cmp} entries) slot ≡ digest_at entries slot
get-entries entries slot = get-from_entries slots_total entries slot ∙ find_is-digest_at entries slot

-- entries that differ at one slot make maps that differ there
pub one_more : (old new : List (Slot × Digest)) (s : Slot) (d : Digest)
    → ((q : Slot) → digest_at new q ≡ cond (is_at (slot_cmp s) q) (Some d) (digest_at old q)) → from_entries {R = slot_cmp} new
    ≡ insert (from_entries old) s d
one_more old new s d h = same_map slots_total exact_slots _ _ (λ q.
    get-entries new q ∙ h q ∙ ap (λ b. cond b (Some d) (digest_at old q)) ((eq_by_cmp_equiv slots_total).symm s q)
    ∙ sym (get-insert slots_total (from_entries old) s d q ∙ ap (cond (is_at (slot_cmp q) s) (Some d)) (get-entries old q)))

pub is_equal : (o : Ordering) → is_eq o ≡ true → o ≡ Equal
is_equal Less h = absurd cc
is_equal Equal h = refl
is_equal Greater h = absurd cc

-- one entry, of the slot or not, that is kept or not
one_entry : (round : ℕ) (e : Slot × Digest) (slot : Slot) (kept all : List (Slot × Digest)) (tie later low : Bool) → is_at (slot_cmp slot) e.0 ≡ tie
    → nat_lt round e.0.round ≡ later → nat_le slot.round round ≡ low
    → digest_at kept slot ≡ cond low None (digest_at all slot) → digest_at (cond later (e ∷ kept) kept) slot ≡ cond low None (cond tie (Some e.1) (digest_at all slot))
one_entry round e slot kept all true true true t l w h =
    let same : slot.round ≡ e.0.round = ap (λ (s : Slot). s.round) (exact_slots slot e.0 (is_equal _ t)) in
    absurd (omega (arith, ltb-true _ _ l, leb-true _ _ w))
one_entry round e slot kept all true true false t l w h = ap (λ b. cond b (Some e.1) (digest_at kept slot)) t
one_entry round e slot kept all true false true t l w h = h
one_entry round e slot kept all true false false t l w h =
    let same : slot.round ≡ e.0.round = ap (λ (s : Slot). s.round) (exact_slots slot e.0 (is_equal _ t)) in
    absurd (omega (arith, ltb-false _ _ l, leb-false _ _ w))
one_entry round e slot kept all false true low t l w h = ap (λ b. cond b (Some e.1) (digest_at kept slot)) t ∙ h
one_entry round e slot kept all false false low t l w h = h

-- the entries above a round have what was there above it, and nothing else
pub digest_at-filter : (round : ℕ) (entries : List (Slot × Digest)) (slot : Slot) → digest_at (filter (λ e. nat_lt round e.0.round) entries) slot
    ≡ cond (nat_le slot.round round) None (digest_at entries slot)
digest_at-filter round [] slot = elim (nat_le slot.round round) as (λ b. ◌≡◌ {A = Option Digest} None (cond b None None)) [ true ↦ refl | false ↦ refl ]
digest_at-filter round (e ∷ rest) slot =
    one_entry round e slot (filter (λ f. nat_lt round f.0.round) rest) rest _ _ _ refl refl refl (digest_at-filter round rest slot)
