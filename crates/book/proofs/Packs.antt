-- Groups that are packed.
use Rattle.std.proofs.Common.{◌≡◌, ◌≢◌, inl, inr, ℕ, ◌+◌, ◌≤◌, List, [], ◌∷◌, ◌++◌, length, refl, sym, ap, ◌∙◌, subst, arith, append_assoc, append-nil, length-append}
use Rattle.std.specs.Prelude.{get_or, drop, ◌<◌, Bool, IsTrue, ◌↔◌, Result, Ok, Err, OnOk, OnErr}
use Rattle.std.proofs.Math.Dec.{eqb}
use Rattle.std.proofs.lemmas.Bool.{eqb-true, eq-eqb}
use Rattle.std.proofs.lemmas.List.{nil_from_length}
use Rattle.journal.specs.Format.{FitsGroup}
use Rattle.std.proofs.lemmas.List.Sums.{sum_by-append}
use Rattle.book.specs.Pending.{ArePacked, IsFullBefore, IsLongestBeginning, all_records, HasRoom, HasNoRoom}

-- ---- at the front

-- the first one fits, and the others are packed
pub first_fits : (group : List (List ℕ)) (others : List (List (List ℕ))) → ArePacked (group ∷ others) → FitsGroup group
first_fits group [] packed = packed
first_fits group (next ∷ others) packed = packed.0

pub others_packed : (group : List (List ℕ)) (others : List (List (List ℕ))) → ArePacked (group ∷ others) → ArePacked others
others_packed group [] packed = tt
others_packed group (next ∷ others) packed = packed.2

-- and it is the longest beginning of all their records
pub first_is_longest : (group : List (List ℕ)) (others : List (List (List ℕ))) → ArePacked (group ∷ others) → IsLongestBeginning (all_records (group ∷ others)) group (all_records others)
first_is_longest group others packed = record { parts = refl; fits = first_fits group others packed; longest = stops group others packed }
  where
    stops : (group : List (List ℕ)) (others : List (List (List ℕ))) → ArePacked (group ∷ others) → (next : List ℕ) (rest : List (List ℕ))
        → all_records others ≡ next ∷ rest → FitsGroup (group ++ next ∷ []) → ⊥
    stops group [] packed next rest same fits = absurd (omega (arith, ap length same))
    stops group ([] ∷ others) packed next rest same fits = absurd packed.1
    stops group ((first ∷ more) ∷ others) packed next rest same fits =
        let is : first ≡ next = ap (λ l. get_or l 0 first) same in
        packed.1 (subst (λ r. FitsGroup (group ++ r ∷ [])) (sym is) fits)

-- ---- at the end

-- without the last one
pub packed_before : (front : List (List (List ℕ))) (last : List (List ℕ)) → ArePacked (front ++ last ∷ []) → ArePacked front
packed_before [] last packed = tt
packed_before (group ∷ []) last packed = packed.0
packed_before (group ∷ next ∷ others) last packed = (packed.0, packed.1, packed_before (next ∷ others) last packed.2)

pub last_fits : (front : List (List (List ℕ))) (last : List (List ℕ)) → ArePacked (front ++ last ∷ []) → FitsGroup last
last_fits [] last packed = packed
last_fits (group ∷ []) last packed = packed.2
last_fits (group ∷ next ∷ others) last packed = last_fits (next ∷ others) last packed.2

-- another one in its place that begins with the same record
full_still : (group last other : List (List ℕ)) → (first : List ℕ) (one also : List (List ℕ)) → last ≡ first ∷ one → other ≡ first ∷ also → IsFullBefore group last → IsFullBefore group other
full_still group last other first one also is same full = subst (IsFullBefore group) (sym same) (subst (IsFullBefore group) is full)

pub packed_with : (front : List (List (List ℕ))) (last other : List (List ℕ)) (first : List ℕ) (one also : List (List ℕ)) → last ≡ first ∷ one → other ≡ first ∷ also → FitsGroup other
    → ArePacked (front ++ last ∷ []) → ArePacked (front ++ other ∷ [])
packed_with [] last other first one also is same fits packed = fits
packed_with (group ∷ []) last other first one also is same fits packed = (packed.0, full_still group last other first one also is same packed.1, fits)
packed_with (group ∷ next ∷ others) last other first one also is same fits packed = (packed.0, packed.1, packed_with (next ∷ others) last other first one also is same fits packed.2)

-- one more after the last, which could not take its record
pub packed_more : (front : List (List (List ℕ))) (last : List (List ℕ)) (next : List ℕ) → ArePacked (front ++ last ∷ []) → (FitsGroup (last ++ next ∷ []) → ⊥) → FitsGroup (next ∷ [])
    → ArePacked ((front ++ last ∷ []) ++ (next ∷ []) ∷ [])
packed_more [] last next packed full fits = (packed, full, fits)
packed_more (group ∷ []) last next packed full fits = (packed.0, packed.1, (packed.2, full, fits))
packed_more (group ∷ other ∷ others) last next packed full fits = (packed.0, packed.1, packed_more (other ∷ others) last next packed.2 full fits)

-- ---- records

-- those after the last group stand after all
pub records_after : (front : List (List (List ℕ))) (last : List (List ℕ)) → all_records (front ++ last ∷ []) ≡ all_records front ++ last
records_after [] last = append-nil last
records_after (group ∷ front) last = ap (λ l. group ++ l) (records_after front last) ∙ sym (append_assoc group (all_records front) last)

-- packed groups without a record are none
pub none_packed : (groups : List (List (List ℕ))) → ArePacked groups → all_records groups ≡ [] → groups ≡ []
none_packed [] packed none = refl
none_packed ([] ∷ others) packed none = absurd (omega (arith, (first_fits [] others packed).some))
none_packed ((first ∷ more) ∷ others) packed none = absurd (omega (arith, ap length none))

-- where two lists end with an element, so does the second of them, if it has any
pub ends_with : {X : Type 0} (a b others : List X) (last : X) → a ++ b ≡ others ++ last ∷ [] → 0 < length b → (x : List X) × (b ≡ x ++ last ∷ []) × (others ≡ a ++ x)
ends_with [] b others last same some = (others, same, refl)
ends_with (y ∷ a) b [] last same some = absurd (omega (arith, ap length same, length-append a b, some))
ends_with (y ∷ a) b (o ∷ others) last same some =
    let first : y ≡ o = ap (λ l. get_or l 0 last) same in
    let deeper = ends_with a b others last (ap (drop 1) same) some in
    (deeper.0, deeper.1, (λ i. sym first i ∷ deeper.2 i))

-- ---- one record more, or less

-- the last group with one more record
pub put_last : (items front : List (List (List ℕ))) (last : List (List ℕ)) (bytes : List ℕ) → items ≡ front ++ last ∷ [] → FitsGroup (last ++ bytes ∷ []) → ArePacked items
    → ArePacked (front ++ (last ++ bytes ∷ []) ∷ [])
put_last items front [] bytes parts fits packed = absurd (omega (arith, (last_fits front [] (subst ArePacked parts packed)).some))
put_last items front (first ∷ one) bytes parts fits packed =
    packed_with front (first ∷ one) ((first ∷ one) ++ bytes ∷ []) first one (one ++ bytes ∷ []) refl refl fits (subst ArePacked parts packed)

pub put_last_records : (items front : List (List (List ℕ))) (last : List (List ℕ)) (bytes : List ℕ) → items ≡ front ++ last ∷ []
    → all_records (front ++ (last ++ bytes ∷ []) ∷ []) ≡ all_records items ++ bytes ∷ []
put_last_records items front last bytes parts =
    records_after front (last ++ bytes ∷ []) ∙ sym (append_assoc (all_records front) last (bytes ∷ [])) ∙ ap (λ l. l ++ bytes ∷ []) (sym (records_after front last) ∙ ap all_records (sym parts))

-- a group of its own for one more record
pub put_next : (items : List (List (List ℕ))) (bytes : List ℕ) → HasNoRoom items (length bytes) → FitsGroup (bytes ∷ []) → ArePacked items → ArePacked (items ++ (bytes ∷ []) ∷ [])
put_next items bytes (inl none) fits packed = subst (λ l. ArePacked (l ++ (bytes ∷ []) ∷ [])) (sym none) fits
put_next items bytes (inr full) fits packed =
    subst (λ l. ArePacked (l ++ (bytes ∷ []) ∷ [])) (sym full.2) (packed_more full.0 full.1 bytes (subst ArePacked full.2 packed) (full.3 bytes refl) fits)

-- a record that fits a group alone
pub one_fits : (bytes : List ℕ) → 4 + length bytes ≤ 4194304 → FitsGroup (bytes ∷ [])
one_fits bytes short = record { some = omega arith; not_many = omega arith; not_long = omega (arith, short) }

-- fewer records of a group fit one
fewer_still : (x : List (List ℕ)) (last : List ℕ) → 1 ≤ length x → FitsGroup (x ++ last ∷ []) → FitsGroup x
fewer_still x last some fits = record {
  some = some;
  not_many = omega (arith, fits.not_many, length-append x (last ∷ []));
  not_long = omega (arith, fits.not_long, sum_by-append (λ (b : List ℕ). 4 + length b) x (last ∷ []));
}

-- the last group without its last record, if it has another one
pub back_packed : (items front : List (List (List ℕ))) (group x : List (List ℕ)) (last : List ℕ) → items ≡ front ++ group ∷ [] → group ≡ x ++ last ∷ [] → x ≢ [] → ArePacked items
    → ArePacked (front ++ x ∷ [])
back_packed items front group [] last parts is some packed = absurd (some refl)
back_packed items front group (first ∷ one) last parts is some packed =
    let there : ArePacked (front ++ group ∷ []) = subst ArePacked parts packed in
    let fits : FitsGroup ((first ∷ one) ++ last ∷ []) = subst FitsGroup is (last_fits front group there) in
    packed_with front group (first ∷ one) first (one ++ last ∷ []) one is refl (fewer_still (first ∷ one) last (omega arith) fits) there

-- whose records end with this one: those of its last group do
pub ends_in_last : (items front : List (List (List ℕ))) (group others : List (List ℕ)) (last : List ℕ) → items ≡ front ++ group ∷ [] → ArePacked items → all_records items ≡ others ++ last ∷ []
    → (x : List (List ℕ)) × (group ≡ x ++ last ∷ []) × (others ≡ all_records front ++ x)
ends_in_last items front group others last parts packed same =
    let fits = last_fits front group (subst ArePacked parts packed) in
    ends_with (all_records front) group others last (sym (records_after front group) ∙ ap all_records (sym parts) ∙ same) (omega (arith, fits.some))

-- whether there are no groups tells whether there are no records
pub empty_reports : (items : List (List (List ℕ))) (view : List (List ℕ)) (len : ℕ) (result : Bool) → len ≡ length items → result ≡ eqb len 0 → ArePacked items → all_records items ≡ view
    → (IsTrue result ↔ (view ≡ []))
empty_reports items view len result long is packed same = (
  λ yes. sym same ∙ ap all_records (nil_from_length items (sym long ∙ eqb-true len 0 (sym is ∙ yes))),
  λ none. is ∙ eq-eqb len 0 (long ∙ ap length (none_packed items packed (same ∙ none))),
)

-- ---- after a put

pub packed_in_last : {X E : Type 0} (r : Result X E) (items later : List (List (List ℕ))) (bytes : List ℕ) → HasRoom items (length bytes)
    → OnOk r ((front : List (List (List ℕ))) (last : List (List ℕ)) → items ≡ front ++ last ∷ [] → later ≡ front ++ (last ++ bytes ∷ []) ∷ [])
    → OnErr r (later ≡ items) → ArePacked items → ArePacked later
packed_in_last (Ok x) items later bytes room ok err packed = subst ArePacked (sym (ok room.0 room.1 room.2)) (put_last items room.0 room.1 bytes room.2 (room.3 bytes refl) packed)
packed_in_last (Err e) items later bytes room ok err packed = subst ArePacked (sym err) packed

pub records_in_last : {X E : Type 0} (r : Result X E) (items later : List (List (List ℕ))) (bytes : List ℕ) (view : List (List ℕ)) → HasRoom items (length bytes)
    → OnOk r ((front : List (List (List ℕ))) (last : List (List ℕ)) → items ≡ front ++ last ∷ [] → later ≡ front ++ (last ++ bytes ∷ []) ∷ [])
    → all_records items ≡ view → OnOk r (all_records later ≡ view ++ bytes ∷ [])
records_in_last (Ok x) items later bytes view room ok is = ap all_records (ok room.0 room.1 room.2) ∙ put_last_records items room.0 room.1 bytes room.2 ∙ ap (λ l. l ++ bytes ∷ []) is
records_in_last (Err e) items later bytes view room ok is = tt

pub packed_after : {X E : Type 0} (r : Result X E) (items later : List (List (List ℕ))) (bytes : List ℕ) → HasNoRoom items (length bytes) → FitsGroup (bytes ∷ [])
    → OnOk r (later ≡ items ++ (bytes ∷ []) ∷ []) → OnErr r (later ≡ items) → ArePacked items → ArePacked later
packed_after (Ok x) items later bytes none fits ok err packed = subst ArePacked (sym ok) (put_next items bytes none fits packed)
packed_after (Err e) items later bytes none fits ok err packed = subst ArePacked (sym err) packed

pub records_at_end : {X E : Type 0} (r : Result X E) (items later : List (List (List ℕ))) (bytes : List ℕ) (view : List (List ℕ))
    → OnOk r (later ≡ items ++ (bytes ∷ []) ∷ []) → all_records items ≡ view
    → OnOk r (all_records later ≡ view ++ bytes ∷ [])
records_at_end (Ok x) items later bytes view ok is = ap all_records ok ∙ records_after items (bytes ∷ []) ∙ ap (λ l. l ++ bytes ∷ []) is
records_at_end (Err e) items later bytes view ok is = tt
