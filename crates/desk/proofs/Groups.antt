-- The group that a round takes: the longest beginning that fits.
use Rattle.std.proofs.Common.{◌≡◌, ℕ, ◌+◌, ◌≤◌, Bool, true, false, cond, inl, inr, List, [], ◌∷◌, ◌++◌, length, take, map, refl, sym, ap, ◌∙◌, subst}
use Rattle.std.proofs.Common.{arith, append_assoc, append-nil, length-append, length-take}
use Rattle.std.specs.Prelude.{nat_le, get_or, drop}
use Rattle.std.proofs.lemmas.Bool.{cases_Bool, and_from, le-leb}
use Rattle.std.proofs.lemmas.List.{map-append, length-map}
use Rattle.std.proofs.lemmas.List.Sums.{sum_by-append}
use Rattle.book.specs.Pending.{IsLongestBeginning}
use Rattle.journal.specs.Format.{FitsGroup, body_len}
use Rattle.journal.specs.declared.layout.TheConstants.{LENGTH_BYTES, MAX_GROUP_BYTES, MAX_GROUP_RECORDS}
use Rattle.spec_model.specs.Histories.{History}
use Rattle.spec_model.specs.Words.{Event}
use Rattle.spec_records.specs.Records.{record_of}
use Rattle.spec_world.specs.Text.{fits_group, filled, group_of}
use Rattle.spec_world.proofs.Filling.{true_fits}

fits_true : (records : List (List ℕ)) → FitsGroup records → fits_group records ≡ true
fits_true records fits =
    and_from (nat_le 1 (length records)) _ (le-leb 1 (length records) fits.some)
    (and_from (nat_le (length records) MAX_GROUP_RECORDS) _ (le-leb (length records) MAX_GROUP_RECORDS fits.not_many) (le-leb (body_len records) MAX_GROUP_BYTES fits.not_long))

fits_false : (records : List (List ℕ)) → (FitsGroup records → ⊥) → fits_group records ≡ false
fits_false records none = elim (cases_Bool (fits_group records)) [ inl so ↦ absurd (none (true_fits records so)) | inr off ↦ off ]

-- a beginning of a group that has a record is one
fits_less : (one other : List (List ℕ)) → FitsGroup (one ++ other) → 1 ≤ length one → FitsGroup one
fits_less one other fits some =
    let long = length-append one other in
    let len = sum_by-append (λ (bytes : List ℕ). LENGTH_BYTES + length bytes) one other in
    record { some = some; not_many = omega (arith, fits.not_many, long); not_long = omega (arith, fits.not_long, len) }

fill_more : (group : History) (event : Event) (events : History) → fits_group (map record_of (group ++ event ∷ [])) ≡ true → filled group (event ∷ events) ≡ filled (group ++ event ∷ []) events
unfolding filled
fill_more group event events so = ap (λ (b : Bool). cond b (filled (group ++ event ∷ []) events) group) so

fill_no_more : (group : History) (event : Event) (events : History) → fits_group (map record_of (group ++ event ∷ [])) ≡ false → filled group (event ∷ events) ≡ group
unfolding filled
fill_no_more group event events off = ap (λ (b : Bool). cond b (filled (group ++ event ∷ []) events) group) off

fill_nil : (group : History) → filled group [] ≡ group
unfolding filled
fill_nil group = refl

record_push : (group : History) (event : Event) → map record_of (group ++ event ∷ []) ≡ map record_of group ++ record_of event ∷ []
record_push group event = map-append record_of group (event ∷ [])

-- a group goes on being filled with the records that are the longest beginning of what is left
filled_is : (group events : History) (more rest : List (List ℕ)) → map record_of events ≡ more ++ rest → (1 ≤ length more → FitsGroup (map record_of group ++ more))
    → ((next : List ℕ) (others : List (List ℕ)) → rest ≡ next ∷ others → FitsGroup (map record_of group ++ more ++ next ∷ []) → ⊥) → filled group events ≡ group ++ take (length more) events
filled_is group [] [] rest parts fits longest = fill_nil group ∙ sym (append-nil group)
filled_is group [] (bytes ∷ more) rest parts fits longest = absurd (omega (arith, ap length parts))
filled_is group (event ∷ events) [] rest parts fits longest =
    let none = λ (fitting : FitsGroup (map record_of (group ++ event ∷ []))).
    longest (record_of event) (map record_of events) (sym parts)
    (subst FitsGroup (record_push group event ∙ ap (λ (l : List (List ℕ)). l ++ record_of event ∷ []) (sym (append-nil (map record_of group)))) fitting) in
    fill_no_more group event events (fits_false (map record_of (group ++ event ∷ [])) none) ∙ sym (append-nil group)
filled_is group (event ∷ events) (bytes ∷ more) rest parts fits longest =
    let first : record_of event ≡ bytes = ap (λ (l : List (List ℕ)). get_or l 0 []) parts in
    let others : map record_of events ≡ more ++ rest = ap (λ (l : List (List ℕ)). drop 1 l) parts in
    let longer = group ++ event ∷ [] in
    let same : map record_of group ++ bytes ∷ more ≡ map record_of longer ++ more =
    sym (append_assoc (map record_of group) (bytes ∷ []) more) ∙ ap (λ (b : List ℕ). map record_of group ++ b ∷ [] ++ more) (sym first)
    ∙ ap (λ (l : List (List ℕ)). l ++ more) (sym (record_push group event)) in
    let fitting : FitsGroup (map record_of longer ++ more) = subst FitsGroup same (fits (omega arith)) in
    let some : 1 ≤ length (map record_of longer) = omega (arith, ap length (record_push group event), length-append (map record_of group) (record_of event ∷ [])) in
    fill_more group event events (fits_true (map record_of longer) (fits_less (map record_of longer) more fitting some))
    ∙ filled_is longer events more rest others (λ has. fitting)
    (λ next after is fit. longest next after is (subst (λ (l : List (List ℕ)). FitsGroup (l ++ next ∷ [])) (sym same) fit))
    ∙ append_assoc group (event ∷ []) (take (length more) events)

-- the longest beginning of records is the group of their events
pub group_is : (events : History) (group rest : List (List ℕ)) → IsLongestBeginning (map record_of events) group rest → group_of events ≡ take (length group) events
group_is events group rest longest = filled_is [] events group rest longest.parts (λ some. longest.fits) longest.longest

pub group_none : (events : History) → map record_of events ≡ [] → group_of events ≡ []
group_none [] none = fill_nil []
group_none (event ∷ events) none = absurd (omega (arith, ap length none))

-- two longest beginnings have one length
pub longest_once : (events : History) (group rest other after : List (List ℕ)) → IsLongestBeginning (map record_of events) group rest → IsLongestBeginning (map record_of events) other after
    → length group ≡ length other
longest_once events group rest other after one two =
    let same : take (length group) events ≡ take (length other) events = sym (group_is events group rest one) ∙ group_is events other after two in
    omega (
      arith,
      ap length same,
      length-take (length group) events,
      length-take (length other) events,
      ap length one.parts,
      ap length two.parts,
      length-append group rest,
      length-append other after,
      length-map events record_of,
    )
