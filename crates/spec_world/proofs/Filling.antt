-- The group that a flush settles: nothing, or a beginning of what is pending that fits.
use Rattle.std.proofs.Common.{◌≡◌, ◌⊎◌, ℕ, true, inl, inr, List, [], ◌∷◌, ◌++◌, length, map, refl, sym, ap, ◌∙◌, subst, append_assoc, append-nil}
use Rattle.std.specs.Prelude.{nat_le}
use Rattle.std.proofs.lemmas.Bool.{cases_Bool, and_parts, leb-true}
use Rattle.journal.specs.Format.{FitsGroup, body_len}
use Rattle.journal.specs.declared.layout.TheConstants.{MAX_GROUP_BYTES, MAX_GROUP_RECORDS}
use Rattle.spec_model.specs.Histories.{History}
use Rattle.spec_model.specs.Words.{Event}
use Rattle.spec_records.specs.Records.{record_of}
use Rattle.spec_world.specs.Text.{fits_group, filled, group_of}

pub true_fits : (records : List (List ℕ)) → fits_group records ≡ true → FitsGroup records
true_fits records so =
    let first = and_parts (nat_le 1 (length records)) _ so in
    let second = and_parts (nat_le (length records) MAX_GROUP_RECORDS) _ first.1 in
    record {
      some = leb-true 1 (length records) first.0;
      not_many = leb-true (length records) MAX_GROUP_RECORDS second.0;
      not_long = leb-true (body_len records) MAX_GROUP_BYTES second.1;
    }

-- a group is filled with a beginning of events, and fits if it is longer
pub record IsFilled (group events filling : History) : Type 0 where
  pub more : History
  pub rest : History
  pub parts : events ≡ more ++ rest
  pub is : filling ≡ group ++ more
  pub fits : (more ≡ []) ⊎ FitsGroup (map record_of (group ++ more))

-- with nothing
as_it_is : (group events : History) → IsFilled group events group
as_it_is group events = record { more = []; rest = events; parts = refl; is = sym (append-nil group); fits = inl refl }

-- with an event, and then more of them
with_event : (group : History) (event : Event) (events filling : History) → FitsGroup (map record_of (group ++ event ∷ []))
    → IsFilled (group ++ event ∷ []) events filling → IsFilled group (event ∷ events) filling
with_event group event events filling fits is = record {
  more = event ∷ is.more;
  rest = is.rest;
  parts = ap (λ (l : History). event ∷ l) is.parts;
  is = is.is ∙ joined;
  fits = elim is.fits [
    | inl none ↦ inr (subst (λ (l : History). FitsGroup (map record_of (group ++ event ∷ l))) (sym none) fits)
    | inr longer ↦ inr (subst (λ (l : History). FitsGroup (map record_of l)) joined longer)
  ];
}
  where
    joined : (group ++ event ∷ []) ++ is.more ≡ group ++ event ∷ is.more
    joined = append_assoc group (event ∷ []) is.more

fill : (group events : History) → IsFilled group events (filled group events)
unfolding filled
fill group [] = as_it_is group []
fill group (event ∷ events) =
    elim (cases_Bool (fits_group (map record_of (group ++ event ∷ [])))) [
      | inl so ↦ rw so (with_event group event events (filled (group ++ event ∷ []) events) (true_fits (map record_of (group ++ event ∷ [])) so) (fill (group ++ event ∷ []) events))
      | inr off ↦ rw off (as_it_is group (event ∷ events))
    ]

-- the group of events is none, or a beginning of them that fits
pub record IsGroup (events group : History) : Type 0 where
  pub rest : History
  pub parts : events ≡ group ++ rest
  pub fits : (group ≡ []) ⊎ FitsGroup (map record_of group)

pub group_fits : (events : History) → IsGroup events (group_of events)
group_fits events =
    let is = fill [] events in
    subst (IsGroup events) (sym is.is) (record { rest = is.rest; parts = is.parts; fits = is.fits })
