-- Lists, and what is found in them.
use Rattle.std.proofs.Common.{◌≡◌, Bool, true, List, [], ◌∷◌, ◌++◌, Option, Some, None, ◌⊎◌, inl, inr, refl, ap, sym, ◌∙◌, subst, arith}
use Rattle.std.specs.Prelude.{find, Contains}
use Rattle.std.specs.List.{filter_map, cons_option}
use Rattle.std.specs.Option.{option_or, option_to_list}
use Rattle.std.proofs.lemmas.Bool.{cases_Bool, true≢false}
use Rattle.std.proofs.lemmas.Option.{same_Some}
use Rattle.std.proofs.lemmas.List.Elements.{filter_map-append, Contains-append_cases, Contains-append_left, Contains-append_right, Contains-push_cases, Contains-push}
use Rattle.std.proofs.lemmas.List.Folds.{find-append}

-- a thing is there or not
pub given_or_none : {X : Type 0} (o : Option X) → ((x : X) × (o ≡ Some x)) ⊎ (o ≡ None)
given_or_none (Some x) = inl (x, refl)
given_or_none None = inr refl

-- what is made of a list with one more at its end
pub filter_map-push : {X Y : Type 0} (make : X → Option Y) (xs : List X) (x : X) → filter_map make (xs ++ x ∷ []) ≡ filter_map make xs ++ option_to_list (make x)
filter_map-push make xs x =
    filter_map-append make xs (x ∷ [])
    ∙ ap (λ l. filter_map make xs ++ l) (elim (make x) as (λ o. cons_option o [] ≡ option_to_list o) [ Some y ↦ refl | None ↦ refl ])

-- what is found in what is made of a list with one more at its end
pub found-push : {X Y : Type 0} (make : X → Option Y) (test : Y → Bool) (xs : List X) (x : X) → find test (filter_map make (xs ++ x ∷ []))
    ≡ option_or (find test (filter_map make xs)) (find test (option_to_list (make x)))
found-push make test xs x = ap (find test) (filter_map-push make xs x) ∙ find-append test (filter_map make xs) (option_to_list (make x))

-- an element of a list is its first one or one of the others
pub Contains-nothing : {X : Type 0} (x : X) → Contains [] x → ⊥
Contains-nothing x inside = omega (arith, inside.1)

pub Contains-cases : {X : Type 0} (y : X) (xs : List X) (x : X) → Contains (y ∷ xs) x → (y ≡ x) ⊎ Contains xs x
Contains-cases y xs x inside =
    elim (Contains-append_cases (y ∷ []) xs x inside) [
      | inl first ↦ elim (Contains-push_cases [] y x first) [ inl none ↦ absurd (Contains-nothing x none) | inr same ↦ inl same ]
      | inr rest ↦ inr rest
    ]

pub Contains-first : {X : Type 0} (xs : List X) (x : X) → Contains (x ∷ xs) x
Contains-first xs x = Contains-append_left (x ∷ []) xs x (Contains-push [] x)

pub Contains-later : {X : Type 0} (y : X) (xs : List X) (x : X) → Contains xs x → Contains (y ∷ xs) x
Contains-later y xs x inside = Contains-append_right (y ∷ []) xs x inside

-- where an element passes, something is found
pub nothing_found : {X : Type 0} (test : X → Bool) (xs : List X) (x : X) → find test xs ≡ None → Contains xs x → test x ≡ true → ⊥
nothing_found test [] x none inside passes = Contains-nothing x inside
nothing_found test (y ∷ xs) x none inside passes =
    elim (cases_Bool (test y)) [
      | inl here ↦ let bad = rw here at none in absurd cc
      | inr here ↦ elim (Contains-cases y xs x inside) [
        | inl same ↦ absurd (true≢false (sym passes ∙ ap test (sym same) ∙ here))
        | inr rest ↦ let later = rw here at none in nothing_found test xs x later rest passes
      ]
    ]

-- what is found passes, and is of the list
pub found_passes : {X : Type 0} (test : X → Bool) (xs : List X) (x : X) → find test xs ≡ Some x → (test x ≡ true) × Contains xs x
found_passes test [] x found = absurd cc
found_passes test (y ∷ xs) x found =
    elim (cases_Bool (test y)) [
      | inl here ↦
          let is = rw here at found in
          let same : y ≡ x = same_Some y x is in
          (ap test (sym same) ∙ here, subst (λ z. Contains (y ∷ xs) z) same (Contains-first xs y))
      | inr here ↦
          let is = rw here at found in
          let rest = found_passes test xs x is in
          (rest.0, Contains-later y xs x rest.1)
    ]

-- what is made of a list is made of an element of it, and the converse
pub Contains-made : {X Y : Type 0} (make : X → Option Y) (xs : List X) (y : Y) → Contains (filter_map make xs) y → (x : X) × Contains xs x × (make x ≡ Some y)
Contains-made make [] y inside = absurd (Contains-nothing y inside)
Contains-made make (x ∷ xs) y inside =
    elim (given_or_none (make x)) [
      | inl made ↦
          let inside' = rw made.1 at inside in
          elim (Contains-cases made.0 (filter_map make xs) y inside') [
            | inl same ↦ (x, Contains-first xs x, made.1 ∙ ap (λ z. Some z) same)
            | inr rest ↦ let found = Contains-made make xs y rest in (found.0, Contains-later x xs found.0 found.1, found.2)
          ]
      | inr none ↦
          let inside' = rw none at inside in
          let found = Contains-made make xs y inside' in (found.0, Contains-later x xs found.0 found.1, found.2)
    ]

pub Contains-makes : {X Y : Type 0} (make : X → Option Y) (xs : List X) (x : X) (y : Y) → Contains xs x → make x ≡ Some y → Contains (filter_map make xs) y
Contains-makes make [] x y inside made = absurd (Contains-nothing x inside)
Contains-makes make (z ∷ xs) x y inside made =
    elim (Contains-cases z xs x inside) [
      | inl same ↦ let here = ap make same ∙ made in rw here (Contains-first (filter_map make xs) y)
      | inr rest ↦
          let later = Contains-makes make xs x y rest made in
          elim (given_or_none (make z)) [
            | inl other ↦ rw other.1 (Contains-later other.0 (filter_map make xs) y later)
            | inr none ↦ rw none later
          ]
    ]
