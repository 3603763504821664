-- In a list that rises strictly an element is found by its key.
use Rattle.std.proofs.Common.{◌≡◌, Bool, true, false, inl, inr, List, [], ◌∷◌, refl, ap, ◌∙◌, subst}
use Rattle.std.specs.Prelude.{find, Contains, Some}
use Rattle.std.proofs.lemmas.Bool.{and_parts}
use Rattle.spec_laws.proofs.Lists.{Contains-nothing, Contains-cases}
use Rattle.wire.specs.Rising.{rises}

module _ {X : Type 0} (before : X → X → Bool) (through : (x y z : X) → before x y ≡ true → before y z ≡ true → before x z ≡ true) where
  rest_rises : (x : X) (xs : List X) → rises before (x ∷ xs) ≡ true → rises before xs ≡ true
  rest_rises x [] is = refl
  rest_rises x (y ∷ xs) is = (and_parts (before x y) (rises before (y ∷ xs)) is).1

  -- the first comes before each later one
  first_before : (x : X) (xs : List X) → rises before (x ∷ xs) ≡ true → (y : X) → Contains xs y → before x y ≡ true
  first_before x [] is y inside = absurd (Contains-nothing y inside)
  first_before x (z ∷ xs) is y inside =
      let parts = and_parts (before x z) (rises before (z ∷ xs)) is in
      elim (Contains-cases z xs y inside) [
        | inl same ↦ subst (λ w. before x w ≡ true) same parts.0
        | inr later ↦ through x z y parts.0 (first_before z xs parts.1 y later)
      ]

  -- an element is what its own test finds, where one that comes before it doesn't pass that
  pub found_itself : (test : X → Bool) (xs : List X) (x : X) → rises before xs ≡ true → Contains xs x → test x ≡ true → ((y : X) → before y x ≡ true → test y ≡ false) → find test xs ≡ Some x
  found_itself test [] x is inside passes apart = absurd (Contains-nothing x inside)
  found_itself test (y ∷ xs) x is inside passes apart = elim (Contains-cases y xs x inside) [
    | inl same ↦ (let here : test y ≡ true = ap test same ∙ passes in rw here (ap (λ z. Some z) same))
    | inr later ↦ (let off = apart y (first_before y xs is x later) in rw off (found_itself test xs x (rest_rises y xs is) later passes apart))
  ]
