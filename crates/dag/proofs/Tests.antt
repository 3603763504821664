-- Tests that pass alike.
use Rattle.std.proofs.Common.{◌≡◌, ℕ, Bool, true, false, List, [], ◌∷◌, inl, inr, refl, ap, sym, ◌∙◌, arith}
use Rattle.std.specs.Prelude.{Contains}
use Rattle.std.specs.List.{list_any}
use Rattle.std.specs.Str.{bytes_eq}
use Rattle.std.proofs.lemmas.Bool.{cases_Bool}
use Rattle.std.proofs.lemmas.Slice.Eq.{bytes_eq-Decides}
use Rattle.spec_model.specs.Slots.{same_digest}
use Rattle.spec_model.specs.Words.{Digest}
use Rattle.spec_laws.proofs.Proposed.{same_bytes}
use Rattle.spec_laws.proofs.Lists.{Contains-nothing, Contains-cases}

-- two tests of which each passes where the other does
pub same_test : (one other : Bool) → (one ≡ true → other ≡ true) → (other ≡ true → one ≡ true) → one ≡ other
same_test true other there back = sym (there refl)
same_test false true there back = back refl
same_test false false there back = refl

-- where an element passes, some element does
pub any_from : {X : Type 0} (test : X → Bool) (xs : List X) (x : X) → Contains xs x → test x ≡ true → list_any test xs ≡ true
any_from test [] x inside passes = absurd (Contains-nothing x inside)
any_from test (y ∷ xs) x inside passes =
    elim (Contains-cases y xs x inside) [
      | inl same ↦ let here : test y ≡ true = ap test same ∙ passes in rw here refl
      | inr rest ↦ let later = any_from test xs x rest passes in elim (cases_Bool (test y)) [ inl here ↦ rw here refl | inr other ↦ rw other later ]
    ]

-- digests that are the same have the same bytes
same_digest_is : (one other : Digest) → same_digest one other ≡ true → one.0 ≡ other.0
same_digest_is one other same = grind (arith, same, bytes_eq-Decides)

-- two digests are the same both ways
pub same_digest_sym : (one other : Digest) → same_digest one other ≡ true → same_digest other one ≡ true
same_digest_sym one other same = ap (λ (bytes : List ℕ). bytes_eq other.0 bytes) (same_digest_is one other same) ∙ same_bytes other.0
