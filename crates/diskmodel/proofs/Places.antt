-- What the test for a written place tells.
use Rattle.std.proofs.Common.{◌≡◌, ◌⊎◌, ℕ, ◌+◌, ◌<◌, ◌≤◌, false, ◌||◌, List, [], ◌∷◌, ◌++◌, ap, ◌∙◌, inl, inr, ⊎_elim, arith}
use Rattle.std.proofs.lemmas.Bool.{cases_lt}
use Rattle.std.proofs.lemmas.Bool.Decides.{leb_tells}
use Rattle.std.proofs.lemmas.List.Folds.{list_any-append}
use Rattle.std.proofs.Math.Bool.{or-false}
use Rattle.diskmodel.specs.declared.call.Span.{Span}
use Rattle.diskmodel.specs.Outcomes.{holds, is_written}

-- one row more at the end
pub is_written-push : (spans : List Span) (span : Span) (place : ℕ) → is_written (spans ++ span ∷ []) place ≡ (is_written spans place || holds span place)
is_written-push spans span place =
    list_any-append (λ (s : Span). holds s place) spans (span ∷ []) ∙ ap (λ b. is_written spans place || b) (or-false (holds span place))

-- a place that isn't in the row lies before or after it
pub outside : (at count place : ℕ) → holds (record { place = at; count = count }) place ≡ false → (place < at) ⊎ (at + count ≤ place)
outside at count place isnt = grind (arith, leb_tells)

pub outside_before : (at count place : ℕ) → place < at → holds (record { place = at; count = count }) place ≡ false
outside_before at count place before = grind (arith, leb_tells)

pub outside_after : (at count place : ℕ) → at + count ≤ place → holds (record { place = at; count = count }) place ≡ false
outside_after at count place after = grind (arith, leb_tells)

pub cases_le : (m n : ℕ) → (m ≤ n) ⊎ (n < m)
cases_le m n = ⊎_elim inr inl (cases_lt n m)
