-- What is written of a record, part by part.
use Rattle.std.proofs.Common.{◌≡◌, ℕ, List, ◌++◌, ap, ◌∙◌, append_assoc}
use Rattle.std.specs.Prelude.{Result, Ok, Err, OnOk, OnErr}

-- a front, and what comes after it
module _ {T E : Type 0} where
  pub whole_after : (r : Result T E) (old front middle last whole new : List ℕ) → middle ≡ old ++ front → front ++ last ≡ whole → OnOk r (new ≡ middle ++ last) → OnOk r (new ≡ old ++ whole)
  whole_after (Ok value) old front middle last whole new is whole_is written = written ∙ ap (λ (l : List ℕ). l ++ last) is ∙ append_assoc old front last ∙ ap (λ (l : List ℕ). old ++ l) whole_is
  whole_after (Err error) old front middle last whole new is whole_is written = tt

  pub part_after : (r : Result T E) (old front middle new : List ℕ) → middle ≡ old ++ front → OnErr r ((rest : List ℕ) × (new ≡ middle ++ rest)) → OnErr r ((rest : List ℕ) × (new ≡ old ++ rest))
  part_after (Ok value) old front middle new is kept = tt
  part_after (Err error) old front middle new is kept = (front ++ kept.0, kept.1 ∙ ap (λ (l : List ℕ). l ++ kept.0) is ∙ append_assoc old front kept.0)
