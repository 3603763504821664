-- What a refused growth leaves to show: an answer is held to what it says where its error is another.
use Rattle.std.proofs.Common.{◌≡◌, ◌≢◌, IfOk, IfErr, Ok, Err}
use Rattle.std.specs.Prelude.{IsErrAnd, Result}
use Rattle.committee.specs.declared.error.CommitteeError.{CommitteeError}
use Rattle.committee.specs.declared.error.CommitteeError.TheVariants.{Memory}

module _ {X : Type 0} where
  -- it is no value
  pub no_value : (r : Result X CommitteeError) (P : X → Type 0) → IsErrAnd r (λ e. e ≡ Memory) → IfOk r P
  no_value (Ok x) P h = absurd h
  no_value (Err e) P h = tt

  -- it is no other error
  pub no_other : (r : Result X CommitteeError) (P : CommitteeError → Type 0) → IsErrAnd r (λ e. e ≡ Memory) → IfErr r (λ e. e ≢ Memory → P e)
  no_other (Ok x) P h = tt
  no_other (Err e) P h = λ other. absurd (other h)
