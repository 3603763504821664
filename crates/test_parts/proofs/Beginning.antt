-- What the beginning of a list is, and the test of it.
use Rattle.std.proofs.Common.{◌≡◌, Bool, List, length, drop}
use Rattle.std.specs.Bool.{Decides}
use Rattle.std.specs.List.{starts_with}
use Rattle.std.proofs.lemmas.Slice.Eq.{starts_is}
use Rattle.wire.specs.Lists.{Begins}

pub begins : {X : Type 0} {same : X → X → Bool} → ((a b : X) → Decides (same a b) (a ≡ b)) → (one other : List X) (found : Bool)
    → found ≡ starts_with same other one → Decides found (Begins one other)
begins decides one other found is =
    let reported = starts_is decides other one found is in
    ((λ yes. record { rest = drop (length one) other; parts = reported.0 yes }), λ b. reported.1 b.rest b.parts)
