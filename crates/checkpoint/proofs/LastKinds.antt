-- The last kind of what was read.
use Rattle.std.proofs.Common.{◌≡◌, ℕ, ◌<◌, List, [], ◌∷◌, length, refl, arith}
use Rattle.spec_checkpoint.specs.Reading.{kind_or}

-- where there is something of a kind, and where there is nothing
pub kind_or-some : {X : Type 0} (kind : ℕ) (list : List X) (before : ℕ) → 0 < length list → kind_or kind list before ≡ kind
kind_or-some kind [] before some = absurd (omega (arith, some))
kind_or-some kind (x ∷ list) before some = refl

pub kind_or-none : {X : Type 0} (kind : ℕ) (list : List X) (before : ℕ) → length list ≡ 0 → kind_or kind list before ≡ before
kind_or-none kind [] before none = refl
kind_or-none kind (x ∷ list) before none = absurd (omega (arith, none))

pub ruleset kinds = (kind_or-some, kind_or-none)
