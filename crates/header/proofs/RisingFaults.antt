-- The faults of lists that should rise.
use Rattle.std.proofs.Common.{◌≡◌, ℕ, Bool, true, false, List, [], ◌∷◌, ◌++◌, Some, refl}
use Rattle.std.specs.Prelude.{◌&&◌, not, nat_lt}
use Rattle.wire.specs.Rising.{rises, follows}
use Rattle.wire.specs.declared.error.WireError.TheVariants.{NotCanonical, TooMany}
use Rattle.header.specs.Making.{list_fault}

and-fails : (a b : Bool) → b ≡ false → (a && b) ≡ false
and-fails true b h = h
and-fails false b h = refl

-- a list doesn't rise in which something may not follow what comes before it
pub rises-not : {X : Type 0} (below : X → X → Bool) (front : List X) (x : X) (rest : List X) → follows (λ a. below a x) front ≡ false → rises below (front ++ x ∷ rest) ≡ false
rises-not below [] x rest h = absurd cc
rises-not below (y ∷ []) x rest h = rw h refl
rises-not below (y ∷ z ∷ front) x rest h = and-fails (below y z) (rises below (z ∷ (front ++ x ∷ rest))) (rises-not below (z ∷ front) x rest h)

pub too-many : (limit count : ℕ) (rises : Bool) → nat_lt limit count ≡ true → list_fault limit count rises ≡ Some TooMany
too-many limit count rises h = rw h refl

pub not-rising : (limit count : ℕ) (rises : Bool) → nat_lt limit count ≡ false → rises ≡ false → list_fault limit count rises ≡ Some NotCanonical
not-rising limit count rises few h = rw few (rw h refl)
