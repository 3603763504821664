-- Strictly ascending lists that have no more entries than a limit.
use Rattle.std.specs.Prelude.{ℕ, ◌≤◌, All, IsTrue, Bool, true, ◌&&◌, List, [], ◌∷◌, length}

-- each element of the list comes before the next one
abbrev pub rises : {X : Type 0} → (X → X → Bool) → List X → Bool
rises below [] = true
rises below (x ∷ []) = true
rises below (x ∷ y ∷ rest) = below x y && rises below (y ∷ rest)

-- an element may be added to a list: its last element, if there is one, comes before the new one
abbrev pub follows : {X : Type 0} → (X → Bool) → List X → Bool
follows before [] = true
follows before (x ∷ []) = before x
follows before (x ∷ y ∷ rest) = follows before (y ∷ rest)

-- a list of at most `limit` entries, each of which `Fits`, in strictly ascending order
pub record AreEntries {X : Type 0} (limit : ℕ) (Fits : X → Type 0) (before : X → X → Bool) (entries : List X) : Type 0 where
  pub few : length entries ≤ limit
  pub each : All Fits entries
  pub rise : IsTrue (rises before entries)
