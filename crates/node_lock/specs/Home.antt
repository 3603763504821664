-- The invariant of a lock, and what each of its steps shows.
use Rattle.std.specs.Prelude.{◌≡◌, ◌≢◌, ℕ, List, [], ◌∷◌, Option, Some, MatchBool, ◌==◌}
use mathlib.Core.Option as slot
use Rattle.atomic_table.specs.Table.{State, Me, rest}

module _ {T : Type 0} where
  -- the lock itself has its value (no thread has taken it), and the value meets `fits`
  abbrev pub IsHome : (T → Type 0) → List (slot.Option (Option T)) → Type 0
  IsHome fits homes = (value : T) × (homes ≡ slot.some (Some value) ∷ []) × fits value

module _ {T V : Type 0} where
  -- A lock has one word. If it is 0, the lock itself has its value, which meets `fits`; otherwise some thread has taken it
  pub record IsKept (fits : T → Type 0) (state : State (Option T) V) : Type 0 where
    pub word : ℕ
    pub words : state.words ≡ word ∷ []
    pub home : word ≡ 0 → IsHome fits state.homes
    pub out : word ≢ 0 → state.homes ≡ slot.none ∷ []

  -- a thread has taken the value, and knows `known` of it
  abbrev pub Holds : (T → Type 0) → Me (Option T) V → Type 0
  Holds known me = (value : T) × (me.1 ≡ (0, Some value) ∷ []) × known value

  -- if the word was 0 the thread has now taken the value; otherwise the thread has what it had before
  abbrev pub Takes : (T → Type 0) → ℕ → Me (Option T) V → Me (Option T) V → Type 0
  Takes known found before after = MatchBool (found == 0) (Holds known after) (after.1 ≡ before.1)

  -- the thread has what it had before, without the value that it took last
  abbrev pub Gives : Me (Option T) V → Me (Option T) V → Type 0
  Gives before after = after.1 ≡ rest before.1
