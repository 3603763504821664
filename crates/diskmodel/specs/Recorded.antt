-- What a call does to the record of a disk in memory.
use Rattle.std.specs.Prelude.{◌≡◌, ◌⊎◌, ℕ, List, [], ◌∷◌, ◌++◌}
use Rattle.diskmodel.specs.declared.call.Call.{Call}
use Rattle.diskmodel.specs.declared.call.Call.TheVariants.{Stopped}
use Rattle.diskmodel.specs.Kept.{ReplacesStop}
use Rattle.diskmodel.specs.declared.history.History.{History}

-- this call was added at the end of the disk's record
pub record Adds (call : Call) (old new : History) : Type 0 where
  pub first : new.first.items ≡ old.first.items
  pub calls : new.calls.items ≡ old.calls.items ++ call ∷ []

-- the disk's record, and what a read gives, are as before
pub record IsAsBefore (old new : History) : Type 0 where
  pub first : new.first.items ≡ old.first.items
  pub calls : new.calls.items ≡ old.calls.items
  pub content : new.content.items ≡ old.content.items

-- this stop was added at the end of the disk's record; if the last call was a stop, it took the place of that
pub record TakesStop (found : List ℕ) (old new : History) : Type 0 where
  pub first : new.first.items ≡ old.first.items
  pub calls : (new.calls.items ≡ old.calls.items ++ Stopped found ∷ []) ⊎ ReplacesStop found old.calls.items new.calls.items
