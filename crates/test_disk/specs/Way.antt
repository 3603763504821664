-- The groups of records that a book has in flight to its disk.
use Rattle.std.specs.Prelude.{ℕ, List}
use Rattle.book.specs.Book.{BookView}
use Rattle.book.specs.InFlight.{AreInFlight}
use Rattle.validator.specs.Setting.{node_of}
use Rattle.sigface.specs.Scheme.{Scheme}

-- the book, whose validator signs by this scheme, has exactly these groups of records in flight to the disk
abbrev pub HasInFlight : {S : Type 0} → Scheme S → BookView S → List (List (List ℕ)) → Type 0
HasInFlight scheme book groups = AreInFlight (node_of scheme book.validator.setting) book groups

-- each list of groups that the book had in flight before a call it still has in flight after the call
abbrev pub KeepsInFlight : {S : Type 0} → Scheme S → BookView S → BookView S → Type 0
KeepsInFlight scheme before later =
    (groups : List (List (List ℕ))) → HasInFlight scheme before groups → HasInFlight scheme later groups
