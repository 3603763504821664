-- One disk or two: the forms of store that a journal is opened on.
use Rattle.std.specs.Prelude.{Bool, true, false}
use Rattle.journal.specs.declared.store.Store.{Store}
use Rattle.journal.specs.declared.store.Store.TheVariants.{One, Two}

-- the store has two disks
abbrev pub has_two : {D : Type 0} → Store D → Bool
has_two (One disk) = false
has_two (Two first second) = true
