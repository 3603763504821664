-- The records that a journal has made durable: those of a group, or those of a checkpoint.
use Rattle.std.specs.Prelude.{ℕ, List}
use Rattle.journal.specs.declared.durable.Durable.{Durable}
use Rattle.journal.specs.declared.durable.Durable.TheVariants as durable

-- the records that a journal has made durable
abbrev pub records_of_durable : Durable → List (List ℕ)
records_of_durable (durable.Group group) = group
records_of_durable (durable.Snapshot snapshot) = snapshot
