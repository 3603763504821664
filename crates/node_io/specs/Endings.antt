-- How a run of a node ends, and the numbers that its last line and its exit status have.
use Rattle.std.specs.Prelude.{ℕ, Bool, true, false, ◌||◌, Option, Some, None, if◌then◌else◌}
use Rattle.std.specs.Option.{option_map_or}
use Rattle.committee.specs.declared.error.CommitteeError.{CommitteeError}
use Rattle.committee.specs.declared.error.CommitteeError.TheVariants as committee
use Rattle.journal.specs.declared.error.JournalError.{JournalError}
use Rattle.journal.specs.declared.error.JournalError.TheVariants as journal
use Rattle.node_io.specs.declared.ending.Ending.{Ending}
use Rattle.node_io.specs.declared.ending.Ending.TheVariants.{Done, Usage, Config, Journal, Input, Memory, Output}
use Rattle.node_io.specs.declared.faults.Faults.{Faults}
use Rattle.node_io.specs.declared.input.End.{End}
use Rattle.node_io.specs.declared.input.End.TheVariants as ends

-- the exit status of a run that ends like this
abbrev pub status_of : Ending → ℕ
status_of Done = 0
status_of Usage = 2
status_of (Config error) = 3
status_of (Journal error) = 4
status_of Input = 5
status_of Memory = 6
status_of Output = 7

-- the number by which a fault of the committee file is reported
abbrev pub config_number_of : CommitteeError → ℕ
config_number_of committee.Memory = 1
config_number_of committee.NotToml = 2
config_number_of committee.BadSize = 3
config_number_of committee.BadKey = 4
config_number_of committee.RepeatedKey = 5
config_number_of committee.BadLimit = 6
config_number_of committee.BadStake = 7

-- the number by which a fault of the journal is reported
abbrev pub journal_number_of : JournalError → ℕ
journal_number_of journal.Memory = 1
journal_number_of journal.Device = 2
journal_number_of (journal.Damaged place) = 3
journal_number_of journal.ConfigMismatch = 4
journal_number_of journal.Full = 5

-- a fault of the journal goes before the other ending, unless it is a failed allocation
abbrev pub unless_journal : Option JournalError → Ending → Ending
unless_journal (Some journal.Memory) other = other
unless_journal (Some error) other = Journal error
unless_journal None other = other

-- an allocation failed: for the journal, or elsewhere
abbrev pub lacks_memory : Faults → Bool
lacks_memory faults = faults.memory || option_map_or is_memory faults.journal false
  where
    is_memory : JournalError → Bool
    is_memory journal.Memory = true
    is_memory _ = false

-- How a run ends in which several things went wrong. The first in this order is reported: the journal's fault, the output's, a failed
-- allocation, the input's.
abbrev pub ending_of : Faults → Ending
ending_of faults = unless_journal faults.journal (if faults.output then Output else if lacks_memory faults then Memory else if faults.input then Input else Done)

-- how a run ends if the committee file can't be read as one, or (of_journal) the journal can't be opened; a failed allocation is reported
-- as such
abbrev pub of_config : CommitteeError → Ending
of_config committee.Memory = Memory
of_config other = Config other

abbrev pub of_journal : JournalError → Ending
of_journal journal.Memory = Memory
of_journal other = Journal other

-- of two faults of the journal the first one, if there is one; a failed allocation gives way to any other fault
abbrev pub first_of : Option JournalError → Option JournalError → Option JournalError
first_of None other = other
first_of (Some journal.Memory) None = Some journal.Memory
first_of (Some journal.Memory) (Some error) = Some error
first_of (Some error) other = Some error

-- what went wrong in a run whose input ended like this; an allocation may have failed before
abbrev pub after_input : End → Bool → Faults
after_input ends.Whole lacked_memory = record { journal = None; output = false; memory = lacked_memory; input = false }
after_input ends.Broken lacked_memory = record { journal = None; output = false; memory = lacked_memory; input = true }
after_input ends.Memory lacked_memory = record { journal = None; output = false; memory = true; input = false }
