-- A reader takes the records of a journal while the journal is opened: what it has taken when the reading ends.
use Rattle.std.specs.Prelude.{◌≡◌, ℕ, List, Result, Ok}
use Rattle.journal.specs.declared.record.Record.{Record}

-- bytes were read as records without damage, and the reader took all of them
abbrev pub TakesAll : (List Record → Type 0) → Result (List Record) ℕ → Type 0
TakesAll takes read = (records : List Record) × (read ≡ Ok records) × takes records

-- bytes were read as records up to the closed gate at this place, and the reader took all of them
abbrev pub TakesTo : (List Record → Type 0) → Result (List Record × ℕ) ℕ → ℕ → Type 0
TakesTo takes read gate = (records : List Record) × (read ≡ Ok (records, gate)) × takes records
