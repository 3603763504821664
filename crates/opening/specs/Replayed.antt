-- What a validator knows that takes the records of a journal on one disk while they are read.
use Rattle.std.specs.Prelude.{◌≡◌, ◌≢◌, All, ℕ, Bool, List, [], ◌∷◌, drop, Option, Some, None, Result, Ok, Err, IfOk, IfErr, OnOk}
use Rattle.journal.specs.declared.error.JournalError.{JournalError}
use Rattle.journal.specs.declared.error.JournalError.TheVariants.{Memory, Device, Full}
use Rattle.journal.specs.declared.record.Record.{Record}
use Rattle.sigface.specs.Scheme.{Scheme}
use Rattle.spec_machine.specs.Machine.{fresh}
use Rattle.spec_model.specs.Nodes.{Node}
use Rattle.spec_model.specs.States.{State}
use Rattle.validator.specs.Setting.{ConfigView, node_of}
use Rattle.validator.specs.Standing.{ValidatorView}
use Rattle.opening.specs.Decoded.{IsText, StandsAt, read_events, own_fault, is_alone, unless}

-- the state that the records of a journal lead to, or what is wrong with them, wherever the groups of these records end
abbrev pub read_apart : Node → List Record → Result State JournalError
read_apart node [] = Ok (fresh node)
read_apart node (first ∷ events) = unless (own_fault node first) (read_events node (fresh node) events)

-- the place of the gate of the first record's group; None without a record
abbrev pub first_gate : List Record → Option ℕ
first_gate [] = None
first_gate (first ∷ events) = Some first.gate

-- What is known after these records: the gate of the first record's group, whether that record is alone in the group, and a validator that
-- holds the state after the events, or the first fault.
pub record HasReplayed {S : Type 0} (scheme : Scheme S) (setting : ConfigView S) (first : Option ℕ) (alone : Bool)
    (reached : Result (ValidatorView S) JournalError) (records : List Record) : Type 0 where
  pub begins : first ≡ first_gate records
  pub is_alone_in : alone ≡ is_alone (drop 1 records)
  pub set : IfOk reached (λ validator. validator.setting ≡ setting)
  pub stands : IfOk reached (λ validator. StandsAt (node_of scheme setting) (read_apart (node_of scheme setting) records) validator.tables)
  pub fault : IfErr reached (λ error. read_apart (node_of scheme setting) records ≡ Err error)
  pub never : IfErr reached (λ error. (error ≢ Memory) × (error ≢ Device) × (error ≢ Full))
  pub texts : OnOk reached (All IsText (drop 1 records))
