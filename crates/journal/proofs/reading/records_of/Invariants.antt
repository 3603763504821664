use Rattle.std.proofs.Common.{◌≡◌, ◌++◌, length}
use Rattle.std.specs.Option.{option_map}
use Rattle.journal.specs.Format.{kept, records_of}
use Rattle.journal.proofs.reading.records_of.Given as goal

-- the records so far, and then those of the rest, are those of the body
abbrev pub invariant-loop-rest : goal.invariant-loop-rest
invariant-loop-rest l = option_map (λ others. l.records.items ++ kept l.gate others) (records_of l.rest) ≡ option_map (kept l.gate) (records_of l.body)

abbrev pub decreases-loop-rest : goal.decreases-loop-rest
decreases-loop-rest l = length l.rest
