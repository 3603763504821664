use Rattle.std.proofs.Common.{◌-◌, ◌≤◌, length, take}
use Rattle.std.specs.Prelude.{All}
use Rattle.journal_account.proofs.States.{IsState}
use Rattle.journal_account.proofs.parts.state_count.Given as goal

-- the records so far are those of a state
abbrev pub invariant-loop-count : goal.invariant-loop-count
invariant-loop-count l = record { within : l.count ≤ length l.records; before : All IsState (take l.count l.records) }

abbrev pub decreases-loop-count : goal.decreases-loop-count
decreases-loop-count l = length l.records - l.count
