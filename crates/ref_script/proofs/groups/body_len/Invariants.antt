use Rattle.std.proofs.Common.{◌≡◌, ◌*◌, ◌≤◌, map, take}
use Rattle.journal.specs.Format.{body_len}
use Rattle.spec_records.specs.Records.{record_of}
use Rattle.ref_script.proofs.groups.body_len.Given as goal

-- the length of the records so far
abbrev pub invariant-loop-event : goal.invariant-loop-event
invariant-loop-event l = record { sum : l.total ≡ body_len (map record_of (take l.event-index l.events)); few : l.total ≤ 500008 * l.event-index }
