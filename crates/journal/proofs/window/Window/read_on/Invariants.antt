use Rattle.std.proofs.Common.{◌≡◌, ◌-◌, List, length}
use Rattle.journal.specs.declared.record.Record.{Record}
use Rattle.journal.specs.Format.{with_front}
use Rattle.journal.specs.Window.{IsWindow, IsOnlyRead, left_from}
use Rattle.journal.proofs.window.Window.read_on.Given as goal

-- the records that were taken, and then those from the next gate on, are those from the first one on
abbrev pub invariant-loop : goal.invariant-loop
invariant-loop g l = record {
  window : IsWindow (g.D.Disk.device.content l.initial.disk) l.self;
  only_read : IsOnlyRead g.D.Disk.device l.initial.disk l.disk;
  faults : g.D.Disk.device.faults l.disk ≡ g.D.Disk.device.faults l.initial.disk;
  taken : (records : List Record) × g.R.Reader.takes l.initial.reader records l.reader
      × (with_front records (left_from l.base l.self.gate (g.D.Disk.device.content l.initial.disk)) ≡ left_from l.base l.initial.self.gate (g.D.Disk.device.content l.initial.disk));
}

abbrev pub decreases-loop : goal.decreases-loop
decreases-loop g l = length (g.D.Disk.device.content l.initial.disk) - l.self.gate
