use Rattle.std.proofs.Common.{rules}
use Rattle.node.proofs.Begun.{flusher_first}
use Rattle.node.proofs.begin.Goals as goal

pub returns-in-Ok : goal.returns-in-Ok
returns-in-Ok g c = record {
  setting = search rules;
  begins = search rules;
  seat = search rules;
  nothing = search rules;
  flusher = flusher_first g.S.Sign.scheme g.D.Disk.device c.in-Ok.node c.new-in-Ok.result c.args.journal c.in-Ok.flush_seat c.args.validator.setting c.args.validator.tables
      c.in-Ok.ensures.setting c.in-Ok.ensures.begun c.new-in-Ok.ensures.journal c.new-in-Ok.ensures.seat c.in-Ok.ensures.flush_seat c.in-Ok.ensures.flush_nothing.0
      c.in-Ok.ensures.flush_nothing.1 c.in-Ok.ensures.flush_idle c.in-Ok.ensures.right.0 c.new-in-Ok.ensures.up c.limits_hold.ensures.node c.requires.alive c.requires.holds;
  up = search rules;
  nothing_settled = search rules;
  journal = search rules;
  err = search rules;
}

pub returns-in-Err : goal.returns-in-Err
returns-in-Err g c = search rules
