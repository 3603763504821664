use Rattle.std.proofs.Common.{rules, ◌≢◌}
use Rattle.journal.specs.declared.error.JournalError.TheVariants as errors
use Rattle.opening.proofs.PairReplays.{took, failed}
use Rattle.opening.proofs.reached.after_event.Goals as goal

pub returns-in-Ok : goal.returns-in-Ok
returns-in-Ok g c records before =
    took g.S.Sign.scheme c.args.validator.setting records (record { bytes = c.args.bytes.now; gate = c.args.place }) c.args.validator c.take_event.new.validator before
    c.take_event.ensures.setting c.in-Ok.ensures.ok

pub returns : goal.returns
returns g c records before =
    let other : c.in-Err.fault ≢ errors.Memory = search rules in
    failed g.S.Sign.scheme c.args.validator.setting records (record { bytes = c.args.bytes.now; gate = c.args.place }) c.args.validator c.in-Err.fault before other c.in-Err.ensures.err
