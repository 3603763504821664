use Rattle.diskmodel.specs.declared.call.Call.TheVariants.{Cut}
use Rattle.diskmodel.proofs.Effects.{effect, cut_of, time_of}
use Rattle.diskmodel.proofs.memory.MemDiskDisk.cut.Goals as goal

pub returns-clause-outcomes : goal.returns-clause-outcomes
returns-clause-outcomes c =
    cut_of c.args.len c.args.self.now.history c.counted.new.self.history c.requires
    (effect (Cut c.args.len) c.cut-outcome.result c.args.self.now.history c.fail_if_told.new.self.history c.cut-outcome.new.self c.counted.new.self.history
    c.fail_if_told.ensures.undisturbed.history c.cut-outcome.ensures.added c.cut-outcome.ensures.err c.counted.ensures.undisturbed.history)

pub returns-clause-time : goal.returns-clause-time
returns-clause-time c =
    time_of (Cut c.args.len) c.args.self.now.history c.counted.new.self.history
    (effect (Cut c.args.len) c.cut-outcome.result c.args.self.now.history c.fail_if_told.new.self.history c.cut-outcome.new.self c.counted.new.self.history
    c.fail_if_told.ensures.undisturbed.history c.cut-outcome.ensures.added c.cut-outcome.ensures.err c.counted.ensures.undisturbed.history)
