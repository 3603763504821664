use Rattle.diskmodel.specs.declared.call.Call.TheVariants.{Wrote}
use Rattle.diskmodel.proofs.Effects.{effect, write_of, time_of}
use Rattle.diskmodel.proofs.memory.MemDiskDisk.write_at.Goals as goal

pub returns-clause-outcomes : goal.returns-clause-outcomes
returns-clause-outcomes c =
    write_of c.args.at c.args.bytes.now c.args.self.now.history c.counted.new.self.history c.requires
    (effect (Wrote c.args.at c.args.bytes.now) c.write-outcome.result c.args.self.now.history c.fail_if_told.new.self.history c.write-outcome.new.self c.counted.new.self.history
    c.fail_if_told.ensures.undisturbed.history c.write-outcome.ensures.added c.write-outcome.ensures.err c.counted.ensures.undisturbed.history)

pub returns-clause-time : goal.returns-clause-time
returns-clause-time c =
    time_of (Wrote c.args.at c.args.bytes.now) c.args.self.now.history c.counted.new.self.history
    (effect (Wrote c.args.at c.args.bytes.now) c.write-outcome.result c.args.self.now.history c.fail_if_told.new.self.history c.write-outcome.new.self c.counted.new.self.history
    c.fail_if_told.ensures.undisturbed.history c.write-outcome.ensures.added c.write-outcome.ensures.err c.counted.ensures.undisturbed.history)
