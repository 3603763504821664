use Rattle.diskmodel.specs.declared.call.Call.TheVariants.{Synced}
use Rattle.diskmodel.proofs.Effects.{effect, sync_of, durable_when, time_of}
use Rattle.diskmodel.proofs.memory.MemDiskDisk.sync.Goals as goal

pub returns-clause-outcomes : goal.returns-clause-outcomes
returns-clause-outcomes c =
    sync_of c.args.self.now.history c.counted.new.self.history
    (effect Synced c.sync-outcome.result c.args.self.now.history c.fail_if_told.new.self.history c.sync-outcome.new.self c.counted.new.self.history
    c.fail_if_told.ensures.undisturbed.history c.sync-outcome.ensures.added c.sync-outcome.ensures.err c.counted.ensures.undisturbed.history)

pub returns-clause-time : goal.returns-clause-time
returns-clause-time c =
    time_of Synced c.args.self.now.history c.counted.new.self.history
    (effect Synced c.sync-outcome.result c.args.self.now.history c.fail_if_told.new.self.history c.sync-outcome.new.self c.counted.new.self.history
    c.fail_if_told.ensures.undisturbed.history c.sync-outcome.ensures.added c.sync-outcome.ensures.err c.counted.ensures.undisturbed.history)

pub returns-clause-durable : goal.returns-clause-durable
returns-clause-durable c =
    durable_when c.counted.result c.sync-outcome.result c.args.self.now.history c.fail_if_told.new.self.history c.sync-outcome.new.self c.counted.new.self.history
    c.counted.ensures.same c.fail_if_told.ensures.undisturbed.history c.sync-outcome.ensures.added c.counted.ensures.undisturbed.history
