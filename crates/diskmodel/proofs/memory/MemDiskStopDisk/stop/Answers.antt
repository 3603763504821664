use Rattle.diskmodel.proofs.Effects.{stop_of, stop_others_of, stop_time_of}
use Rattle.diskmodel.proofs.memory.MemDiskStopDisk.stop.Goals as goal

pub returns-clause-outcomes : goal.returns-clause-outcomes
returns-clause-outcomes c = stop_of c.in-Some.found c.args.self.now.history c.stop.new.self c.stop.ensures.taken

pub returns-clause-others : goal.returns-clause-others
returns-clause-others c = stop_others_of c.in-Some.found c.args.self.now.history c.stop.new.self c.stop.ensures.taken

pub returns-clause-time : goal.returns-clause-time
returns-clause-time c = stop_time_of c.in-Some.found c.args.self.now.history c.stop.new.self c.stop.ensures.taken
