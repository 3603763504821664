use Rattle.dag.proofs.Unnamed.{unnamed_last}
use Rattle.dag.proofs.dag.Dag.restore.Goals as goal

pub place-requires-clause-unnamed : goal.place-requires-clause-unnamed
place-requires-clause-unnamed c = unnamed_last c.args.self.now c.args.certificate c.limits_hold.ensures c.requires.last
