use Rattle.journal.proofs.Openings.{choice_first, choice_second}
use Rattle.journal.proofs.areas.settle_side.Goals as goal

pub settle-requires-clause-chosen : goal.settle-requires-clause-chosen
settle-requires-clause-chosen g c =
    choice_first c.args.choice.0 c.args.choice.1 (g.D.Disk.device.content c.args.first.now) (g.D.Disk.device.content c.args.second.now) c.in-First.is c.requires.choice

pub settle-requires-in-Second-clause-chosen : goal.settle-requires-in-Second-clause-chosen
settle-requires-in-Second-clause-chosen g c =
    choice_second c.args.choice.0 c.args.choice.1 (g.D.Disk.device.content c.args.first.now) (g.D.Disk.device.content c.args.second.now) c.in-Second.is c.requires.choice
