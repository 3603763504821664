use Rattle.validator.specs.Setting.{node_of}
use Rattle.cluster.proofs.Turning.{took, up_of}
use Rattle.cluster.proofs.turns.hand_in.Goals as goal

pub returns-in-Ok-clause-ok : goal.returns-in-Ok-clause-ok
returns-in-Ok-clause-ok g c = λ accepts world passed at.
    took (node_of g.S.Sign.scheme c.args.desk.now.book.validator.setting) g.D.Disk.device accepts c.args.event world c.args.desk.now c.accept.new.self passed at
    (up_of _ _ c.args.desk.now.book.down c.in-Ok.ensures.down.1)
    c.in-Ok.receipt.ticket c.in-Ok.receipt.new c.in-Ok.ensures.new c.in-Ok.ensures.known c.in-Ok.ensures.ticket c.in-Ok.ensures.step
