use Rattle.node_run.proofs.Taken.{submits_more}
use Rattle.node_run.proofs.caller.submit.Goals as goal

pub returns-then-receipt-clause-seen : goal.returns-then-receipt-clause-seen
returns-then-receipt-clause-seen g c =
    submits_more g.S.Sign.scheme c.args.node.now.node c.args.event c.args.node.now.seat.view c.submit.new.self.seat.view c.submit.result c.submit.ensures.submits
