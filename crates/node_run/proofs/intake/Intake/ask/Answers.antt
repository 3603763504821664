use Rattle.node_seats.proofs.Beginnings.{begins_trans}
use Rattle.node_run.proofs.Asked.{go_on, stays_then}
use Rattle.node_run.proofs.intake.Intake.ask.Goals as goal

pub asking-preserved : goal.asking-preserved
asking-preserved g c =
    let old = c.args.self.now in
    let mid = c.asking.self in
    let later = c.go_on.new.self in
    let so_far = c.asking.invariant in
    let said = c.go_on.ensures in
    record {
      stays = stays_then old.caller mid.caller later.caller so_far.stays said.stays;
      through = go_on g.S.Sign.scheme old.caller mid.caller later.caller old.due.waiting mid.due.waiting later.due.waiting old.waiters mid.waiters later.waiters so_far.stays so_far.seen said.seen
          so_far.through said.through;
      seen = begins_trans old.caller.seat.view.seen mid.caller.seat.view.seen later.caller.seat.view.seen so_far.seen said.seen;
      mark = λ marked. said.mark (so_far.mark marked);
    }

pub returns-clause-through : goal.returns-clause-through
returns-clause-through g c =
    let old = c.args.self.now in
    let mid = c.asking.self in
    let later = c.go_on.new.self in
    let so_far = c.asking.invariant in
    let said = c.go_on.ensures in
    go_on g.S.Sign.scheme old.caller mid.caller later.caller old.due.waiting mid.due.waiting later.due.waiting old.waiters mid.waiters later.waiters so_far.stays so_far.seen said.seen
    so_far.through said.through
