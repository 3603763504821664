use Rattle.node_run.proofs.Asked.{go_none, go_some}
use Rattle.node_run.proofs.intake.Intake.go_on.Goals as goal

pub returns-in_default-clause-through : goal.returns-in_default-clause-through
returns-in_default-clause-through g c =
    let old = c.args.self.now in
    let mid = c.propose.new.self in
    let later = c.next_ready.new.self in
    go_none g.S.Sign.scheme old.caller mid.caller later.caller old.due.waiting mid.due.waiting later.due.waiting old.waiters mid.waiters later.waiters c.propose.ensures.with
    c.propose.ensures.seen c.propose.ensures.waiting c.propose.ensures.waiters c.in_default.ensures.none.1 c.next_ready.ensures.asks

pub returns-in-Err-clause-through : goal.returns-in-Err-clause-through
returns-in-Err-clause-through g c =
    let old = c.args.self.now in
    let mid = c.propose.new.self in
    let looked = c.next_ready.new.self in
    let later = c.take_ready.new.self in
    let asked = c.next_ready.ensures in
    let taken = c.take_ready.ensures in
    go_some g.S.Sign.scheme old.caller mid.caller looked.caller later.caller old.due mid.due looked.due later.due old.waiters mid.waiters looked.waiters later.waiters c.in-Some.event
    looked.caller.setting.own c.take_ready.result c.propose.ensures.with c.propose.ensures.seen c.propose.ensures.waiting c.propose.ensures.waiters asked.only asked.asks
    c.in-Some.ensures.some taken.seen taken.waiters taken.due taken.again

pub returns-in_default-take_ready-clause-through : goal.returns-in_default-take_ready-clause-through
returns-in_default-take_ready-clause-through g c =
    let old = c.args.self.now in
    let mid = c.propose.new.self in
    let looked = c.next_ready.new.self in
    let later = c.take_ready.new.self in
    let asked = c.next_ready.ensures in
    let taken = c.take_ready.ensures in
    go_some g.S.Sign.scheme old.caller mid.caller looked.caller later.caller old.due mid.due looked.due later.due old.waiters mid.waiters looked.waiters later.waiters c.in-Some.event
    looked.caller.setting.own c.take_ready.result c.propose.ensures.with c.propose.ensures.seen c.propose.ensures.waiting c.propose.ensures.waiters asked.only asked.asks
    c.in-Some.ensures.some taken.seen taken.waiters taken.due taken.again
