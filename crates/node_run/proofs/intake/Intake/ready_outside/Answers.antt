use Rattle.std.proofs.Common.{ap}
use Rattle.waiter.specs.Rounds.{held}
use Rattle.node_run.specs.Asked.{WasAsked}
use Rattle.node_run.specs.declared.intake.Intake.{Intake}
use Rattle.node_run.proofs.Asked.{all_on, first_of_all, first_on, none_more, some_more}
use Rattle.node_run.proofs.intake.Intake.ready_outside.Goals as goal

pub returns-clause-asked : goal.returns-clause-asked
returns-clause-asked g c =
    let scheme = g.S.Sign.scheme in
    let old = c.args.self.now in
    let mid = c.is_ready_at.new.self in
    let later = c.ready_of.new.self in
    none_more c.ready_of.result (λ all outside. first_of_all (WasAsked scheme old.caller.node old.caller later.caller) (held old.waiters c.args.round)
    (all_on scheme old.caller mid.caller later.caller old.waiters mid.waiters c.args.round c.is_ready_at.ensures.only
    (ap (λ (i : Intake g.row.S.Denot). i.waiters) c.is_ready_at.ensures.same) all)) c.ready_of.ensures.asked

pub returns-clause-first : goal.returns-clause-first
returns-clause-first g c =
    let scheme = g.S.Sign.scheme in
    let old = c.args.self.now in
    let mid = c.is_ready_at.new.self in
    let later = c.ready_of.new.self in
    some_more c.ready_of.result (λ event first. first_on scheme old.caller mid.caller later.caller old.waiters mid.waiters c.args.round event c.is_ready_at.ensures.only
    (ap (λ (i : Intake g.row.S.Denot). i.waiters) c.is_ready_at.ensures.same) first) c.ready_of.ensures.first
