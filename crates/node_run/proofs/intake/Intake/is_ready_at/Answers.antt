use Rattle.std.proofs.Common.{◌≡◌, Option, Some, sym, subst}
use Rattle.std.specs.Prelude.{IfSome, slice_get}
use Rattle.spec_model.specs.Words.{Event}
use Rattle.waiter.specs.Rounds.{held}
use Rattle.node_run.specs.Asked.{WasReady}
use Rattle.node_run.proofs.Asked.{ready_now}
use Rattle.node_run.proofs.intake.Intake.is_ready_at.Goals as goal

pub returns-in-Some-clause-ready : goal.returns-in-Some-clause-ready
returns-in-Some-clause-ready g c = λ is.
    let scheme = g.S.Sign.scheme in
    let old = c.args.self.now in
    let event = c.in-Some.event.now in
    let later = c.is_ready.new.self in
    let there : slice_get (held old.waiters c.args.round) c.args.place ≡ Some event = sym c.in-Some.ensures in
    subst (λ (o : Option Event). IfSome o (WasReady scheme old.caller.node old.caller later)) (sym there)
    (ready_now scheme old.caller later event c.is_ready.ensures.more (c.is_ready.ensures.checked is) (c.is_ready.ensures.ready is))
