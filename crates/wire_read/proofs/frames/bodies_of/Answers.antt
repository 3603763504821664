use Rattle.wire_read.specs.Frames.{bodies_bytes}
use Rattle.wire_read.proofs.Streams.{one_more, no_more}
use Rattle.wire_read.proofs.frames.bodies_of.Goals as goal

pub loop-bodies-preserved : goal.loop-bodies-preserved
loop-bodies-preserved c =
    let until = c.loop-bodies.invariant in
    let more = one_more (λ b. b.now) c.args.stream.now c.loop-bodies.bodies.items c.push.new.self.items c.in_ok-copied.field-0 c.loop-bodies.taken c.in_ok-body.field-0 c.in-Some.body
    (until.within, until.so_far, until.each) c.in_ok-body.ensures.whole c.in-Some.is c.in_ok-push.ensures.items c.in_ok-copied.ensures in
    record { within = more.0; so_far = more.1; each = more.2 }

pub returns-clause-splits : goal.returns-clause-splits
returns-clause-splits c =
    let until = c.loop-bodies.invariant in
    no_more _ c.args.stream.now (bodies_bytes c.loop-bodies.bodies.items) c.loop-bodies.taken c.in_ok-body.field-0 until.within until.so_far until.each c.in_ok-body.ensures.whole c.in_default.is
