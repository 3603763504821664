use Rattle.std.proofs.Common.{rules, sym, ◌∙◌, subst, refl}
use borrow.Author.Rules.{in_lives}
use Rattle.node_shared.specs.Home.{IsTied}
use Rattle.wire.specs.Lists.{Begins}
use Rattle.node_seats.specs.Views.{IsSame}
use Rattle.node_seats.proofs.Beginnings.{begins_trans}
use Rattle.node_seats.proofs.Same.{same_then}
use Rattle.node_shared.proofs.Tied.{durable_same}
use Rattle.node_shared.proofs.node.Node.take.Goals as goal

pub returns-then-tie-clause-flush_same : goal.returns-then-tie-clause-flush_same
returns-then-tie-clause-flush_same g c =
    subst (λ s. IsSame c.args.flush.now.seat s) (sym c.take_tied-found.ensures.same.0)
    (same_then c.args.flush.now.seat c.loop.flush.seat c.tie.new.flush.seat
    (same_then c.args.flush.now.seat c.meet.new.second c.loop.flush.seat c.meet.ensures.second.same c.loop.invariant.3) c.tie.ensures.same)

pub returns-then-tie-clause-flush_durable : goal.returns-then-tie-clause-flush_durable
returns-then-tie-clause-flush_durable g c =
    let kept = c.take_tied-found.ensures.same in
    let settled = kept.1 ∙ c.tie.ensures.counts.settled ∙ c.loop.invariant.4 in
    let began = begins_trans c.meet.new.second.view.durable c.loop.flush.seat.view.durable c.tie.new.flush.seat.view.durable c.loop.invariant.7 c.tie.ensures.durable in
    durable_same c.args.flush.now.seat.view.durable c.take_tied-found.new.flush.seat.view.durable c.args.flush.now.settled
    (subst (λ l. Begins l c.take_tied-found.new.flush.seat.view.durable) c.meet.ensures.second.durable
    (subst (λ s. Begins c.meet.new.second.view.durable s.view.durable) (sym kept.0) began))
    c.requires.flush.settled (sym settled ∙ c.take_tied-found.ensures.flush.settled)

pub returns-then-tie-clause-seen : goal.returns-then-tie-clause-seen
returns-then-tie-clause-seen g c =
    subst (λ s. Begins c.meet.new.first.view.seen s.view.seen) (sym c.take_tied-found.ensures.same.0)
    (begins_trans c.meet.new.first.view.seen c.loop.flush.seat.view.seen c.tie.new.flush.seat.view.seen
    (begins_trans c.meet.new.first.view.seen c.meet.new.second.view.seen c.loop.flush.seat.view.seen c.meet.ensures.meets c.loop.invariant.8) c.tie.ensures.seen)

pub loop-preserved : goal.loop-preserved
loop-preserved g c =
    let until = c.loop.invariant in
    let tied = c.tie.ensures in (
      tt,
      tt,
      refl,
      same_then c.meet.new.second c.loop.flush.seat c.tie.new.flush.seat until.3 tied.same,
      tied.counts.settled ∙ until.4,
      tied.counts.taken ∙ until.5,
      tied.counts.rewriting ∙ until.6,
      begins_trans c.meet.new.second.view.durable c.loop.flush.seat.view.durable c.tie.new.flush.seat.view.durable until.7 tied.durable,
      begins_trans c.meet.new.second.view.seen c.loop.flush.seat.view.seen c.tie.new.flush.seat.view.seen until.8 tied.seen,
    )

pub acquire-turn-requires : goal.acquire-turn-requires
acquire-turn-requires g c κs = λ h. simp (in_lives, h.0, h.1.0, h.1.1.0, h.1.1.1) (search rules)

pub deref_mut-locked-requires : goal.deref_mut-locked-requires
deref_mut-locked-requires g c κs = λ h. simp (in_lives, h) (search rules)

-- what the lock holds is at home in the node
pub tie-requires-clause-home : goal.tie-requires-clause-home
tie-requires-clause-home g c = rw (c.deref_mut-locked.ensures.value, ← c.self.view_is, ← c.self.invariant.0) c.acquire-turn.ensures.fits

pub take_tied-found-requires-clause-home : goal.take_tied-found-requires-clause-home
take_tied-found-requires-clause-home g c = rw (c.tie.ensures.locked, c.deref_mut-locked.ensures.value, ← c.self.view_is, ← c.self.invariant.0) c.acquire-turn.ensures.fits

pub take_tied-found-requires-clause-tied : goal.take_tied-found-requires-clause-tied
take_tied-found-requires-clause-tied g c = subst (λ l. IsTied c.args.self.now l.seat l.book c.tie.new.flush) (sym c.tie.ensures.locked) (c.tie.ensures.tied c.if-tie.true)

pub release-requires-clause-fits : goal.release-requires-clause-fits
release-requires-clause-fits g c = rw (c.self.invariant.0, c.self.view_is) c.take_tied-found.ensures.home

pub release-requires-in-loop-clause-fits : goal.release-requires-in-loop-clause-fits
release-requires-in-loop-clause-fits g c = rw (c.tie.ensures.locked, c.deref_mut-locked.ensures.value) c.acquire-turn.ensures.fits
