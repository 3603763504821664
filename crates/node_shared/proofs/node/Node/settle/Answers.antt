use Rattle.std.proofs.Common.{rules, List, ◌∙◌, sym, subst}
use borrow.Author.Rules.{in_lives}
use Rattle.node_seats.specs.declared.view.Marked.{Marked}
use Rattle.node_shared.specs.Home.{IsCheckpointAfter, IsTied}
use Rattle.node_seats.proofs.Beginnings.{begins_trans}
use Rattle.node_seats.proofs.Same.{same_then}
use Rattle.node_shared.proofs.Tied.{settles_from, taken_from}
use Rattle.node_shared.proofs.node.Node.settle.Goals as goal

pub loop-preserved : goal.loop-preserved
loop-preserved g c =
    let until = c.loop.invariant in
    let tied = c.tie.ensures in (
      tt,
      tt,
      same_then c.args.flush.now.seat c.loop.flush.seat c.tie.new.flush.seat until.2 tied.same,
      tied.counts.settled ∙ until.3,
      tied.counts.taken ∙ until.4,
      tied.counts.rewriting ∙ until.5,
      begins_trans c.args.flush.now.seat.view.durable c.loop.flush.seat.view.durable c.tie.new.flush.seat.view.durable until.6 tied.durable,
      begins_trans c.args.flush.now.seat.view.seen c.loop.flush.seat.view.seen c.tie.new.flush.seat.view.seen until.7 tied.seen,
    )

pub acquire-turn-requires : goal.acquire-turn-requires
acquire-turn-requires g c κs = λ h. simp (in_lives, h.0, h.1.0, h.1.1.0, h.1.1.1) (search rules)

pub deref_mut-locked-requires : goal.deref_mut-locked-requires
deref_mut-locked-requires g c κs = λ h. simp (in_lives, h) (search rules)

-- what the lock holds is at home in the node
pub tie-requires-clause-home : goal.tie-requires-clause-home
tie-requires-clause-home g c = rw (c.deref_mut-locked.ensures.value, ← c.self.view_is, ← c.self.invariant.0) c.acquire-turn.ensures.fits

pub settle_tied-requires-clause-home : goal.settle_tied-requires-clause-home
settle_tied-requires-clause-home g c = rw (c.tie.ensures.locked, c.deref_mut-locked.ensures.value, ← c.self.view_is, ← c.self.invariant.0) c.acquire-turn.ensures.fits

pub settle_tied-requires-clause-tied : goal.settle_tied-requires-clause-tied
settle_tied-requires-clause-tied g c = subst (λ l. IsTied c.args.self.now l.seat l.book c.tie.new.flush) (sym c.tie.ensures.locked) (c.tie.ensures.tied c.if-tie.true)

pub release-requires-clause-fits : goal.release-requires-clause-fits
release-requires-clause-fits g c = rw (c.self.invariant.0, c.self.view_is) c.settle_tied.ensures.home

pub release-requires-in-loop-clause-fits : goal.release-requires-in-loop-clause-fits
release-requires-in-loop-clause-fits g c = rw (c.tie.ensures.locked, c.deref_mut-locked.ensures.value) c.acquire-turn.ensures.fits

pub returns-then-tie : goal.returns-then-tie
returns-then-tie g c =
    let until = c.loop.invariant in
    let tied = c.tie.ensures in
    record {
      settles = settles_from c.args.self.now c.args.flush.now c.tie.new.flush c.settle_tied.new.flush c.requires.flush
          (same_then c.args.flush.now.seat c.loop.flush.seat c.tie.new.flush.seat until.2 tied.same) (tied.counts.taken ∙ until.4)
          (begins_trans c.args.flush.now.seat.view.seen c.loop.flush.seat.view.seen c.tie.new.flush.seat.view.seen until.7 tied.seen) c.settle_tied.ensures.settles;
    }

pub settle_tied-requires-clause-checkpoint : goal.settle_tied-requires-clause-checkpoint
settle_tied-requires-clause-checkpoint g c = λ rewriting.
    let until = c.loop.invariant in
    let tied = c.tie.ensures in
    subst (λ (l : List Marked). IsCheckpointAfter g.S.Sign.scheme c.args.self.now l c.args.synced)
    (sym (taken_from c.args.self.now c.args.flush.now c.tie.new.flush c.requires.flush (tied.counts.taken ∙ until.4)
    (begins_trans c.args.flush.now.seat.view.seen c.loop.flush.seat.view.seen c.tie.new.flush.seat.view.seen until.7 tied.seen)))
    (c.requires.checkpoint (sym (tied.counts.rewriting ∙ until.5) ∙ rewriting))
