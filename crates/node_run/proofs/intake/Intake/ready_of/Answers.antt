use Rattle.std.proofs.Common.{◌≡◌, ap, subst, ◌∙◌, arith, take}
use Rattle.waiter.specs.Rounds.{WaitersView, held}
use Rattle.waiter.specs.Waiting.{IsTakenAt}
use Rattle.node_run.specs.Asked.{WasAsked}
use Rattle.node_run.specs.declared.intake.Intake.{Intake}
use Rattle.node_run.proofs.Asked.{all_more, all_until, all_whole, first_taken, only_then, some_more, some_on}
use Rattle.node_run.proofs.intake.Intake.ready_of.Goals as goal

pub loop-place-preserved : goal.loop-place-preserved
loop-place-preserved g c =
    let scheme = g.S.Sign.scheme in
    let old = c.args.self.now in
    let mid = c.loop-place.self in
    let later = c.is_ready_at.new.self in
    let so_far = c.loop-place.invariant in
    let said = c.is_ready_at.ensures in
    let events = held old.waiters c.args.round in
    record {
      waiters = ap (λ (i : Intake g.row.S.Denot). i.waiters) said.same ∙ so_far.waiters;
      due = ap (λ (i : Intake g.row.S.Denot). i.due) said.same ∙ so_far.due;
      mark = ap (λ (i : Intake g.row.S.Denot). i.was_refused_memory) said.same ∙ so_far.mark;
      only = only_then old.caller mid.caller later.caller so_far.only said.only;
      asked = all_more (WasAsked scheme old.caller.node old.caller later.caller) events c.loop-place.place
          (all_until scheme old.caller.node old.caller mid.caller later.caller (take c.loop-place.place events) said.only.seen so_far.asked)
          (some_on scheme old.caller mid.caller later.caller old.waiters mid.waiters c.args.round c.loop-place.place so_far.only so_far.waiters (said.asked c.if-is_ready_at.false));
    }

pub returns-clause-asked : goal.returns-clause-asked
returns-clause-asked g c =
    let old = c.args.self.now in
    all_whole (WasAsked g.S.Sign.scheme old.caller.node old.caller c.loop-place.self.caller) (held old.waiters c.args.round) c.loop-place.place
    (omega (arith, c.loop-place-test.false, c.count_of-place-end.ensures)) c.loop-place.invariant.asked

pub returns-then-is_ready_at-clause-first : goal.returns-then-is_ready_at-clause-first
returns-then-is_ready_at-clause-first g c =
    let scheme = g.S.Sign.scheme in
    let old = c.args.self.now in
    let mid = c.loop-place.self in
    let later = c.is_ready_at.new.self in
    let so_far = c.loop-place.invariant in
    let said = c.is_ready_at.ensures in
    let round = c.args.round in
    let place = c.loop-place.place in
    let same : later.waiters ≡ mid.waiters = ap (λ (i : Intake g.row.S.Denot). i.waiters) said.same in
    some_more c.take_of.result (λ event taken. first_taken scheme old.caller mid.caller later.caller old.waiters mid.waiters round place event (held c.take_of.new.self round)
    so_far.only said.only so_far.waiters so_far.asked
    (subst (λ (w : WaitersView). IsTakenAt (held w round) place event (held c.take_of.new.self round)) same taken) (said.ready c.if-is_ready_at.true)) c.take_of.ensures.taken
