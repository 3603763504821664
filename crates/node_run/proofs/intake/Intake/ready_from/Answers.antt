use Rattle.std.proofs.Common.{◌≡◌, inl, inr, subst, ◌∙◌, arith}
use Rattle.std.specs.Prelude.{All}
use Rattle.std.proofs.lemmas.Bool.Decides.{leb_tells}
use Rattle.waiter.specs.Rounds.{held}
use Rattle.node_run.specs.Asked.{WasAsked}
use Rattle.node_run.proofs.Asked.{all_on, all_until, first_on, only_then}
use Rattle.node_run.proofs.intake.Intake.ready_from.Goals as goal

pub returns-in-Some-clause-passed : goal.returns-in-Some-clause-passed
returns-in-Some-clause-passed g c = λ round above under.
    let old = c.args.self.now in
    all_until g.S.Sign.scheme old.caller.node old.caller c.loop-round.self.caller c.ready_of.new.self.caller (held old.waiters round) c.ready_of.ensures.only.seen
    (c.loop-round.invariant.asked round above under)

pub returns-in-Some-clause-first : goal.returns-in-Some-clause-first
returns-in-Some-clause-first g c =
    let old = c.args.self.now in
    let mid = c.loop-round.self in
    let so_far = c.loop-round.invariant in
    first_on g.S.Sign.scheme old.caller mid.caller c.ready_of.new.self.caller old.waiters mid.waiters c.loop-round.round c.in-Some.found so_far.only so_far.waiters
    c.in-Some.ensures.first

pub loop-round-preserved : goal.loop-round-preserved
loop-round-preserved g c =
    let scheme = g.S.Sign.scheme in
    let old = c.args.self.now in
    let mid = c.loop-round.self in
    let later = c.ready_of.new.self in
    let so_far = c.loop-round.invariant in
    let said = c.ready_of.ensures in
    record {
      waiters = c.in_default.ensures.none ∙ so_far.waiters;
      due = said.due ∙ so_far.due;
      mark = said.mark ∙ so_far.mark;
      only = only_then old.caller mid.caller later.caller so_far.only said.only;
      asked = λ round above under. elim (leb_tells c.loop-round.round round) [
        | inl from ↦
            let same : c.loop-round.round ≡ round = omega (arith, from.1, under) in
            subst (λ r. All (WasAsked scheme old.caller.node old.caller later.caller) (held old.waiters r)) same
            (all_on scheme old.caller mid.caller later.caller old.waiters mid.waiters c.loop-round.round so_far.only so_far.waiters c.in_default.ensures.asked)
        | inr before ↦ all_until scheme old.caller.node old.caller mid.caller later.caller (held old.waiters round) said.only.seen (so_far.asked round above before.1)
      ];
      rises = omega (arith, so_far.rises);
    }

pub returns-clause-asked : goal.returns-clause-asked
returns-clause-asked g c = λ round above under. c.loop-round.invariant.asked round above (omega (arith, under, c.loop-round-test.false))
