use Rattle.std.proofs.Common.{◌∙◌, ◌++◌, ◌∷◌, [], ap, sym}
use Rattle.committee.specs.File.{stake_in}
use Rattle.committee.proofs.ElementLemmas.{read_more, each_more, none_at}
use Rattle.committee.proofs.StakeLemmas.{among_none}
use Rattle.committee.proofs.stakes.stakes_among.Goals as goal

pub returns-in-None-clause-cause : goal.returns-in-None-clause-cause
returns-in-None-clause-cause c _ =
    among_none c.args.members _ (none_at stake_in c.args.elements.now c.loop-element.element-index c.element-item.result c.loop-element-test.true c.element-item.is (sym c.in-None.ensures))

pub loop-element-preserved : goal.loop-element-preserved
loop-element-preserved c = record {
  stakes = c.in_ok-push-in-Some.ensures.items ∙ ap (λ before. before ++ c.in-Some.stake ∷ []) c.loop-element.invariant.stakes
      ∙ sym (read_more stake_in c.args.elements.now c.loop-element.element-index c.element-item.result c.in-Some.stake c.loop-element-test.true
      c.element-item.is (sym c.in-Some.ensures));
  each = each_more stake_in c.args.elements.now c.loop-element.element-index c.element-item.result c.in-Some.stake c.loop-element-test.true
      c.element-item.is (sym c.in-Some.ensures) c.loop-element.invariant.each;
}
