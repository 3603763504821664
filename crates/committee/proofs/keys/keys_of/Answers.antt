use Rattle.std.proofs.Common.{◌∙◌, ◌++◌, ◌∷◌, [], map, ap, sym, arith}
use Rattle.std.proofs.lemmas.List.{take_all}
use Rattle.std.specs.List.{list_any, filter_map}
use Rattle.toml.specs.View.{view}
use Rattle.committee.proofs.ElementLemmas.{read_more, each_more, none_at}
use Rattle.committee.proofs.MemoryLemmas.{no_value, no_other}
use Rattle.committee.specs.Keys.{key_of, is_no_key}
use Rattle.committee.proofs.keys.keys_of.Goals as goal

pub returns-in-None-clause-cause : goal.returns-in-None-clause-cause
returns-in-None-clause-cause c _ = none_at key_of c.args.elements.now c.loop-element.element-index c.element-item.result c.loop-element-test.true c.element-item.is (sym c.in-None.ensures)

pub loop-element-preserved : goal.loop-element-preserved
loop-element-preserved c = record {
  keys = c.in_ok-push-in-Some.ensures.items ∙ ap (λ before. before ++ c.in-Some.key ∷ []) c.loop-element.invariant.keys
      ∙ sym (read_more key_of c.args.elements.now c.loop-element.element-index c.element-item.result c.in-Some.key c.loop-element-test.true
      c.element-item.is (sym c.in-Some.ensures));
  each = each_more key_of c.args.elements.now c.loop-element.element-index c.element-item.result c.in-Some.key c.loop-element-test.true
      c.element-item.is (sym c.in-Some.ensures) c.loop-element.invariant.each;
}

pub returns-in_err-push-in-Some-clause-each : goal.returns-in_err-push-in-Some-clause-each
returns-in_err-push-in-Some-clause-each c = no_value c.from_residual.result _ c.from_residual.ensures.1

pub returns-in_err-push-in-Some-clause-keys : goal.returns-in_err-push-in-Some-clause-keys
returns-in_err-push-in-Some-clause-keys c = no_value c.from_residual.result _ c.from_residual.ensures.1

pub returns-in_err-push-in-Some-clause-cause : goal.returns-in_err-push-in-Some-clause-cause
returns-in_err-push-in-Some-clause-cause c = no_other c.from_residual.result _ c.from_residual.ensures.1

pub returns-in_err-push-in-Some-clause-error : goal.returns-in_err-push-in-Some-clause-error
returns-in_err-push-in-Some-clause-error c = no_other c.from_residual.result _ c.from_residual.ensures.1

pub returns-clause-each : goal.returns-clause-each
returns-clause-each c =
    sym (ap (λ l. list_any is_no_key (map view l))
    (take_all c.loop-element.element-index c.args.elements.now (omega (arith, c.loop-element-test.false)))) ∙ c.loop-element.invariant.each

pub returns-clause-keys : goal.returns-clause-keys
returns-clause-keys c = c.loop-element.invariant.keys ∙ ap (λ l. filter_map key_of (map view l)) (take_all c.loop-element.element-index c.args.elements.now (omega (arith, c.loop-element-test.false)))
