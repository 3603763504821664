use Rattle.std.proofs.Common.{◌≡◌, true, false, subst, sym, ◌∙◌}
use Rattle.spec_machine.specs.Machine.{answered, is_missing_parents}
use Rattle.spec_model.specs.States.{State}
use Rattle.node_shared.specs.Home.{IsBase, seen_in}
use Rattle.validator.specs.Setting.{node_of}
use Rattle.node_run.proofs.Taken.{not_true, not_false}
use Rattle.node_run.proofs.caller.Caller.is_ready.Goals as goal

pub returns-then-passes-clause-ready : goal.returns-then-passes-clause-ready
returns-then-passes-clause-ready g c = λ is.
    subst (λ it. (base : State) → IsBase g.S.Sign.scheme it.node base
    → is_missing_parents (answered (node_of g.S.Sign.scheme it.node.setting) (seen_in (node_of g.S.Sign.scheme it.node.setting) base c.ready.new.self.seat) c.args.event.now) ≡ false)
    c.self.view_is (λ base at. not_true _ (sym (c.ready.ensures.ready base at) ∙ is))

pub returns-then-passes-clause-lacks : goal.returns-then-passes-clause-lacks
returns-then-passes-clause-lacks g c = λ _ _ is.
    subst (λ it. (base : State) → IsBase g.S.Sign.scheme it.node base
    → is_missing_parents (answered (node_of g.S.Sign.scheme it.node.setting) (seen_in (node_of g.S.Sign.scheme it.node.setting) base c.ready.new.self.seat) c.args.event.now) ≡ true)
    c.self.view_is (λ base at. not_false _ (sym (c.ready.ensures.ready base at) ∙ is))
