use Rattle.std.proofs.Common.{◌≡◌, true, false, ap, subst, sym, ◌∙◌}
use Rattle.std.specs.Prelude.{is_some}
use Rattle.wire.specs.Lists.{Begins}
use Rattle.spec_machine.specs.Machine.{answered, is_missing_parents}
use Rattle.spec_model.specs.States.{State}
use Rattle.node_shared.specs.Home.{IsBase, seen_in}
use Rattle.validator.specs.Setting.{node_of}
use Rattle.node_run.proofs.Taken.{not_false, not_true, other_goes, ready_goes}
use Rattle.node_run.proofs.caller.Caller.may_go.Goals as goal

pub returns-in-Some-clause-waits : goal.returns-in-Some-clause-waits
returns-in-Some-clause-waits g c = λ waits. record {
  certificate = ap is_some (sym c.in-Some.ensures);
  lacks = subst (λ it. (base : State) → IsBase g.S.Sign.scheme it.node base
      → is_missing_parents (answered (node_of g.S.Sign.scheme it.node.setting) (seen_in (node_of g.S.Sign.scheme it.node.setting) base c.ready.new.self.seat) c.args.event.now) ≡ true)
      c.self.view_is (λ base at. not_false _ (sym (c.ready.ensures.ready base at) ∙ waits));
}

pub returns-in-Some-clause-goes : goal.returns-in-Some-clause-goes
returns-in-Some-clause-goes g c = λ goes.
    ready_goes g.S.Sign.scheme c.args.self.now.node c.args.event.now c.args.self.now c.ready.new.self
    (subst (λ it. Begins it.seat.view.seen c.ready.new.self.seat.view.seen) c.self.view_is c.ready.ensures.looked.more)
    (subst (λ it. (base : State) → IsBase g.S.Sign.scheme it.node base
    → is_missing_parents (answered (node_of g.S.Sign.scheme it.node.setting) (seen_in (node_of g.S.Sign.scheme it.node.setting) base c.ready.new.self.seat) c.args.event.now) ≡ false)
    c.self.view_is (λ base at. not_true _ (sym (c.ready.ensures.ready base at) ∙ goes)))

pub returns-in-None-clause-goes : goal.returns-in-None-clause-goes
returns-in-None-clause-goes g c = λ _. other_goes g.S.Sign.scheme c.args.self.now.node c.args.event.now c.args.self.now (sym c.in-None.ensures)
