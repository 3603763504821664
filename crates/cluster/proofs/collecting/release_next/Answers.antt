use Rattle.std.proofs.Common.{◌++◌, ◌∷◌, [], List, sym, ap, ◌∙◌}
use Rattle.spec_model.specs.Words.{Output}
use Rattle.validator.specs.Setting.{node_of}
use Rattle.cluster.specs.Member.{GivenOutView}
use Rattle.cluster.proofs.Releasing.{next_released}
use Rattle.cluster.proofs.collecting.release_next.Goals as goal

pub returns-in-Some-clause-some : goal.returns-in-Some-clause-some
returns-in-Some-clause-some g c = λ _.
    let before : GivenOutView = c.args.given.now in
    let later : GivenOutView = record { outputs = c.push_reserved.new.self.items; order = c.given.inside.order.items } in
    let outputs = c.push_reserved.ensures.items ∙ ap (λ (l : List Output). l ++ c.in-Some.output ∷ []) (c.in_ok-reserve.ensures.items ∙ ap (λ (o : GivenOutView). o.outputs) c.given.view_is) in
    next_released (node_of g.S.Sign.scheme c.args.desk.now.book.validator.setting) g.D.Disk.device c.args.desk.now c.release.new.self c.in-Some.output before later
    (sym c.in-Some.ensures.output) c.in-Some.ensures.queue outputs (ap (λ (o : GivenOutView). o.order) c.given.view_is) c.in-Some.ensures.step
