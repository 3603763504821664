use Rattle.std.proofs.Common.{◌≡◌, ◌++◌, drop, List, length, ap, ◌∙◌}
use Rattle.book.specs.Steps.{run_of}
use Rattle.spec_model.specs.Holdings.{order}
use Rattle.spec_model.specs.Words.{Digest}
use Rattle.spec_world.specs.Lasting.{settled_in}
use Rattle.validator.specs.Setting.{node_of}
use Rattle.cluster.specs.Member.{GivenOutView}
use Rattle.cluster.proofs.Releasing.{order_settled, has_read, ok_more, grown}
use Rattle.cluster.proofs.collecting.read_order.Goals as goal

pub returns-in-Ok-clause-ok : goal.returns-in-Ok-clause-ok
returns-in-Ok-clause-ok g c =
    let node = node_of g.S.Sign.scheme c.args.desk.now.book.validator.setting in
    let before : GivenOutView = c.args.given.now in
    let old = c.given.inside.order.items in
    let new = c.extend_from_slice.new.self.items in
    let later : GivenOutView = record { outputs = c.given.inside.outputs.items; order = new } in
    let from : c.len.result ≡ length before.order = c.len.ensures ∙ c.given.inside.order.ok.0 ∙ ap (λ (o : GivenOutView). length o.order) c.given.view_is in
    ok_more c.extend_from_slice.result _ _
    (λ is world at was.
    let more = c.as_slice.ensures.value ∙ c.in-Ok.ensures.order (run_of node world) at.is_of_world.stands
    ∙ ap (drop c.len.result) (order_settled node g.D.Disk.device world c.args.desk.now at) in
    let digests : new ≡ before.order ++ drop (length before.order) (order node (settled_in world)) =
    is ∙ ap (λ (l : List Digest). l ++ c.as_slice.result.now) (ap (λ (o : GivenOutView). o.order) c.given.view_is)
    ∙ ap (λ (l : List Digest). before.order ++ l) more ∙ ap (λ n. before.order ++ drop n (order node (settled_in world))) from in
    has_read node g.D.Disk.device world c.args.desk.now before later at was (c.in-Ok.ensures.step world at) (ap (λ (o : GivenOutView). o.outputs) c.given.view_is) digests)
    (grown c.extend_from_slice.result old c.as_slice.result.now new c.extend_from_slice.ensures.items)
