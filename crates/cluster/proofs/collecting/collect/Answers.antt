use Rattle.std.proofs.Common.{sym, ◌∙◌, subst}
use Rattle.validator.specs.Setting.{node_of}
use Rattle.cluster.specs.Member.{GivenOutView, HasCollectedSome}
use Rattle.cluster.proofs.Releasing.{nothing_collected, none_collected, all_collected, some_collected, on_err, ok_both, err_more}
use Rattle.cluster.proofs.collecting.collect.Goals as goal

pub returns-then-is_down-clause-ok : goal.returns-then-is_down-clause-ok
returns-then-is_down-clause-ok g c = λ world at was.
    nothing_collected (node_of g.S.Sign.scheme c.args.desk.now.book.validator.setting) g.D.Disk.device world c.args.desk.now c.args.given.now (sym c.is_down.ensures ∙ c.if-is_down.true) at was

pub returns-in_err-read_order-clause-err : goal.returns-in_err-read_order-clause-err
returns-in_err-read_order-clause-err g c =
    let node = node_of g.S.Sign.scheme c.args.desk.now.book.validator.setting in
    on_err c.from_residual.result _ (λ world at was.
    subst (λ (o : GivenOutView). HasCollectedSome node g.D.Disk.device world c.args.desk.now c.args.desk.now c.args.given.now o) (sym c.in_err-read_order.ensures.err)
    (none_collected node g.D.Disk.device world c.args.desk.now c.args.given.now at was))

pub returns-clause-ok : goal.returns-clause-ok
returns-clause-ok g c =
    let node = node_of g.S.Sign.scheme c.args.desk.now.book.validator.setting in
    ok_both c.release_all.result _ _ _ (λ released none world at was.
    let read = c.in_ok-read_order.ensures.ok world at was in
    all_collected node g.D.Disk.device world c.args.desk.now c.release_all.new.desk c.args.given.now c.read_order.new.given c.release_all.new.given
    read c.read_order.ensures.outputs (released read.to read.at read.whole)
    (sym c.is_down.ensures ∙ c.if-is_down.false) none) c.release_all.ensures.ok c.release_all.ensures.none_left

pub returns-clause-err : goal.returns-clause-err
returns-clause-err g c =
    let node = node_of g.S.Sign.scheme c.args.desk.now.book.validator.setting in
    err_more c.release_all.result _ _ (λ released world at was.
    let read = c.in_ok-read_order.ensures.ok world at was in
    some_collected node g.D.Disk.device world c.args.desk.now c.release_all.new.desk c.args.given.now c.read_order.new.given c.release_all.new.given
    read c.read_order.ensures.outputs (released read.to read.at read.whole) (sym c.is_down.ensures ∙ c.if-is_down.false))
    c.release_all.ensures.err
