use Rattle.std.proofs.Common.{refl, sym, ap, ◌∙◌, subst, length, arith}
use Rattle.book.specs.Book as book
use Rattle.desk.specs.Desk.{DeskView}
use Rattle.validator.specs.Setting.{ConfigView, node_of}
use Rattle.cluster.specs.Collecting.{HasReleased, IsReleasedNext}
use Rattle.cluster.specs.Member.{GivenOutView}
use Rattle.cluster.proofs.Releasing.{none_released, released_more, on_err}
use Rattle.cluster.proofs.collecting.release_all.Goals as goal

pub releasing-init : goal.releasing-init
releasing-init g c = record {
  so_far = λ world at whole. none_released (node_of g.S.Sign.scheme c.args.desk.now.book.validator.setting) g.D.Disk.device world c.args.desk.now c.args.given.now at whole;
  setting = refl;
  journal = refl;
}

pub releasing-preserved : goal.releasing-preserved
releasing-preserved g c =
    let node = node_of g.S.Sign.scheme c.args.desk.now.book.validator.setting in
    let more = subst (λ (s : ConfigView g.row.S.Denot). IsReleasedNext (node_of g.S.Sign.scheme s) g.D.Disk.device c.releasing.desk
    c.release_next.new.desk c.releasing.given c.release_next.new.given) c.releasing.invariant.setting
    (c.in_ok-release_next.ensures.some c.if-branch.true) in
    record {
      so_far = λ world at whole. released_more node g.D.Disk.device world c.args.desk.now c.releasing.desk c.release_next.new.desk c.args.given.now
          c.releasing.given c.release_next.new.given (c.releasing.invariant.so_far world at whole) more;
      setting = c.release_next.ensures.setting ∙ c.releasing.invariant.setting;
      journal = c.release_next.ensures.journal ∙ c.releasing.invariant.journal;
    }

pub releasing-smaller : goal.releasing-smaller
releasing-smaller g c =
    let more = c.in_ok-release_next.ensures.some c.if-branch.true in
    omega (arith, ap length more.queue)

pub returns-in_err-release_next-clause-err : goal.returns-in_err-release_next-clause-err
returns-in_err-release_next-clause-err g c =
    let node = node_of g.S.Sign.scheme c.args.desk.now.book.validator.setting in
    let same = c.in_err-release_next.ensures.err in
    on_err c.from_residual.result _ (λ world at whole.
    subst (λ (d : DeskView g.row.S.Denot g.row.D.Denot). HasReleased node g.D.Disk.device world c.args.desk.now d c.args.given.now c.release_next.new.given) (sym same.0)
    (subst (λ (o : GivenOutView). HasReleased node g.D.Disk.device world c.args.desk.now c.releasing.desk c.args.given.now o) (sym same.1) (c.releasing.invariant.so_far world at whole)))

pub returns-in_err-release_next-clause-setting : goal.returns-in_err-release_next-clause-setting
returns-in_err-release_next-clause-setting g c = c.release_next.ensures.setting ∙ c.releasing.invariant.setting

pub returns-clause-ok : goal.returns-clause-ok
returns-clause-ok g c =
    let node = node_of g.S.Sign.scheme c.args.desk.now.book.validator.setting in
    let same = c.in_ok-release_next.ensures.none c.if-branch.false in
    λ world at whole.
    subst (λ (d : DeskView g.row.S.Denot g.row.D.Denot). HasReleased node g.D.Disk.device world c.args.desk.now d c.args.given.now c.release_next.new.given) (sym same.1)
    (subst (λ (o : GivenOutView). HasReleased node g.D.Disk.device world c.args.desk.now c.releasing.desk c.args.given.now o) (sym same.2) (c.releasing.invariant.so_far world at whole))

pub returns-clause-none_left : goal.returns-clause-none_left
returns-clause-none_left g c =
    let same = c.in_ok-release_next.ensures.none c.if-branch.false in
    ap (λ (d : DeskView g.row.S.Denot g.row.D.Denot). book.releasable d.book) same.1 ∙ same.0

pub returns-clause-setting : goal.returns-clause-setting
returns-clause-setting g c = c.release_next.ensures.setting ∙ c.releasing.invariant.setting

pub returns-in_err-release_next-clause-journal : goal.returns-in_err-release_next-clause-journal
returns-in_err-release_next-clause-journal g c = c.release_next.ensures.journal ∙ c.releasing.invariant.journal

pub returns-clause-journal : goal.returns-clause-journal
returns-clause-journal g c = c.release_next.ensures.journal ∙ c.releasing.invariant.journal
