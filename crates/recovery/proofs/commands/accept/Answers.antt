use Rattle.std.proofs.Common.{sym, ap, subst}
use Rattle.std.proofs.lemmas.Result.{on_ok_weaker}
use Rattle.desk.specs.Desk.{DeskView}
use Rattle.journal.specs.declared.journal.Journal.{Journal}
use Rattle.spec_world.specs.Text.{after, take_in}
use Rattle.validator.specs.Setting.{node_of}
use Rattle.recovery.specs.Script.{IsOf}
use Rattle.wire_write.proofs.Appending.{on_err_more}
use Rattle.recovery.proofs.Desks.{accepted_is, count_is}
use Rattle.recovery.proofs.commands.accept.Goals as goal

pub returns-clause-ok : goal.returns-clause-ok
returns-clause-ok g c =
    on_ok_weaker c.unless_memory.result (λ never script is.
    let before = c.args.desk.now.book in
    let node = node_of g.S.Sign.scheme before.validator.setting in
    subst (λ (j : Journal g.row.D.Denot). IsOf node g.D.Disk.device (after node script (take_in c.args.event)) c.accept.new.self.book j) (sym c.accept.ensures.same)
    (accepted_is node g.D.Disk.device script before c.accept.new.self.book c.args.desk.now.journal is c.args.event
    c.accept.result c.requires.room c.accept.ensures.new c.accept.ensures.known c.accept.ensures.refused
    (on_err_more c.accept.result _ _ (λ same. ap (λ (d : DeskView g.row.S.Denot g.row.D.Denot). d.book) same) c.accept.ensures.err) never))
    c.unless_memory.ensures.ok

pub returns-clause-count : goal.returns-clause-count
returns-clause-count g c =
    let before = c.args.desk.now.book in
    count_is (node_of g.S.Sign.scheme before.validator.setting) before c.accept.new.self.book c.args.event c.accept.result c.accept.ensures.new c.accept.ensures.known
    (on_err_more c.accept.result _ _ (λ same. ap (λ (d : DeskView g.row.S.Denot g.row.D.Denot). d.book) same) c.accept.ensures.err)
