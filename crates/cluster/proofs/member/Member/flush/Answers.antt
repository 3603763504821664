use Rattle.std.proofs.Common.{◌<◌, Some, refl, sym, ◌∙◌, subst}
use Rattle.std.proofs.lemmas.Result.{err_from_is_err_and}
use Rattle.std.specs.Prelude.{Ok, Err}
use Rattle.validator.specs.Setting.{node_of}
use Rattle.cluster.specs.Answers.{Became}
use Rattle.cluster.specs.Member.{MemberView}
use Rattle.cluster.specs.declared.error.ClusterError.TheVariants as errors
use Rattle.journal.specs.Journal.{disk_of}
use Rattle.journal.specs.declared.journal.Journal.{Journal}
use Rattle.cluster.specs.declared.moves.Request.TheVariants.{Round}
use Rattle.cluster.proofs.Members.{asked_ok, asked_some}
use Rattle.cluster.proofs.member.Member.flush.Goals as goal

pub returns-in_err-collect-clause-became : goal.returns-in_err-collect-clause-became
returns-in_err-collect-clause-became g c = λ accepts.
    let memory = err_from_is_err_and c.from_residual.result c.from_residual.ensures.1 in
    let own = (c.self.invariant c.in-Some.desk c.in-Some.is).set in
    let before : MemberView g.row.S.Denot g.row.D.Denot = record { setting = c.self.inside.config.now; desk = c.self.inside.desk; out = c.self.inside.given } in
    let later : MemberView g.row.S.Denot g.row.D.Denot = record { setting = c.self.inside.config.now; desk = Some c.collect.new.desk; out = c.collect.new.given } in
    rw (memory.1, memory.2)
    (subst (λ (m : MemberView g.row.S.Denot g.row.D.Denot). Became (node_of g.S.Sign.scheme m.setting) g.D.Disk.device accepts Round m later (Err errors.Memory)) c.self.view_is
    (asked_some g.S.Sign.scheme g.D.Disk.device accepts Round before later c.in-Some.desk c.round-applied.new.desk c.collect.new.desk c.in-Some.is refl refl
    c.in-Some.desk.book.validator.setting c.round-applied.new.desk.book.validator.setting own (c.round-applied.ensures.setting ∙ own) c.round-applied.result
    c.round-applied.ensures.moved c.in_err-collect.ensures.err))

pub returns-clause-became : goal.returns-clause-became
returns-clause-became g c = λ accepts.
    let own = (c.self.invariant c.in-Some.desk c.in-Some.is).set in
    let before : MemberView g.row.S.Denot g.row.D.Denot = record { setting = c.self.inside.config.now; desk = c.self.inside.desk; out = c.self.inside.given } in
    let later : MemberView g.row.S.Denot g.row.D.Denot = record { setting = c.self.inside.config.now; desk = Some c.collect.new.desk; out = c.collect.new.given } in
    subst (λ (m : MemberView g.row.S.Denot g.row.D.Denot). Became (node_of g.S.Sign.scheme m.setting) g.D.Disk.device accepts Round m later (Ok c.round-applied.result)) c.self.view_is
    (asked_ok g.S.Sign.scheme g.D.Disk.device accepts Round before later c.in-Some.desk c.round-applied.new.desk c.collect.new.desk c.in-Some.is refl refl
    c.in-Some.desk.book.validator.setting c.round-applied.new.desk.book.validator.setting own (c.round-applied.ensures.setting ∙ own) c.round-applied.result
    c.round-applied.ensures.moved c.in_ok-collect.ensures.ok
    (λ round is. record {
      desk = c.in-Some.desk;
      next = c.collect.new.desk;
      was = c.in-Some.is;
      is = refl;
      more = subst (λ (j : Journal g.row.D.Denot). g.D.Disk.device.faults (disk_of c.in-Some.desk.journal) < g.D.Disk.device.faults (disk_of j))
          (sym c.collect.ensures.journal) (c.round-applied.ensures.device is);
    }))
