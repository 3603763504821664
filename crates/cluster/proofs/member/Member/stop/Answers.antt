use Rattle.std.proofs.Common.{Some, refl, sym, ap, ◌∙◌, subst}
use Rattle.std.proofs.lemmas.Result.{err_from_is_err_and}
use Rattle.std.specs.Prelude.{Ok, Err}
use Rattle.validator.specs.Setting.{node_of}
use Rattle.cluster.specs.Answers.{Became}
use Rattle.cluster.specs.Member.{MemberView}
use Rattle.cluster.specs.declared.error.ClusterError.TheVariants as errors
use Rattle.journal.specs.declared.error.JournalError.TheVariants as journal
use Rattle.cluster.specs.declared.moves.Applied.TheVariants.{Reopened}
use Rattle.cluster.specs.declared.moves.Request.TheVariants.{Stop}
use Rattle.desk.proofs.Worlds.{stops_alone}
use Rattle.cluster.proofs.Members.{asked_ok, asked_some, stopped, was_lost, journal_is}
use Rattle.cluster.proofs.member.Member.stop.Goals as goal

pub restart-requires : goal.restart-requires
restart-requires g c = record { alone = (c.self.invariant c.in-Some.desk (sym c.take.ensures.value ∙ c.in-Some.is)).alone }

pub returns-in_err-collected : goal.returns-in_err-collected
returns-in_err-collected g c = λ accepts.
    let memory = err_from_is_err_and c.from_residual.result c.from_residual.ensures.1 in
    let was = sym c.take.ensures.value ∙ c.in-Some.is in
    let opened = c.in-Ok.ensures.opened in
    let node = node_of g.S.Sign.scheme c.self.inside.config.now in
    let before : MemberView g.row.S.Denot g.row.D.Denot = record { setting = c.self.inside.config.now; desk = c.self.inside.desk; out = c.self.inside.given } in
    let later : MemberView g.row.S.Denot g.row.D.Denot = record { setting = c.self.inside.config.now; desk = Some c.collect-collected.new.desk; out = c.collect-collected.new.given } in
    rw (memory.1, memory.2)
    (subst (λ (m : MemberView g.row.S.Denot g.row.D.Denot). Became (node_of g.S.Sign.scheme m.setting) g.D.Disk.device accepts Stop m later (Err errors.Memory)) c.self.view_is
    (asked_some g.S.Sign.scheme g.D.Disk.device accepts Stop before later c.in-Some.desk c.in-Ok.opened.0 c.collect-collected.new.desk was refl refl
    c.self.inside.config.now c.in-Ok.opened.0.book.validator.setting refl c.in-Ok.ensures.setting (Reopened c.in-Ok.opened.1)
    (λ world at. let to = stops_alone node g.D.Disk.device world c.in-Some.desk at (c.self.invariant c.in-Some.desk was).alone opened.0 opened.1 c.in-Ok.opened.0 opened.2 in
    stopped node g.D.Disk.device world c.in-Some.desk c.in-Ok.opened.0 opened.0 c.in-Ok.opened.1 opened.1 opened.2 opened.3 to.0 to.1 to.2)
    c.in_err-collected.ensures.err))

pub returns : goal.returns
returns g c = λ accepts.
    let was = sym c.take.ensures.value ∙ c.in-Some.is in
    let opened = c.in-Ok.ensures.opened in
    let node = node_of g.S.Sign.scheme c.self.inside.config.now in
    let before : MemberView g.row.S.Denot g.row.D.Denot = record { setting = c.self.inside.config.now; desk = c.self.inside.desk; out = c.self.inside.given } in
    let later : MemberView g.row.S.Denot g.row.D.Denot = record { setting = c.self.inside.config.now; desk = Some c.collect-collected.new.desk; out = c.collect-collected.new.given } in
    subst (λ (m : MemberView g.row.S.Denot g.row.D.Denot). Became (node_of g.S.Sign.scheme m.setting) g.D.Disk.device accepts Stop m later (Ok (Reopened c.in-Ok.opened.1))) c.self.view_is
    (asked_ok g.S.Sign.scheme g.D.Disk.device accepts Stop before later c.in-Some.desk c.in-Ok.opened.0 c.collect-collected.new.desk was refl refl
    c.self.inside.config.now c.in-Ok.opened.0.book.validator.setting refl c.in-Ok.ensures.setting (Reopened c.in-Ok.opened.1)
    (λ world at. let to = stops_alone node g.D.Disk.device world c.in-Some.desk at (c.self.invariant c.in-Some.desk was).alone opened.0 opened.1 c.in-Ok.opened.0 opened.2 in
    stopped node g.D.Disk.device world c.in-Some.desk c.in-Ok.opened.0 opened.0 c.in-Ok.opened.1 opened.1 opened.2 opened.3 to.0 to.1 to.2)
    c.in_ok-collected.ensures.ok (λ is. absurd cc))

pub returns-in-Err : goal.returns-in-Err
returns-in-Err g c = λ accepts.
    let was = sym c.take.ensures.value ∙ c.in-Some.is in
    let before : MemberView g.row.S.Denot g.row.D.Denot = record { setting = c.self.inside.config.now; desk = c.self.inside.desk; out = c.self.inside.given } in
    let later : MemberView g.row.S.Denot g.row.D.Denot = record { setting = c.self.inside.config.now; desk = c.take.new.self; out = c.self.inside.given } in
    subst (λ (m : MemberView g.row.S.Denot g.row.D.Denot). Became (node_of g.S.Sign.scheme m.setting) g.D.Disk.device accepts Stop m later (Err (errors.Journal c.in-Err.error))) c.self.view_is
    (was_lost (node_of g.S.Sign.scheme c.self.inside.config.now) g.D.Disk.device accepts Stop before later refl c.in-Some.desk was c.in-Err.error refl
    (record {
      gone = record { gone = c.take.ensures.after; setting = refl; out = refl };
      desk = c.in-Some.desk;
      was = was;
      device = λ is. c.in-Err.ensures.device (ap (λ e. Err e) (journal_is c.in-Err.error journal.Device is));
      fault = λ world stands. c.in-Err.ensures.refused world (stands.at c.in-Some.desk was);
    }))
