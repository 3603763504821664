use Rattle.std.proofs.Common.{Some, refl, sym, ap, ◌∙◌, subst}
use Rattle.std.proofs.lemmas.Result.{err_from_is_err_and}
use Rattle.std.specs.Prelude.{Option, Result, Ok, Err}
use Rattle.desk.specs.Desk.{DeskView}
use Rattle.validator.specs.Setting.{node_of}
use Rattle.cluster.specs.Answers.{Became}
use Rattle.cluster.specs.Member.{MemberView}
use Rattle.cluster.specs.declared.error.ClusterError.{ClusterError}
use Rattle.cluster.specs.declared.error.ClusterError.TheVariants as errors
use Rattle.cluster.specs.declared.moves.Applied.{Applied}
use Rattle.cluster.specs.declared.moves.Request.{Request}
use Rattle.cluster.specs.declared.moves.Request.TheVariants.{Take}
use Rattle.cluster.proofs.Members.{asked_ok, asked_some, was_not_asked}
use Rattle.cluster.proofs.member.Member.take_in.Goals as goal

pub returns-in_err-applied-clause-became : goal.returns-in_err-applied-clause-became
returns-in_err-applied-clause-became g c =
    let accepts = g.V.Verify.accepts c.args.verifier.now in
    let asked : Request = Take c.args.sender c.args.message in
    let memory = err_from_is_err_and c.from_residual.result c.from_residual.ensures.1 in
    let before : MemberView g.row.S.Denot g.row.D.Denot = record { setting = c.self.inside.config.now; desk = c.self.inside.desk; out = c.self.inside.given } in
    let there = record before { desk = Some c.in-Some.desk } in
    rw (c.in_err-applied.ensures.err) (subst (λ (r : Result Applied ClusterError). Became (node_of g.S.Sign.scheme c.args.self.now.setting) g.D.Disk.device accepts asked c.args.self.now there r)
    (sym (memory.1 ∙ ap (λ (e : ClusterError). Err e) (memory.2 ∙ c.in_err-applied.ensures.errors)))
    (subst (λ (m : MemberView g.row.S.Denot g.row.D.Denot). Became (node_of g.S.Sign.scheme m.setting) g.D.Disk.device accepts asked m there (Err errors.Memory)) c.self.view_is
    (subst (λ (d : Option (DeskView g.row.S.Denot g.row.D.Denot)). Became (node_of g.S.Sign.scheme c.self.inside.config.now) g.D.Disk.device accepts asked
    (record before { desk = d }) there (Err errors.Memory)) (sym c.in-Some.is)
    (was_not_asked (node_of g.S.Sign.scheme c.self.inside.config.now) g.D.Disk.device accepts asked there c.in-Some.desk refl))))

pub returns-in_err-collect-clause-became : goal.returns-in_err-collect-clause-became
returns-in_err-collect-clause-became g c =
    let accepts = g.V.Verify.accepts c.args.verifier.now in
    let asked : Request = Take c.args.sender c.args.message in
    let memory = err_from_is_err_and c.from_residual-in_err-collect.result c.from_residual-in_err-collect.ensures.1 in
    let own = (c.self.invariant c.in-Some.desk c.in-Some.is).set in
    let before : MemberView g.row.S.Denot g.row.D.Denot = record { setting = c.self.inside.config.now; desk = c.self.inside.desk; out = c.self.inside.given } in
    let later : MemberView g.row.S.Denot g.row.D.Denot = record { setting = c.self.inside.config.now; desk = Some c.collect.new.desk; out = c.collect.new.given } in
    rw (memory.1, memory.2)
    (subst (λ (m : MemberView g.row.S.Denot g.row.D.Denot). Became (node_of g.S.Sign.scheme m.setting) g.D.Disk.device accepts asked m later (Err errors.Memory)) c.self.view_is
    (asked_some g.S.Sign.scheme g.D.Disk.device accepts asked before later c.in-Some.desk c.offer.new.desk c.collect.new.desk c.in-Some.is refl refl
    c.in-Some.desk.book.validator.setting c.offer.new.desk.book.validator.setting own (c.offer.ensures.setting ∙ own) c.in_ok-applied.applied
    c.in_ok-applied.ensures.ok c.in_err-collect.ensures.err))

pub returns-clause-became : goal.returns-clause-became
returns-clause-became g c =
    let accepts = g.V.Verify.accepts c.args.verifier.now in
    let asked : Request = Take c.args.sender c.args.message in
    let own = (c.self.invariant c.in-Some.desk c.in-Some.is).set in
    let before : MemberView g.row.S.Denot g.row.D.Denot = record { setting = c.self.inside.config.now; desk = c.self.inside.desk; out = c.self.inside.given } in
    let later : MemberView g.row.S.Denot g.row.D.Denot = record { setting = c.self.inside.config.now; desk = Some c.collect.new.desk; out = c.collect.new.given } in
    subst (λ (m : MemberView g.row.S.Denot g.row.D.Denot). Became (node_of g.S.Sign.scheme m.setting) g.D.Disk.device accepts asked m later (Ok c.in_ok-applied.applied)) c.self.view_is
    (asked_ok g.S.Sign.scheme g.D.Disk.device accepts asked before later c.in-Some.desk c.offer.new.desk c.collect.new.desk c.in-Some.is refl refl
    c.in-Some.desk.book.validator.setting c.offer.new.desk.book.validator.setting own (c.offer.ensures.setting ∙ own) c.in_ok-applied.applied
    c.in_ok-applied.ensures.ok c.in_ok-collect.ensures.ok (λ is. absurd cc))
