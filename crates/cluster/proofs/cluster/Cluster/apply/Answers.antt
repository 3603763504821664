use Rattle.std.proofs.Common.{sym, ap, ◌∙◌, subst}
use Rattle.std.proofs.lemmas.Result.{err_from_is_err_and}
use Rattle.std.specs.Prelude.{Result, Err}
use Rattle.spec_model.specs.Words.{Author}
use Rattle.validator.specs.Setting.{node_of}
use Rattle.cluster.specs.Answers.{Became}
use Rattle.cluster.specs.Cluster.{IsAsked, IsApplied}
use Rattle.cluster.specs.Member.{MemberView}
use Rattle.cluster.specs.declared.error.ClusterError.{ClusterError}
use Rattle.cluster.specs.declared.error.ClusterError.TheVariants.{NoSuchNode, NoSuchOutput}
use Rattle.cluster.specs.declared.moves.Applied.{Applied}
use Rattle.cluster.proofs.Applications.{was_applied, not_applied, err_as}
use Rattle.cluster.proofs.cluster.Cluster.apply.Goals as goal

pub returns-in_err-node-clause-applied : goal.returns-in_err-node-clause-applied
returns-in_err-node-clause-applied g c =
    let accepts = g.V.Verify.accepts c.args.self.now.verifier in
    let members = c.args.self.now.members in
    let error : ClusterError = c.in_err-node.field-0.0 in
    let answer = err_from_is_err_and c.from_residual.result c.from_residual.ensures.1 in
    let reported = c.in_err-node.ensures in
    subst (λ (r : Result Applied ClusterError). IsApplied g.S.Sign.scheme g.D.Disk.device accepts members c.args.step members r)
    (sym (answer.1 ∙ ap (λ (e : ClusterError). Err e) answer.2))
    (not_applied g.S.Sign.scheme g.D.Disk.device accepts members c.args.step error (err_as error NoSuchNode _ reported.no_node) (err_as error NoSuchOutput _ reported.no_output)
    (λ is. reported.memory (ap (λ e. Err e) is)) reported.never)

pub returns-clause-applied : goal.returns-clause-applied
returns-clause-applied g c =
    let accepts = g.V.Verify.accepts c.args.self.now.verifier in
    let members = c.args.self.now.members in
    let later = c.ask.new.self.members in
    was_applied g.S.Sign.scheme g.D.Disk.device accepts members c.args.step c.in_ok-node.request later c.ask.result c.in_ok-node.ensures.ok.1
    (subst (λ (n : Author). IsAsked (λ (one other : MemberView g.row.S.Denot g.row.D.Denot). Became (node_of g.S.Sign.scheme one.setting) g.D.Disk.device accepts
    c.in_ok-node.request one other c.ask.result) n members later c.ask.result) c.in_ok-node.ensures.ok.0 c.ask.ensures.asked)
