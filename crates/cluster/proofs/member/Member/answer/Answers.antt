use Rattle.std.proofs.Common.{sym, subst}
use Rattle.validator.specs.Setting.{node_of}
use Rattle.cluster.specs.Answers.{Became}
use Rattle.cluster.specs.declared.moves.Request.{Request}
use Rattle.cluster.proofs.member.Member.answer.Goals as goal

pub returns-in-Round : goal.returns-in-Round
returns-in-Round g c =
    let accepts = g.V.Verify.accepts c.args.verifier.now in
    subst (λ (r : Request). Became (node_of g.S.Sign.scheme c.args.self.now.setting) g.D.Disk.device accepts r c.args.self.now c.flush.new.self c.flush.result)
    (sym c.in-Round.is) (c.flush.ensures.became accepts)

pub returns-in-Stop : goal.returns-in-Stop
returns-in-Stop g c =
    let accepts = g.V.Verify.accepts c.args.verifier.now in
    subst (λ (r : Request). Became (node_of g.S.Sign.scheme c.args.self.now.setting) g.D.Disk.device accepts r c.args.self.now c.stop.new.self c.stop.result)
    (sym c.in-Stop.is) (c.stop.ensures accepts)
