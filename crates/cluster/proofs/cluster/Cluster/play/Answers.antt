use Rattle.std.proofs.Common.{refl, subst, ◌∙◌}
use Rattle.cluster.specs.Applying.{StagesLead}
use Rattle.cluster.proofs.Played.{are_played}
use Rattle.cluster.proofs.cluster.Cluster.play.Goals as goal

pub returns-clause-played : goal.returns-clause-played
returns-clause-played g c =
    let opened = c.in_ok-cluster.ensures in
    let first = c.in_ok-cluster.cluster.members in
    let applied = c.in_ok-answers.ensures.applied in
    let lead = subst (λ (v : g.row.V.Denot). StagesLead g.S.Sign.scheme g.D.Disk.device (g.V.Verify.accepts v) first applied.0 c.apply_all.new.self.members) opened.verifier applied.2 in
    are_played g.S.Sign.scheme g.D.Disk.device (g.V.Verify.accepts c.args.verifier) (λ setting. refl) (λ setting. refl) c.agreement.ensures.side_by_side
    c.args.configs.now first opened.settings c.args.disks.items opened.disks opened.runs opened.begins opened.new
    c.args.moves.items c.in_ok-answers.answers.items applied.0 applied.1 c.apply_all.new.self.members lead

pub returns-clause-verifier : goal.returns-clause-verifier
returns-clause-verifier g c = c.in_ok-answers.ensures.verifier ∙ c.in_ok-cluster.ensures.verifier
