use Rattle.std.proofs.Common.{◌≡◌, List, [], ◌∷◌, ◌++◌, Result, refl, sym, ap, ◌∙◌, subst, rules, map-id}
use Rattle.std.proofs.lemmas.Iterator.Consumers.{YieldsList-end}
use Rattle.std.proofs.lemmas.Iterator.Adapters.{YieldsList-from_vec}
use Rattle.cluster.specs.Applying.{Stage, AreAnswered, moved}
use Rattle.cluster.specs.Cluster.{IsApplied}
use Rattle.cluster.specs.declared.error.ClusterError.{ClusterError}
use Rattle.cluster.specs.declared.moves.Applied.{Applied}
use Rattle.cluster.specs.declared.moves.Move.{Move}
use Rattle.cluster.proofs.Played.{lead_more, answered_more}
use Rattle.cluster.proofs.cluster.Cluster.apply_all.Goals as goal

pub loop-step-preserved : goal.loop-step-preserved
loop-step-preserved g c =
    let scheme = g.S.Sign.scheme in
    let device = g.D.Disk.device in
    let before = c.loop-step.self in
    let later = c.apply.new.self in
    let so_far = c.loop-step.invariant in
    let step : Move = c.in-Some.step in
    let one : Stage g.row.S.Denot g.row.D.Denot = record { before = before.members; doing = moved step c.apply.result; later = later.members } in
    let items = c.push_reserved.ensures.items ∙ ap (λ (l : List (Result Applied ClusterError)). l ++ c.apply.result ∷ []) c.in_ok-reserve.ensures.items in
    record {
      verifier = c.apply.ensures.verifier ∙ so_far.verifier;
      stages = so_far.stages ++ one ∷ [];
      made = subst (λ (answers : List (Result Applied ClusterError)). AreAnswered (so_far.stages ++ one ∷ []) (c.loop-step.yielded ++ step ∷ []) answers) (sym items)
          (answered_more scheme device (g.V.Verify.accepts c.args.self.now.verifier) so_far.stages c.loop-step.yielded c.loop-step.answers.items so_far.made one step c.apply.result refl refl);
      lead = lead_more scheme device (g.V.Verify.accepts c.args.self.now.verifier) so_far.stages c.args.self.now.members one so_far.lead
          (subst (λ (v : g.row.V.Denot). IsApplied scheme device (g.V.Verify.accepts v) before.members step later.members c.apply.result) so_far.verifier c.apply.ensures.applied);
    }

pub returns-clause-applied : goal.returns-clause-applied
returns-clause-applied g c =
    let moves = c.args.moves.items in
    let so_far = c.loop-step.invariant in
    let end = YieldsList-end (YieldsList-from_vec {s = c.into_iter-step-iterator.result} moves (search rules) (search rules)) c.loop-step.yielded
    c.loop-step.step-iterator c.loop-step.yielded_by c.next.result c.next.new.self c.in-None.is c.next.ensures.steps in
    let whole : c.loop-step.yielded ≡ moves = sym (map-id c.loop-step.yielded) ∙ end.0 in
    (so_far.stages, subst (λ (moves : List Move). AreAnswered so_far.stages moves c.loop-step.answers.items) whole so_far.made, so_far.lead)
