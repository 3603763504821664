use Rattle.std.proofs.Common.{sym, subst}
use Rattle.admission.specs.Kept.{IsKeptOf}
use Rattle.spec_model.specs.States.{State}
use Rattle.validator.specs.Setting.{node_of}
use Rattle.test_parts.proofs.restored.member.Member.again.Goals as goal

pub restore-requires : goal.restore-requires
restore-requires g c =
    subst (λ v. (state : State) × IsKeptOf (node_of g.S.Sign.scheme v) state c.args.kept) c.self.invariant
    (subst (λ v. (state : State) × IsKeptOf (node_of g.S.Sign.scheme v.setting) state c.args.kept) (sym c.self.view_is) c.requires)
