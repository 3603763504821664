use Rattle.std.proofs.Common.{◌≡◌, subst}
use Rattle.sigface.specs.Seeds.{seed_of}
use Rattle.validator.proofs.validator.Validator.limits_hold.Goals as goal

pub returns-clause-seed : goal.returns-clause-seed
returns-clause-seed g c =
    subst (λ v. v.tables.batches.seed ≡ seed_of (g.S.Sign.scheme.signature_of v.setting.signer)) c.self.view_is c.self.invariant.seed
