use Rattle.std.proofs.Common.{ap, sym, ◌∙◌}
use Rattle.sigface.specs.Seeds.{seed_of}
use Rattle.spec_machine.specs.Machine.{fresh}
use Rattle.spec_model.specs.Nodes.{Node}
use Rattle.validator.specs.Setting.{node_of}
use Rattle.validator.proofs.validator.Validator.new.Goals as goal

pub returns-clause-at : goal.returns-clause-at
returns-clause-at g c =
    let node : Node = node_of g.S.Sign.scheme c.args.config.now in
    record { sound = c.fresh_is_sound.ensures node c.limits_hold.ensures; at = c.in_ok-tables.ensures.at node (sym c.committee.ensures) (sym c.own.ensures) }

pub returns-clause-seed : goal.returns-clause-seed
returns-clause-seed g c = c.in_ok-tables.ensures.seed ∙ c.of-seed.ensures ∙ ap (λ s. seed_of (g.S.Sign.scheme.signature_of s)) c.signer.ensures

pub invariant_of-result : goal.invariant_of-result
invariant_of-result g c =
    let node : Node = node_of g.S.Sign.scheme c.args.config.now in
    record { somewhere = (fresh node, returns-clause-at g c); seed = returns-clause-seed g c }
