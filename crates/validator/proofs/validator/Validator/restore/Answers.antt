use Rattle.std.proofs.Common.{ap, sym, ◌∙◌}
use Rattle.sigface.specs.Seeds.{seed_of}
use Rattle.spec_model.specs.Nodes.{Node}
use Rattle.validator.specs.Setting.{node_of}
use Rattle.validator.proofs.validator.Validator.restore.Goals as goal

pub restore-requires : goal.restore-requires
restore-requires g c =
    let node : Node = node_of g.S.Sign.scheme c.args.config.now in
    (node, c.requires.0, sym c.committee.ensures, sym c.own.ensures, c.requires.1)

pub returns-clause-at : goal.returns-clause-at
returns-clause-at g c = λ state is.
    let node : Node = node_of g.S.Sign.scheme c.args.config.now in
    record { sound = is.sound; at = c.in_ok-tables.ensures.at node state (sym c.committee.ensures) (sym c.own.ensures) is }

pub returns-clause-seed : goal.returns-clause-seed
returns-clause-seed g c = c.in_ok-tables.ensures.seed ∙ c.of-seed.ensures ∙ ap (λ s. seed_of (g.S.Sign.scheme.signature_of s)) c.signer.ensures

pub invariant_of-result : goal.invariant_of-result
invariant_of-result g c = record { somewhere = (c.requires.0, returns-clause-at g c c.requires.0 c.requires.1); seed = returns-clause-seed g c }
