use Rattle.spec_model.specs.Giving.{kept}
use Rattle.validator.specs.Setting.{node_of}
use Rattle.opening.proofs.stores.both_are_decoded.Goals as goal

pub returns : goal.returns
returns g c = λ areas is.
    let node = node_of g.S.Sign.scheme c.args.config.now in
    let found = c.worlds_are_decoded_in.ensures node is.moves is.world areas c.limits_hold.ensures c.keys_hold.ensures is.run is.may_stop in
    (kept node found.history, found.is_decoded)
