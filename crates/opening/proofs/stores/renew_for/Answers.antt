use Rattle.validator.specs.Setting.{node_of}
use Rattle.opening.specs.Finished.{at_renewal}
use Rattle.opening.proofs.PairOpening.{placed_by, first_by}
use Rattle.opening.proofs.stores.renew_for.Goals as goal

pub returns-in-Ok : goal.returns-in-Ok
returns-in-Ok g c =
    let node = node_of g.S.Sign.scheme c.args.config.now in
    record {
      set = c.requires.setting;
      stands = c.requires.stands;
      is = c.in-Ok.ensures.renewed;
      placed = placed_by node g.D.Disk.device c.args.journal c.renew.new.journal c.args.version c.requires.version c.in-Ok.ensures.placed;
    }

pub returns : goal.returns
returns g c =
    let node = node_of g.S.Sign.scheme c.args.config.now in
    at_renewal c.renew.new.journal c.in-Err.ensures.renewed (first_by node g.D.Disk.device c.args.journal c.renew.new.journal c.args.version c.requires.version c.in-Err.error c.in-Err.ensures.first)
    c.into_store.ensures
