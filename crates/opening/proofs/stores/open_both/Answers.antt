use Rattle.std.proofs.Common.{[], sym, ◌∙◌}
use Rattle.opening.proofs.PairOpening.{open_failed, finished}
use Rattle.opening.proofs.stores.open_both.Goals as goal

pub finish_on-requires-clause-config : goal.finish_on-requires-clause-config
finish_on-requires-clause-config g c = c.in-Ok.ensures.records.2.config ∙ c.new-replay.ensures.config

pub finish_on-requires-clause-records : goal.finish_on-requires-clause-records
finish_on-requires-clause-records g c =
    let taken = c.in-Ok.ensures.records in
    (taken.0, c.in-Ok.ensures.same ∙ taken.1, taken.2.taken [] c.new-replay.ensures.none)

pub returns-in-Ok : goal.returns-in-Ok
returns-in-Ok g c =
    let is = c.in-Ok.ensures in
    let taken = is.records in
    finished g.S.Sign.scheme g.D.Disk.device c.args.config.now c.args.first c.args.second c.both_are_decoded.ensures c.in-Ok.journal is.content.0 is.any_moment is.same is.cause.0
    (g.met.D.Disk.content_is_outcome c.args.first) (g.met.D.Disk.content_is_outcome c.args.second) c.starts_fresh.ensures c.limits_hold.ensures c.keys_hold.ensures is.content.1 taken.0
    (taken.2.taken [] c.new-replay.ensures.none).texts taken.1 c.finish_on.result c.finish_on.ensures

pub returns : goal.returns
returns g c =
    let is = c.in-Err.ensures in
    open_failed g.S.Sign.scheme g.D.Disk.device c.args.config.now c.args.first c.args.second c.both_are_decoded.ensures c.in-Err.failed is.any_moment is.damaged is.never_full is.never_config
    is.unchanged is.cause.1
