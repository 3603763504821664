use Rattle.std.proofs.Common.{◌∙◌, subst}
use Rattle.journal.specs.Pairs.{spare_disk, areas_of}
use Rattle.validator.specs.Setting.{ConfigView, node_of}
use Rattle.opening.specs.Finished.{at_records}
use Rattle.opening.specs.Decoded.{StandsAt, Reports, read_pair, decoded_in}
use Rattle.opening.proofs.PairOpening.{decoded_at, reports_at}
use Rattle.opening.proofs.Renewals.{areas_pair}
use Rattle.opening.proofs.stores.finish_on.Goals as goal

pub renew_for-requires-clause-setting : goal.renew_for-requires-clause-setting
renew_for-requires-clause-setting g c = let has = c.requires.records in c.in-Ok.ensures.setting has.0 has.2 ∙ c.requires.config

pub renew_for-requires-clause-stands : goal.renew_for-requires-clause-stands
renew_for-requires-clause-stands g c =
    let node = node_of g.S.Sign.scheme c.args.config.now in
    let device = g.D.Disk.device in
    let journal = c.args.journal in
    let has = c.requires.records in
    let tables = c.in-Ok.validator.tables in
    decoded_at node (areas_of device journal) has.0 tables (areas_pair device journal (device.content (spare_disk journal)) c.requires.pair) has.1
    (subst (λ (s : ConfigView g.row.S.Denot). StandsAt (node_of g.S.Sign.scheme s) (read_pair (node_of g.S.Sign.scheme s) has.0) tables) c.requires.config (c.in-Ok.ensures.stands has.0 has.2))

pub renew_for-requires-clause-version : goal.renew_for-requires-clause-version
renew_for-requires-clause-version g c = let has = c.requires.records in (has.0, has.1, c.version-version.ensures ∙ has.2.version)

pub returns-in-Err : goal.returns-in-Err
returns-in-Err g c =
    let node = node_of g.S.Sign.scheme c.args.config.now in
    let device = g.D.Disk.device in
    let journal = c.args.journal in
    let has = c.requires.records in
    let never = c.in-Err.ensures.never has.0 has.2 in
    let error = c.in-Err.error in
    at_records never.0 never.1
    (reports_at node (areas_of device journal) has.0 error (areas_pair device journal (device.content (spare_disk journal)) c.requires.pair) has.1
    (subst (λ (s : ConfigView g.row.S.Denot). Reports error (read_pair (node_of g.S.Sign.scheme s) has.0)) c.requires.config (c.in-Err.ensures.err has.0 has.2)))
    c.into_store.ensures
