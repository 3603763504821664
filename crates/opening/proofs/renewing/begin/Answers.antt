use Rattle.validator.specs.Setting.{node_of}
use Rattle.opening.proofs.Laws.{fresh_sound}
use Rattle.opening.proofs.ReadAreas.{kept_places}
use Rattle.opening.proofs.Renewals.{file_none, begun_any, never_full}
use Rattle.opening.proofs.renewing.begin.Goals as goal

pub write_configuration-requires-clause-empty : goal.write_configuration-requires-clause-empty
write_configuration-requires-clause-empty g c =
    let node = node_of g.S.Sign.scheme c.args.config.now in
    file_none g.D.Disk.device node c.args.journal.now c.limits_hold.ensures c.keys_hold.ensures c.requires.pair c.requires.alive c.requires.empty

pub returns-clause-never_full : goal.returns-clause-never_full
returns-clause-never_full g c = never_full c.write_configuration.result c.write_configuration.ensures.errors

pub returns-clause-renewed : goal.returns-clause-renewed
returns-clause-renewed g c =
    let node = node_of g.S.Sign.scheme c.args.config.now in
    let is = c.write_configuration.ensures in
    begun_any g.D.Disk.device node c.args.journal.now c.write_configuration.new.journal c.limits_hold.ensures c.keys_hold.ensures (fresh_sound c.starts_fresh.ensures node c.limits_hold.ensures)
    c.requires.pair c.requires.alive c.requires.empty is.spare is.keeps g.met.D.Disk.only_now g.met.D.Disk.counts_now g.met.D.Disk.content_is_outcome
    c.write_configuration.result is.alive is.configured is.cause is.errors is.unchanged

pub returns-clause-stays : goal.returns-clause-stays
returns-clause-stays g c = kept_places c.args.journal.now c.write_configuration.new.journal c.requires.pair c.write_configuration.ensures.spare
