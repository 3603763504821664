use Rattle.std.proofs.Common.{sym, subst}
use Rattle.journal.specs.Pairs.{areas_of}
use Rattle.journal.specs.declared.version.Version.TheVariants.{First}
use Rattle.opening.specs.Laws.{HoldsIn}
use Rattle.validator.specs.Setting.{ConfigView, node_of}
use Rattle.sim_run.proofs.Beginning.{file_none, begun_in}
use Rattle.sim_run.proofs.starting.begin_in_first_version.Goals as goal

pub write_configuration-requires-clause-empty : goal.write_configuration-requires-clause-empty
write_configuration-requires-clause-empty g c =
    let node = node_of g.S.Sign.scheme c.args.config.now in
    file_none g.D.Disk.device node c.args.journal c.limits_hold.ensures c.keys_hold.ensures c.requires.pair c.requires.alive c.requires.empty

pub begin-requires-clause-holds : goal.begin-requires-clause-holds
begin-requires-clause-holds g c =
    let node = node_of g.S.Sign.scheme c.args.config.now in
    let made = c.in_ok-validator in
    let is = c.in_ok-write_configuration.ensures in
    subst (λ (s : ConfigView g.row.S.Denot). HoldsIn (node_of g.S.Sign.scheme s) (areas_of g.D.Disk.device c.write_configuration.new.journal) made.validator.tables) (sym made.ensures.setting)
    (begun_in g.D.Disk.device node c.args.journal c.limits_hold.ensures c.keys_hold.ensures c.requires.pair c.requires.alive c.requires.empty First c.requires.can_report
    c.write_configuration.new.journal is.spare is.keeps g.met.D.Disk.counts_now g.met.D.Disk.content_is_outcome is.configured made.validator.tables made.ensures.at)
