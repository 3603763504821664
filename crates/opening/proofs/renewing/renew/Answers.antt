use Rattle.std.proofs.Common.{refl, sym, ◌∙◌}
use Rattle.journal.specs.Pairs.{spare_disk, areas_of}
use Rattle.journal.specs.declared.version.Version.TheVariants.{First, Second}
use Rattle.validator.specs.Setting.{node_of}
use Rattle.opening.proofs.ReadAreas.{kept_places, newest_of_version, none_is_not_first, none_of_version, placed_anew, placed_as_before, placed_still, second_is_not_first, some_is, some_of_version}
use Rattle.opening.proofs.Renewals.{areas_pair, beside, stays_renewed}
use Rattle.opening.proofs.renewing.renew.Goals as goal

pub begin-requires-clause-empty : goal.begin-requires-clause-empty
begin-requires-clause-empty g c =
    let device = g.D.Disk.device in
    let journal = c.args.journal.now in
    let has = c.requires.version in
    none_of_version (node_of g.S.Sign.scheme c.args.config.now) (areas_of device journal) has.0 c.requires.stands.state (areas_pair device journal (device.content
    (spare_disk journal)) c.requires.pair)
    has.1 c.requires.stands.is_read (sym has.2 ∙ c.in-None.is)

pub returns-in-None-clause-placed : goal.returns-in-None-clause-placed
returns-in-None-clause-placed g c =
    let node = node_of g.S.Sign.scheme c.args.config.now in
    placed_still node g.D.Disk.device c.args.version c.args.journal.now c.begin.new.journal c.begin.result (none_is_not_first c.args.version c.in-None.is) c.begin.ensures.stays

pub returns-in-Some-First-clause-placed : goal.returns-in-Some-First-clause-placed
returns-in-Some-First-clause-placed g c =
    let node = node_of g.S.Sign.scheme c.args.config.now in
    placed_anew node g.D.Disk.device c.args.version c.args.journal.now c.migrate.new.journal c.migrate.result
    (some_is c.args.version c.in-Some-First.field-0 First c.in-Some-First.is (rw c.in-Some-First.is at c.in-Some-First.field-0-is)) c.migrate.ensures.rewritten

pub returns-in-Some-Second-clause-placed : goal.returns-in-Some-Second-clause-placed
returns-in-Some-Second-clause-placed g c =
    let node = node_of g.S.Sign.scheme c.args.config.now in
    let journal = c.args.journal.now in
    placed_as_before node g.D.Disk.device c.args.version journal journal
    (second_is_not_first c.args.version (some_is c.args.version c.in-Some-Second.field-0 Second c.in-Some-Second.is
    (rw c.in-Some-Second.is at c.in-Some-Second.field-0-is))) (kept_places journal journal c.requires.pair refl)

pub returns-in-Some-Second-clause-renewed : goal.returns-in-Some-Second-clause-renewed
returns-in-Some-Second-clause-renewed g c =
    let node = node_of g.S.Sign.scheme c.args.config.now in
    let device = g.D.Disk.device in
    let journal = c.args.journal.now in
    let has = c.requires.version in
    let is = sym has.2 ∙ some_is c.args.version c.in-Some-Second.field-0 Second c.in-Some-Second.is (rw c.in-Some-Second.is at c.in-Some-Second.field-0-is) in
    stays_renewed device node journal journal c.requires.pair c.requires.alive g.met.D.Disk.only_now (some_of_version (areas_of device journal) has.0 Second has.1 is)
    (newest_of_version (areas_of device journal) has.0 has.1 is)
    (λ left may. (beside device journal c.requires.alive c.requires.pair).durable left (g.met.D.Disk.only_now (spare_disk journal) left may))
