use Rattle.std.proofs.Common.{sym, subst}
use Rattle.std.proofs.lemmas.Result.{err_from_is_err_and}
use Rattle.journal.specs.Pairs.{areas_of}
use Rattle.validator.specs.Setting.{ConfigView, node_of}
use Rattle.opening.specs.Finished.{done, gives_up}
use Rattle.opening.specs.Renewing.{IsRenewed, IsRewritten}
use Rattle.opening.specs.Decoded.{decoded_in, StandsAt}
use Rattle.opening.proofs.Renewals.{migrated, not_migrated}
use Rattle.opening.proofs.renewing.migrate.Goals as goal

pub checkpoint-requires-clause-stands : goal.checkpoint-requires-clause-stands
checkpoint-requires-clause-stands g c =
    subst (λ (s : ConfigView g.row.S.Denot). StandsAt (node_of g.S.Sign.scheme s) (decoded_in (node_of g.S.Sign.scheme s) (areas_of g.D.Disk.device c.args.journal.now)) c.args.validator.now.tables)
    (sym c.requires.setting) c.requires.stands

pub returns-clause-renewed : goal.returns-clause-renewed
returns-clause-renewed g c =
    let is = c.in_ok-checkpoint.ensures in
    subst (λ (s : ConfigView g.row.S.Denot). IsRenewed (node_of g.S.Sign.scheme s) g.D.Disk.device c.args.journal.now done c.checkpoint.new.journal) c.requires.setting
    (migrated g.D.Disk.device (node_of g.S.Sign.scheme c.args.validator.now.setting) c.args.journal.now c.checkpoint.new.journal c.requires.pair c.requires.alive g.met.D.Disk.only_now
    c.in_ok-checkpoint.field-0 is.alive is.swapped is.same is.configured is.newest is.kept is.any_moment is.cause)

pub returns-clause-rewritten : goal.returns-clause-rewritten
returns-clause-rewritten g c =
    let is = c.in_ok-checkpoint.ensures in
    subst (λ (s : ConfigView g.row.S.Denot). IsRewritten (node_of g.S.Sign.scheme s) g.D.Disk.device c.args.journal.now c.checkpoint.new.journal) c.requires.setting
    (record { room = is.room; places = is.swapped })

pub returns-in_err-checkpoint-clause-renewed : goal.returns-in_err-checkpoint-clause-renewed
returns-in_err-checkpoint-clause-renewed g c =
    let is = c.in_err-checkpoint.ensures in
    let error = c.in_err-checkpoint.field-0.0 in
    let p = err_from_is_err_and c.from_residual.result c.from_residual.ensures.1 in
    rw (p.1, p.2)
    (subst (λ (s : ConfigView g.row.S.Denot). IsRenewed (node_of g.S.Sign.scheme s) g.D.Disk.device c.args.journal.now (gives_up error) c.checkpoint.new.journal) c.requires.setting
    (not_migrated g.D.Disk.device (node_of g.S.Sign.scheme c.args.validator.now.setting) c.args.journal.now c.checkpoint.new.journal c.requires.pair c.requires.alive g.met.D.Disk.only_now
    error is.keeps is.untouched is.errors is.full is.unchanged is.any_moment is.cause))
