use Rattle.std.proofs.Common.{rules, [], ◌≢◌, ◌<◌, ℕ, sym, ◌∙◌, subst}
use borrow.Author.Rules.{in_lives}
use Rattle.std.proofs.lemmas.Result.{err_from_is_err_and}
use Rattle.journal.specs.Journal.{disk_of}
use Rattle.journal.specs.declared.error.JournalError.TheVariants.{Device}
use Rattle.journal.specs.declared.version.Version.TheVariants.{Second}
use Rattle.validator.specs.Setting.{node_of}
use Rattle.opening.specs.Decoded.{decoded}
use Rattle.opening.proofs.Reporting.{decoded_same, reports_same, stands_same, keeps_same, opening_fails}
use Rattle.opening.proofs.Opened.{stands_for_at, holds_at, keeps_states, no_refusal, first_decoded, first_kept, reported_on, kept_on}
use Rattle.opening.proofs.reopening.reopen.Goals as goal

pub returns-in-Ok-validator_on-clause-stands : goal.returns-in-Ok-validator_on-clause-stands
returns-in-Ok-validator_on-clause-stands g c =
    let node = node_of g.S.Sign.scheme c.args.config.now in
    let file = g.D.Disk.device.content c.args.disk in
    let mid = g.D.Disk.device.content (disk_of c.in_ok-journal.journal) in
    stands_same node (decoded node mid) (decoded node file) c.in-Ok-validator_on.validator.tables (decoded_same node mid file c.in_ok-journal.ensures.same) c.in-Ok-validator_on.ensures.stands

pub returns-in-Ok-validator_on-clause-stands_for : goal.returns-in-Ok-validator_on-clause-stands_for
returns-in-Ok-validator_on-clause-stands_for g c =
    let node = node_of g.S.Sign.scheme c.args.config.now in
    let file = g.D.Disk.device.content c.args.disk in
    let mid = g.D.Disk.device.content (disk_of c.in_ok-journal.journal) in
    let tables = c.in-Ok-validator_on.validator.tables in
    let taken = c.in_ok-journal.ensures.records in
    stands_for_at c.starts_fresh.ensures node file taken.0 tables c.limits_hold.ensures taken.1
    (c.in-Ok-validator_on.ensures.texts taken.0 (c.in_ok-journal.ensures.same ∙ taken.1))
    (stands_same node (decoded node mid) (decoded node file) tables (decoded_same node mid file c.in_ok-journal.ensures.same) c.in-Ok-validator_on.ensures.stands)

pub validator_on-requires-clause-config : goal.validator_on-requires-clause-config
validator_on-requires-clause-config g c = c.in_ok-journal.ensures.records.2.config ∙ c.in-Ok.ensures.config

pub validator_on-requires-clause-records : goal.validator_on-requires-clause-records
validator_on-requires-clause-records g c =
    let taken = c.in_ok-journal.ensures.records in
    (taken.0, c.in_ok-journal.ensures.same ∙ taken.1, taken.2.taken [] c.in-Ok.ensures.none)

pub returns-in-Ok-validator_on-clause-holds : goal.returns-in-Ok-validator_on-clause-holds
returns-in-Ok-validator_on-clause-holds g c =
    let node = node_of g.S.Sign.scheme c.args.config.now in
    let mid = g.D.Disk.device.content (disk_of c.in_ok-journal.journal) in
    let later = g.D.Disk.device.content (disk_of c.validator_on.new.journal) in
    let tables = c.in-Ok-validator_on.validator.tables in
    holds_at c.starts_fresh.ensures node later tables c.limits_hold.ensures
    (stands_same node (decoded node mid) (decoded node later) tables (sym c.in-Ok-validator_on.ensures.same) c.in-Ok-validator_on.ensures.stands)
    c.in-Ok-validator_on.ensures.texts_left c.in-Ok-validator_on.ensures.configured

pub returns-in-Ok-validator_on-clause-kept : goal.returns-in-Ok-validator_on-clause-kept
returns-in-Ok-validator_on-clause-kept g c =
    let node = node_of g.S.Sign.scheme c.args.config.now in
    let device = g.D.Disk.device in
    let middle = disk_of c.in_ok-journal.journal in
    let later = disk_of c.validator_on.new.journal in
    let keeps = c.validator_on.ensures.keeps in
    let now = g.met.D.Disk.counts_now later (device.clock middle) (device.content later) keeps.later (g.met.D.Disk.content_is_outcome later) in
    keeps_states c.starts_fresh.ensures node (device.content c.args.disk) (device.content later) c.limits_hold.ensures
    (keeps_same Second node (device.content c.args.disk) (device.content middle) (device.content later) c.in_ok-journal.ensures.same (keeps.each (device.content later) now))
    c.in-Ok-validator_on.ensures.configured

pub returns-in-Ok-validator_on-clause-same : goal.returns-in-Ok-validator_on-clause-same
returns-in-Ok-validator_on-clause-same g c =
    let node = node_of g.S.Sign.scheme c.args.config.now in
    let file = g.D.Disk.device.content c.args.disk in
    let mid = g.D.Disk.device.content (disk_of c.in_ok-journal.journal) in
    c.in-Ok-validator_on.ensures.same ∙ decoded_same node mid file c.in_ok-journal.ensures.same

pub from_residual-requires : goal.from_residual-requires
from_residual-requires g c κs = λ h. simp in_lives (search rules)

pub returns-in_err-journal-clause-opening : goal.returns-in_err-journal-clause-opening
returns-in_err-journal-clause-opening g c =
    let node = node_of g.S.Sign.scheme c.args.config.now in
    let device = g.D.Disk.device in
    let file = device.content c.args.disk in
    let failed = c.in_err-journal.field-0.0 in
    let is = c.in_err-journal.ensures in
    let fails = opening_fails node file failed.error is.damaged is.never_full is.never_config in
    let p = err_from_is_err_and c.from_residual.result c.from_residual.ensures.1 in
    rw (p.1, p.2)
    (record {
      reports = fails;
      never_full = is.never_full;
      cause = is.cause;
      any_moment = first_decoded node device c.args.disk failed.disk is.any_moment;
      keeps = first_kept node device c.args.disk failed.disk is.any_moment;
      never_refused = λ left. let found = c.outcomes_are_decoded.ensures file left in no_refusal failed.error found.0 (decoded node file) found.1 fails;
    })

pub returns-in-Ok-validator_on-clause-opening : goal.returns-in-Ok-validator_on-clause-opening
returns-in-Ok-validator_on-clause-opening g c =
    let node = node_of g.S.Sign.scheme c.args.config.now in
    let device = g.D.Disk.device in
    let middle = disk_of c.in_ok-journal.journal in
    let later = disk_of c.validator_on.new.journal in
    let opened = c.in_ok-journal.ensures in
    let now = g.met.D.Disk.content_is_outcome c.args.disk in
    record {
      reports = tt;
      never_full = tt;
      cause = (c.in-Ok-validator_on.ensures.cause.0 ∙ opened.cause.0, tt);
      any_moment = reported_on node device c.args.disk middle opened.any_moment later opened.same now c.validator_on.ensures.any_moment;
      keeps = kept_on node device c.args.disk middle opened.any_moment later opened.same now c.validator_on.ensures.keeps;
      never_refused = tt;
    }

pub returns-in-Err-clause-opening : goal.returns-in-Err-clause-opening
returns-in-Err-clause-opening g c =
    let node = node_of g.S.Sign.scheme c.args.config.now in
    let device = g.D.Disk.device in
    let file = device.content c.args.disk in
    let middle = disk_of c.in_ok-journal.journal in
    let mid = device.content middle in
    let later = disk_of c.validator_on.new.journal in
    let opened = c.in_ok-journal.ensures in
    let now = g.met.D.Disk.content_is_outcome c.args.disk in
    let error = c.in-Err.error in
    let reports = λ (other : error ≢ Device). reports_same error (decoded node mid) (decoded node file) (decoded_same node mid file opened.same) (c.in-Err.ensures.err other) in
    rw c.into_disk.ensures
    (record {
      reports = reports;
      never_full = c.in-Err.ensures.never_full;
      cause = (tt, (λ is. subst (λ (n : ℕ). n < device.faults later) opened.cause.0 (c.in-Err.ensures.cause.1.0 is), λ isnt. c.in-Err.ensures.cause.1.1 isnt ∙ opened.cause.0));
      any_moment = reported_on node device c.args.disk middle opened.any_moment later opened.same now c.validator_on.ensures.any_moment;
      keeps = kept_on node device c.args.disk middle opened.any_moment later opened.same now c.validator_on.ensures.keeps;
      never_refused = λ left. let found = c.outcomes_are_decoded.ensures file left in no_refusal error found.0 (decoded node file) found.1 reports;
    })
