use Rattle.std.proofs.Common.{List, subst}
use Rattle.std.proofs.lemmas.Result.{err_from_is_err_and}
use Rattle.journal.specs.Format.{FailsAs}
use Rattle.journal.specs.declared.record.Record.{Record}
use Rattle.spec_model.specs.States.{State}
use Rattle.validator.specs.Setting.{node_of}
use Rattle.validator.specs.Standing.{AreAtSound}
use Rattle.opening.specs.Decoded.{read_events, StandsAt}
use Rattle.journal_account.specs.Accounts.{events_in}
use Rattle.journal_account.proofs.Accounting.{begin_reports, events_report, found_as, found_at, read_on}
use Rattle.journal_account.proofs.reading.after_records.Given as given
use Rattle.journal_account.proofs.reading.after_records.Goals as goal

pub returns-in_err-validator-clause-err : goal.returns-in_err-validator-clause-err
returns-in_err-validator-clause-err g c =
    let node = node_of g.S.Sign.scheme c.args.config.now in
    let p = err_from_is_err_and c.from_residual.result c.from_residual.ensures.1 in
    rw (p.1, p.2) (begin_reports node c.args.records.now c.in_err-validator.field-0.0.error c.in_err-validator.ensures.err)

pub returns-in_err-replay-clause-err : goal.returns-in_err-replay-clause-err
returns-in_err-replay-clause-err g c =
    let scheme = g.S.Sign.scheme in
    let node = node_of scheme c.args.config.now in
    let records = c.args.records.now in
    let begun = c.in_ok-validator.ensures.stands in
    let validator = c.in_ok-validator.validator in
    let error = c.in_err-replay.field-0.0.error in
    let fails = subst (λ s. (state : State) → AreAtSound (node_of scheme s) validator.tables state → FailsAs error (read_events (node_of scheme s) state c.events_of.result.now))
    c.in_ok-validator.ensures.setting c.in_err-replay.ensures.err in
    let p = err_from_is_err_and c.from_residual-in_err-replay.result c.from_residual-in_err-replay.ensures.1 in
    rw (p.1, p.2) (events_report node records begun.state error begun.is_read
    (subst (λ (l : List Record). FailsAs error (read_events node begun.state l)) c.events_of.ensures (fails begun.state begun.at)))

-- the tables stand where the events lead from the state with which the records begin
pub led : (g : given.Over) (c : goal.In_ok-replay g) → StandsAt (node_of g.S.Sign.scheme c.args.config.now)
    (read_events (node_of g.S.Sign.scheme c.args.config.now) c.in_ok-validator.ensures.stands.state (events_in c.args.records.now)) c.replay.new.validator.tables
led g c =
    let scheme = g.S.Sign.scheme in
    let node = node_of scheme c.args.config.now in
    let begun = c.in_ok-validator.ensures.stands in
    let validator = c.in_ok-validator.validator in
    let leads = subst (λ s. (state : State) → AreAtSound (node_of scheme s) validator.tables state
    → StandsAt (node_of scheme s) (read_events (node_of scheme s) state c.events_of.result.now) c.replay.new.validator.tables)
    c.in_ok-validator.ensures.setting c.in_ok-replay.ensures.ok in
    subst (λ (l : List Record). StandsAt node (read_events node begun.state l) c.replay.new.validator.tables) c.events_of.ensures (leads begun.state begun.at)

pub returns-clause-stands : goal.returns-clause-stands
returns-clause-stands g c =
    let node = node_of g.S.Sign.scheme c.args.config.now in
    let begun = c.in_ok-validator.ensures.stands in
    let later = led g c in
    record { state = later.state; is_read = read_on node c.args.records.now begun.state later.state begun.is_read later.is_read; at = later.at }

pub returns-clause-read : goal.returns-clause-read
returns-clause-read g c = λ areas two is.
    let node = node_of g.S.Sign.scheme c.args.config.now in
    let records = c.args.records.now in
    let begun = c.in_ok-validator.ensures.stands in
    let later = led g c in
    found_at node areas records begun.state later.state c.replay.new.validator.tables
    (found_as c.starts_fresh.ensures node areas records begun.state later.state two c.limits_hold.ensures begun.at.sound c.are_texts.ensures is begun.is_read later.is_read)
    later.at
