use Rattle.std.proofs.Common.{List, ◌++◌, ap, subst, ◌∙◌}
use Rattle.std.specs.List.{filter_map}
use Rattle.std.proofs.lemmas.Result.{err_from_is_err_and}
use Rattle.journal.specs.Format.{FailsAs}
use Rattle.journal.specs.declared.record.Record.{Record}
use Rattle.spec_model.specs.States.{State}
use Rattle.validator.specs.Setting.{node_of}
use Rattle.validator.specs.Standing.{AreAtSound}
use Rattle.opening.specs.Decoded.{read_events, StandsAt}
use Rattle.journal_account.specs.Accounts.{AreKeptVotes, given_in}
use Rattle.journal_account.specs.declared.votes.Given.{Given}
use Rattle.journal_account.proofs.Accounting.{begin_reports, events_report, found_as, reports_areas, voted}
use Rattle.journal_account.proofs.votes.votes_of.Goals as goal

pub returns-in_err-validator-clause-err : goal.returns-in_err-validator-clause-err
returns-in_err-validator-clause-err g c = λ areas two is.
    let node = node_of g.S.Sign.scheme c.args.config.now in
    let p = err_from_is_err_and c.from_residual.result c.from_residual.ensures.1 in
    rw (p.1, p.2) (reports_areas node areas c.args.records.now c.in_err-validator.field-0.0.error two is
    (begin_reports node c.args.records.now c.in_err-validator.field-0.0.error c.in_err-validator.ensures.err))

pub returns-in_err-replay-clause-err : goal.returns-in_err-replay-clause-err
returns-in_err-replay-clause-err g c = λ areas two is.
    let scheme = g.S.Sign.scheme in
    let node = node_of scheme c.args.config.now in
    let records = c.args.records.now in
    let begun = c.in_ok-validator.ensures.stands in
    let validator = c.in_ok-validator.validator in
    let error = c.in_err-replay.field-0.0.error in
    let fails = subst (λ s. (state : State) → AreAtSound (node_of scheme s) validator.tables state → FailsAs error (read_events (node_of scheme s) state c.events_of-events.result.now))
    c.in_ok-validator.ensures.setting c.in_err-replay.ensures.err in
    let p = err_from_is_err_and c.from_residual-in_err-replay.result c.from_residual-in_err-replay.ensures.1 in
    rw (p.1, p.2) (reports_areas node areas records error two is (events_report node records begun.state error begun.is_read
    (subst (λ (l : List Record). FailsAs error (read_events node begun.state l)) c.events_of-events.ensures (fails begun.state begun.at))))

pub returns-clause-ok : goal.returns-clause-ok
returns-clause-ok g c = λ areas two is.
    let scheme = g.S.Sign.scheme in
    let node = node_of scheme c.args.config.now in
    let records = c.args.records.now in
    let begun = c.in_ok-validator.ensures.stands in
    let validator = c.in_ok-validator.validator in
    let setting = c.in_ok-validator.ensures.setting in
    let tables = c.replay.new.validator.tables in
    let kept = c.in_ok-votes.votes.items in
    let leads = subst (λ s. (state : State) → AreAtSound (node_of scheme s) validator.tables state
    → StandsAt (node_of scheme s) (read_events (node_of scheme s) state c.events_of-events.result.now) tables)
    setting c.in_ok-replay.ensures.ok in
    let later = subst (λ (l : List Record). StandsAt node (read_events node begun.state l) tables) c.events_of-events.ensures (leads begun.state begun.at) in
    let each = subst (λ s. (state : State) → AreAtSound (node_of scheme s) validator.tables state → AreKeptVotes (node_of scheme s) state kept) setting c.in_ok-votes.ensures in
    voted node areas records begun.state later.state
    (found_as c.starts_fresh.ensures node areas records begun.state later.state two c.limits_hold.ensures begun.at.sound c.are_texts.ensures is begun.is_read later.is_read)
    kept c.append.new.self.items (each begun.state begun.at)
    (c.in_ok-append.ensures.items ∙ ap (λ (l : List Given). kept ++ l)
    (c.in_ok-later.ensures ∙ (λ i. filter_map (given_in (c.committee.ensures i)) (c.events_of-events.ensures i))))
