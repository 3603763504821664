use Rattle.std.proofs.Common.{length, ap, sym, subst, ◌∙◌}
use Rattle.std.proofs.lemmas.Result.{err_from_is_err_and}
use Rattle.validator.specs.Setting.{node_of}
use Rattle.journal_account.specs.Accounts.{IsReadAt, Sums}
use Rattle.journal_account.specs.declared.summary.Summary.{Summary}
use Rattle.journal_account.proofs.Accounting.{summed, reports_areas}
use Rattle.journal_account.proofs.summary.summary_of.Goals as goal

pub returns-in_err-validator-clause-err : goal.returns-in_err-validator-clause-err
returns-in_err-validator-clause-err g c = λ areas two is.
    let node = node_of g.S.Sign.scheme c.args.config.now in
    let p = err_from_is_err_and c.from_residual.result c.from_residual.ensures.1 in
    rw (p.1, p.2) (reports_areas node areas c.args.records.now c.in_err-validator.field-0.0.error two is c.in_err-validator.ensures.err)

pub returns-clause-ok : goal.returns-clause-ok
returns-clause-ok g c = λ areas two is.
    let scheme = g.S.Sign.scheme in
    let validator = c.in_ok-validator.validator in
    let found = subst (λ s. IsReadAt (node_of scheme s) areas validator.tables) (sym c.in_ok-validator.ensures.setting) (c.in_ok-validator.ensures.read areas two is) in
    let summary : Summary = record {
      events = length c.events_of.result.now;
      order = length c.order.result.now;
      round = c.round-round.result;
      floor = c.number-floor.result;
      checkpoint = c.checkpoint_in.result;
    } in
    subst (λ s. Sums (node_of scheme s) areas summary) c.in_ok-validator.ensures.setting
    (summed (node_of scheme validator.setting) areas validator.tables c.args.records.now found summary is (ap length c.events_of.ensures)
    (λ state at. ap length (c.order.ensures.at state at))
    (λ state at. c.round-round.ensures.at state at)
    (λ state at. c.number-floor.ensures.value ∙ c.floor.ensures.at state at)
    c.checkpoint_in.ensures)
