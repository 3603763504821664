use Rattle.std.proofs.Common.{ℕ, Result, sym, ap, subst, ◌∙◌}
use Rattle.journal.specs.Format.{FailsAs}
use Rattle.spec_machine.specs.Machine.{fresh}
use Rattle.spec_model.specs.States.{State}
use Rattle.validator.specs.Setting.{node_of}
use Rattle.opening.specs.Decoded.{read_state, StandsAt}
use Rattle.opening.proofs.Reporting.{err_weaker, ok_weaker}
use Rattle.journal_account.proofs.Accounting.{base_none, base_some}
use Rattle.journal_account.proofs.reading.begun_by.Goals as goal

pub returns-in-Some-clause-stands : goal.returns-in-Some-clause-stands
returns-in-Some-clause-stands g c =
    let node = node_of g.S.Sign.scheme c.args.config.now in
    let first = c.args.first.now in
    ok_weaker c.load.result _ _
    (λ v stands. subst (λ (r : Result State ℕ). StandsAt {E = ℕ} node r v.tables)
    (ap (read_state node first) (c.split_at.ensures.front ∙ c.state_count.ensures.state) ∙ sym (base_some node first c.args.rest.now c.in-Some.others.now c.in-Some.ensures)) stands)
    c.load.ensures.stands

pub returns-in-Some-clause-err : goal.returns-in-Some-clause-err
returns-in-Some-clause-err g c =
    let node = node_of g.S.Sign.scheme c.args.config.now in
    let first = c.args.first.now in
    err_weaker c.load.result _ _
    (λ flaw fails. subst (λ (r : Result State ℕ). FailsAs flaw.error r)
    (ap (read_state node first) (c.split_at.ensures.front ∙ c.state_count.ensures.state) ∙ sym (base_some node first c.args.rest.now c.in-Some.others.now c.in-Some.ensures)) fails)
    c.load.ensures.err

pub returns-in_ok-new-in-None-clause-stands : goal.returns-in_ok-new-in-None-clause-stands
returns-in_ok-new-in-None-clause-stands g c =
    let node = node_of g.S.Sign.scheme c.args.config.now in
    record { state = fresh node; is_read = base_none node c.args.first.now c.args.rest.now c.in-None.ensures; at = c.in_ok-new-in-None.ensures.at }
