use Rattle.std.proofs.Common.{List, sym, subst}
use Rattle.std.proofs.lemmas.List.{nil_from_length}
use Rattle.std.proofs.lemmas.Result.{err_from_is_err_and}
use Rattle.journal.specs.declared.error.JournalError.{JournalError}
use Rattle.journal.specs.declared.record.Record.{Record}
use Rattle.spec_machine.specs.Machine.{fresh}
use Rattle.validator.specs.Setting.{node_of}
use Rattle.opening.specs.Decoded.{StandsAt, Reports}
use Rattle.opening.proofs.Reporting.{err_weaker, ok_weaker}
use Rattle.journal_account.specs.Accounts.{base_in}
use Rattle.journal_account.proofs.Accounting.{base_nil, begun_fails, begun_stands, first_fails}
use Rattle.journal_account.proofs.reading.begun.Goals as goal

pub returns-in_err-test_first-in-Some-clause-err : goal.returns-in_err-test_first-in-Some-clause-err
returns-in_err-test_first-in-Some-clause-err g c =
    let node = node_of g.S.Sign.scheme c.args.config.now in
    let error = c.in_err-test_first-in-Some.field-0.0.error in
    let p = err_from_is_err_and c.from_residual.result c.from_residual.ensures.1 in
    rw (p.1, p.2) (subst (λ (l : List Record). Reports error (base_in node l)) (sym c.in-Some.ensures.cases.0)
    (first_fails node c.in-Some.first.now c.in-Some.rest.now error c.in_err-test_first-in-Some.ensures.err))

pub returns-in_ok-test_first-in-Some-clause-stands : goal.returns-in_ok-test_first-in-Some-clause-stands
returns-in_ok-test_first-in-Some-clause-stands g c =
    let node = node_of g.S.Sign.scheme c.args.config.now in
    ok_weaker c.begun_by.result _ _
    (λ v stands. subst (λ (l : List Record). StandsAt {E = JournalError} node (base_in node l) v.tables) (sym c.in-Some.ensures.cases.0)
    (begun_stands node c.in-Some.first.now c.in-Some.rest.now v.tables c.in_ok-test_first-in-Some.ensures.ok stands))
    c.begun_by.ensures.stands

pub returns-in_ok-test_first-in-Some-clause-err : goal.returns-in_ok-test_first-in-Some-clause-err
returns-in_ok-test_first-in-Some-clause-err g c =
    let node = node_of g.S.Sign.scheme c.args.config.now in
    err_weaker c.begun_by.result _ _
    (λ flaw fails. subst (λ (l : List Record). Reports flaw.error (base_in node l)) (sym c.in-Some.ensures.cases.0)
    (begun_fails node c.in-Some.first.now c.in-Some.rest.now flaw.error c.in_ok-test_first-in-Some.ensures.ok fails))
    c.begun_by.ensures.err

pub returns-in_ok-new-in-None-clause-stands : goal.returns-in_ok-new-in-None-clause-stands
returns-in_ok-new-in-None-clause-stands g c =
    let node = node_of g.S.Sign.scheme c.args.config.now in
    let tables = c.in_ok-new-in-None.field-0.tables in
    subst (λ (l : List Record). StandsAt {E = JournalError} node (base_in node l) tables) (sym (nil_from_length c.args.records.now c.in-None.ensures.cases))
    (record { state = fresh node; is_read = base_nil node; at = c.in_ok-new-in-None.ensures.at })
