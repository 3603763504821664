use Rattle.std.proofs.Common.{List, ◌++◌, ap, sym, subst, ◌∙◌}
use Rattle.std.proofs.lemmas.Result.{err_from_is_err_and}
use Rattle.spec_model.specs.Words.{Digest}
use Rattle.validator.specs.Setting.{node_of}
use Rattle.journal_account.specs.Accounts.{AreOrdered, IsReadAt}
use Rattle.journal_account.proofs.Accounting.{ordered, reports_areas}
use Rattle.journal_account.proofs.order.order_of.Goals as goal

pub returns-in_err-validator-clause-err : goal.returns-in_err-validator-clause-err
returns-in_err-validator-clause-err g c = λ areas two is.
    let node = node_of g.S.Sign.scheme c.args.config.now in
    let p = err_from_is_err_and c.from_residual.result c.from_residual.ensures.1 in
    rw (p.1, p.2) (reports_areas node areas c.args.records.now c.in_err-validator.field-0.0.error two is c.in_err-validator.ensures.err)

pub returns-clause-ok : goal.returns-clause-ok
returns-clause-ok g c = λ areas two is.
    let scheme = g.S.Sign.scheme in
    let validator = c.in_ok-validator.validator in
    let setting = c.in_ok-validator.ensures.setting in
    let found = subst (λ s. IsReadAt (node_of scheme s) areas validator.tables) (sym setting) (c.in_ok-validator.ensures.read areas two is) in
    let order = c.order-order.result.now in
    let digests = c.extend_from_slice.new.self.items in
    subst (λ s. AreOrdered (node_of scheme s) areas digests) setting
    (ordered (node_of scheme validator.setting) areas validator.tables found digests
    (λ state at. c.in_ok-extend_from_slice.ensures.items ∙ ap (λ (l : List Digest). l ++ order) c.in_ok-digests.ensures.items ∙ c.order-order.ensures.at state at))
