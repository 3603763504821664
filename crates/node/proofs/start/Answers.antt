use Rattle.std.proofs.Common.{◌≡◌, ap, sym, subst}
use Rattle.flusher.specs.Rounds.{journal_of}
use Rattle.journal.specs.Journal.{spare_of}
use Rattle.journal.specs.Pairs.{areas_in, areas_of, store_of}
use Rattle.journal.specs.declared.journal.Journal.{Journal}
use Rattle.opening.specs.Laws.{IsReadIn}
use Rattle.opening.specs.Renewing.{KeepsStatesIn, IsNewest}
use Rattle.opening.proofs.Reporting.{ok_weaker}
use Rattle.std.specs.Prelude.{IsSome}
use Rattle.std.proofs.lemmas.Result.{err_from_is_err_and}
use Rattle.validator.specs.Setting.{node_of}
use Rattle.node.proofs.Begun.{opening_goes_on, opening_failed}
use Rattle.node.proofs.start.Goals as goal

pub returns-in_err-validator-clause-opening : goal.returns-in_err-validator-clause-opening
returns-in_err-validator-clause-opening g c =
    let exit = err_from_is_err_and c.from_residual.result c.from_residual.ensures.1 in
    rw (exit.1, exit.2)
    (opening_failed (node_of g.S.Sign.scheme c.args.config.now) g.D.Disk.device (λ given. store_of given.1) (λ started. store_of (journal_of started.2)) c.args.store
    c.in_err-validator.field-0.0 c.in_err-validator.ensures.opening)

pub returns-clause-opening : goal.returns-clause-opening
returns-clause-opening g c =
    let opened = c.in_ok-validator in
    opening_goes_on (node_of g.S.Sign.scheme c.args.config.now) g.D.Disk.device (λ given. store_of given.1) (λ started. store_of (journal_of started.2)) c.args.store
    (opened.validator, opened.journal) c.begin.result opened.ensures.opening
    (ok_weaker c.begin.result (λ started. journal_of started.2 ≡ opened.journal) (λ started. store_of (journal_of started.2) ≡ store_of opened.journal)
    (λ started is. ap store_of is) c.begin.ensures.journal)
    c.begin.ensures.err

pub returns-clause-kept : goal.returns-clause-kept
returns-clause-kept g c =
    let opened = c.in_ok-validator in
    let device = g.D.Disk.device in
    let keeps = λ (journal : Journal g.row.D.Denot). KeepsStatesIn (node_of g.S.Sign.scheme c.args.config.now) (areas_in device c.args.store) (areas_of device journal) in
    ok_weaker c.begin.result (λ started. journal_of started.2 ≡ opened.journal) (λ started. keeps (journal_of started.2))
    (λ started is. subst keeps (sym is) opened.ensures.kept) c.begin.ensures.journal

pub returns-clause-disks : goal.returns-clause-disks
returns-clause-disks g c =
    let opened = c.in_ok-validator in
    let read = λ (journal : Journal g.row.D.Denot). IsReadIn (node_of g.S.Sign.scheme c.args.config.now) g.D.Disk.device c.args.store journal in
    ok_weaker c.begin.result (λ started. journal_of started.2 ≡ opened.journal) (λ started. read (journal_of started.2))
    (λ started is. subst read (sym is) opened.ensures.disks) c.begin.ensures.journal

pub returns-clause-newest : goal.returns-clause-newest
returns-clause-newest g c =
    let opened = c.in_ok-validator in
    let device = g.D.Disk.device in
    let new = λ (journal : Journal g.row.D.Denot). IsSome (spare_of journal) → IsNewest (areas_of device journal) in
    ok_weaker c.begin.result (λ started. journal_of started.2 ≡ opened.journal) (λ started. new (journal_of started.2))
    (λ started is. subst new (sym is) opened.ensures.newest) c.begin.ensures.journal
