use Rattle.std.proofs.Common.{arith}
use Rattle.std.proofs.lemmas.List.{drop_all}
use Rattle.journal_account.specs.Accounts.{given_in}
use Rattle.opening.proofs.Reporting.{here}
use Rattle.journal_account.proofs.Accounting.{made_next, made_end}
use Rattle.journal_account.proofs.votes.given_in_each.Goals as goal

pub loop-one-preserved : goal.loop-one-preserved
loop-one-preserved c =
    let records = c.args.records.now in
    let one = c.one-item.result in
    record {
      all = made_next (given_in c.args.committee.now) c.loop-one.votes.items _ records c.loop-one.one-index one c.in_ok-given.given
          (here records c.loop-one.one-index one (omega arith) c.one-item.is) c.in_ok-given.ensures c.in_ok-push_given.ensures c.loop-one.invariant.all;
    }

pub returns : goal.returns
returns c =
    made_end (given_in c.args.committee.now) c.loop-one.votes.items c.args.records.now c.loop-one.one-index
    (drop_all c.loop-one.one-index c.args.records.now (omega arith)) c.loop-one.invariant.all
