use Rattle.std.proofs.Common.{drop, sym, subst, arith}
use Rattle.std.proofs.lemmas.List.{drop_all}
use Rattle.std.proofs.lemmas.List.Elements.{All-more}
use Rattle.opening.proofs.Reporting.{here}
use Rattle.journal_account.proofs.States.{Ends, IsState, events_left, state_taken}
use Rattle.journal_account.proofs.parts.state_count.Goals as goal

pub loop-count-preserved : goal.loop-count-preserved
loop-count-preserved c = record {
  within = omega (arith, c.loop-count-test.true);
  before = All-more IsState c.args.records.now c.loop-count.count c.index-records-count.result c.loop-count-test.true c.loop-count.invariant.before
      (subst IsState c.index-records-count.is (sym c.if-not-is_event.ensures));
}

-- an event comes next
event_next : (c : goal.Else-not-is_event) → Ends (drop c.loop-count.count c.args.records.now)
event_next c =
    subst Ends (sym (here c.args.records.now c.loop-count.count c.index-records-count.result c.loop-count-test.true c.index-records-count.is)) (sym c.if-not-is_event.ensures)

-- nothing does
none_next : (c : goal.After-loop-count) → Ends (drop c.loop-count.count c.args.records.now)
none_next c = subst Ends (sym (drop_all c.loop-count.count c.args.records.now (omega (arith, c.loop-count-test.false)))) tt

pub returns-else-not-is_event-clause-state : goal.returns-else-not-is_event-clause-state
returns-else-not-is_event-clause-state c = state_taken c.args.records.now c.loop-count.count c.loop-count.invariant.before (event_next c)

pub returns-else-not-is_event-clause-events : goal.returns-else-not-is_event-clause-events
returns-else-not-is_event-clause-events c = events_left c.args.records.now c.loop-count.count c.loop-count.invariant.before (event_next c)

pub returns-after-loop-count-clause-state : goal.returns-after-loop-count-clause-state
returns-after-loop-count-clause-state c = state_taken c.args.records.now c.loop-count.count c.loop-count.invariant.before (none_next c)

pub returns-after-loop-count-clause-events : goal.returns-after-loop-count-clause-events
returns-after-loop-count-clause-events c = events_left c.args.records.now c.loop-count.count c.loop-count.invariant.before (none_next c)
