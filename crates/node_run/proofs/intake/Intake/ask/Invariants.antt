use Rattle.std.proofs.Common.{◌≡◌, true}
use Rattle.node.specs.Callers.{StaysWith}
use Rattle.node_run.specs.Asked.{GoesThrough}
use Rattle.node_run.proofs.intake.Intake.ask.Given as goal
use Rattle.wire.specs.Lists.{Begins}

-- what was due at the beginning was asked about or submitted, or is still due
abbrev pub invariant-asking : goal.invariant-asking
invariant-asking g l = record {
  stays : StaysWith l.initial.self.caller l.self.caller;
  through : GoesThrough g.S.Sign.scheme l.initial.self.caller.node l.initial.self.due.waiting l.self.due.waiting l.initial.self.waiters l.self.waiters l.initial.self.caller l.self.caller;
  seen : Begins l.initial.self.caller.seat.view.seen l.self.caller.seat.view.seen;
  mark : l.initial.self.was_refused_memory ≡ true → l.self.was_refused_memory ≡ true;
}

-- each turn takes one certificate out
abbrev pub decreases-asking : goal.decreases-asking
decreases-asking g l = l.self.waiters.count
