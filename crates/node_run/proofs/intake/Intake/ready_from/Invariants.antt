use Rattle.std.proofs.Common.{◌≡◌, ◌≤◌}
use Rattle.node_run.specs.Asked.{AsksEach, OnlyAsks}
use Rattle.node_run.proofs.intake.Intake.ready_from.Given as goal

-- each certificate of the rounds before this one was asked about, and none was taken out
abbrev pub invariant-loop-round : goal.invariant-loop-round
invariant-loop-round g l = record {
  waiters : l.self.waiters ≡ l.fn.self.waiters;
  due : l.self.due ≡ l.fn.self.due;
  mark : l.self.was_refused_memory ≡ l.fn.self.was_refused_memory;
  only : OnlyAsks l.fn.self.caller l.self.caller;
  asked : AsksEach g.S.Sign.scheme l.fn.self.caller.node l.low l.round l.fn.self.waiters l.fn.self.caller l.self.caller;
  rises : l.low ≤ l.round;
}
