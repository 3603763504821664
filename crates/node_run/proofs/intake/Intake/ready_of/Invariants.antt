use Rattle.std.proofs.Common.{◌≡◌, take}
use Rattle.std.specs.Prelude.{All}
use Rattle.waiter.specs.Rounds.{held}
use Rattle.node_run.specs.Asked.{OnlyAsks, WasAsked}
use Rattle.node_run.proofs.intake.Intake.ready_of.Given as goal

-- the certificates before the place were asked about, and nothing else was done
abbrev pub invariant-loop-place : goal.invariant-loop-place
invariant-loop-place g l = record {
  waiters : l.self.waiters ≡ l.fn.self.waiters;
  due : l.self.due ≡ l.fn.self.due;
  mark : l.self.was_refused_memory ≡ l.fn.self.was_refused_memory;
  only : OnlyAsks l.fn.self.caller l.self.caller;
  asked : All (WasAsked g.S.Sign.scheme l.fn.self.caller.node l.fn.self.caller l.self.caller) (take l.place (held l.fn.self.waiters l.round));
}
