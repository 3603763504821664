use Rattle.std.proofs.Common.{take}
use Rattle.waiter.specs.Waiting.{AnswersNo}
use Rattle.waiter.proofs.waiter.Waiter.first_ready.Given as goal

abbrev pub invariant-loop-place : goal.invariant-loop-place
invariant-loop-place g l = goal.F-IsAlwaysCallable g l.ready × AnswersNo g.F.FnMut l.fn.ready (take l.place l.self) l.ready
