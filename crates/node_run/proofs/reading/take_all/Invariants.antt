use Rattle.std.proofs.Common.{◌≡◌, true}
use Rattle.node_run.proofs.reading.take_all.Given as goal

-- a mark that was set stays
abbrev pub invariant-loop-body : goal.invariant-loop-body
invariant-loop-body g l = l.initial.intake.was_refused_memory ≡ true → l.intake.was_refused_memory ≡ true
