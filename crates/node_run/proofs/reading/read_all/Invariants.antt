use Rattle.std.proofs.Common.{◌≡◌, true}
use Rattle.node_run.proofs.reading.read_all.Given as goal

-- a mark that was set stays
abbrev pub invariant-loop : goal.invariant-loop
invariant-loop g l =
    (goal.iterator-loop g).can_next l.iterator' × (goal.iterator-loop g).is_finite l.iterator'
    × (l.fn.intake.was_refused_memory ≡ true → l.intake.was_refused_memory ≡ true)
