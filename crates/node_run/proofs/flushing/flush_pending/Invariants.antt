use Rattle.std.proofs.Common.{◌≡◌, true}
use Rattle.node_run.proofs.Pending.{Looped}
use Rattle.node_run.proofs.flushing.flush_pending.Given as goal

abbrev pub invariant-loop : goal.invariant-loop
invariant-loop g l =
    (goal.iterator-loop g).can_next l.iterator' × (goal.iterator-loop g).is_finite l.iterator'
    × Looped g.S.Sign.scheme g.D.Disk.device l.initial.rule l.rule l.missed l.initial.rounds l.rounds
    × (l.initial.missed ≡ true → l.missed ≡ true)
