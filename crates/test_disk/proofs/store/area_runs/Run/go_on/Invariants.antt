use Rattle.std.specs.Prelude.{IsSome}
use Rattle.journal.specs.Journal.{spare_of, IsAlive}
use Rattle.test_disk.proofs.store.area_runs.Run.go_on.Given as goal

abbrev pub invariant-loop-step : goal.invariant-loop-step
invariant-loop-step g l = IsAlive g.D.Disk.device l.journal × IsSome (spare_of l.journal)
