use Rattle.std.proofs.Common.{◌≡◌, replicate, None}
use Rattle.dag.proofs.rows.empty_rows.Given as goal

abbrev pub invariant-loop : goal.invariant-loop
invariant-loop l = l.rows.items ≡ replicate l.counter (replicate l.size None)
