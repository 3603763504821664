use Rattle.std.proofs.Common.{◌≡◌}
use Rattle.node_io.specs.Makers.{fresh_makers}
use Rattle.node_io.proofs.makers.Makers.new.Given as goal

abbrev pub invariant-loop-worker : goal.invariant-loop-worker
invariant-loop-worker l = l.makers.items ≡ fresh_makers l.fn.own l.worker
