use Rattle.std.proofs.Common.{◌≡◌}
use Rattle.dag.proofs.Steps.{firsts}
use Rattle.dag.proofs.dag.first_row.Given as goal

-- the certificates so far
abbrev pub invariant-loop-author : goal.invariant-loop-author
invariant-loop-author l = l.row ≡ firsts l.size l.author
