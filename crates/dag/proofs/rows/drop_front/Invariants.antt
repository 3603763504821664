use Rattle.std.proofs.Common.{◌≡◌, drop}
use Rattle.dag.proofs.rows.drop_front.Given as goal

-- the rows so far are taken out
abbrev pub invariant-loop : goal.invariant-loop
invariant-loop l = l.rows.items ≡ drop l.counter l.initial.rows.items
