use Rattle.std.proofs.Common.{◌≡◌, vec_len}
use Rattle.diskmodel.proofs.switch.row.Given as goal

abbrev pub invariant-loop : goal.invariant-loop
invariant-loop l = vec_len l.row ≡ l.counter
