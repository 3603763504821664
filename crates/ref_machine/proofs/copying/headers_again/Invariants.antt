use Rattle.std.proofs.Common.{◌≡◌, ◌++◌, drop}
use Rattle.ref_machine.proofs.copying.headers_again.Given as goal

-- those so far and those that are left are all
abbrev pub invariant-loop-header : goal.invariant-loop-header
invariant-loop-header l = l.found.items ++ drop l.header-index l.headers ≡ l.fn.headers
