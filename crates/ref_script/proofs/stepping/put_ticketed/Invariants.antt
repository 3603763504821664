use Rattle.std.proofs.Common.{◌≡◌, ◌++◌}
use Rattle.spec_world.specs.Steps.{ticketed}
use Rattle.ref_script.proofs.stepping.put_ticketed.Given as goal

-- those so far and those that are left are all
abbrev pub invariant-loop-output : goal.invariant-loop-output
invariant-loop-output l = l.waiting.items ++ ticketed l.ticket l.output-iterator.rest.items ≡ l.fn.waiting.items ++ ticketed l.ticket l.fn.outputs
