use Rattle.std.proofs.Common.{◌≡◌, drop}
use Rattle.committee.specs.Keys.{repeats}
use Rattle.committee.proofs.keys.repeats.Given as goal

-- no key so far stands there again
abbrev pub invariant-loop-i : goal.invariant-loop-i
invariant-loop-i l = repeats (drop l.i l.keys) ≡ repeats l.keys
