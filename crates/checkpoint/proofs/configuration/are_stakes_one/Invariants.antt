use Rattle.std.proofs.Common.{◌≡◌, true, take}
use Rattle.std.specs.Prelude.{◌==◌}
use Rattle.std.specs.List.{list_all}
use Rattle.checkpoint.proofs.configuration.are_stakes_one.Given as goal

-- each member's so far is 1
abbrev pub invariant-loop-member : goal.invariant-loop-member
invariant-loop-member l = list_all (λ stake. stake == 1) (take l.member l.committee.stakes) ≡ true
