use Rattle.std.proofs.Common.{◌≡◌, ◌-◌, ◌++◌, take, drop}
use Rattle.std.specs.Prelude.{map}
use Rattle.diskmodel.proofs.countdowns.count_down.Given as goal

-- the counts so far are one less
abbrev pub invariant-loop-count : goal.invariant-loop-count
invariant-loop-count l = l.count-items ≡ map (λ count. count - 1) (take l.count-index l.initial.count-items) ++ drop l.count-index l.initial.count-items
