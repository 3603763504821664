use Rattle.std.proofs.Common.{◌≡◌, ◌-◌, ◌++◌, map}
use Rattle.std.specs.List.{range_with_len}
use Rattle.spec_model.specs.Holdings.{genesis}
use Rattle.committee.specs.Charter.{numbers}
use Rattle.ref_checkpoint.proofs.held.first.Given as goal

-- those so far and those of the authors that are left are those of all
abbrev pub invariant-loop-author : goal.invariant-loop-author
invariant-loop-author l =
    l.found.items ++ map genesis (range_with_len l.author (l.size - l.author)) ≡ map genesis (numbers l.size)
