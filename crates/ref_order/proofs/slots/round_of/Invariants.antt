use Rattle.std.proofs.Common.{◌≡◌, ◌-◌, ◌++◌}
use Rattle.std.specs.List.{filter_map, range_with_len}
use Rattle.spec_model.specs.Slots.{slots_of, round_of}
use Rattle.ref_order.proofs.slots.round_of.Given as goal

-- those so far and those of the authors that are left are those of all
abbrev pub invariant-loop-author : goal.invariant-loop-author
invariant-loop-author l =
    l.found.items ++ filter_map (slots_of l.certificates l.round) (range_with_len l.author (l.size - l.author))
    ≡ round_of l.size (slots_of l.certificates) l.round
