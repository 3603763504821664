use Rattle.std.proofs.Common.{◌≡◌, ◌++◌, ◌-◌}
use Rattle.std.specs.Prelude.{flat_map}
use Rattle.std.specs.List.{range_with_len}
use Rattle.flatten.specs.Sets.{is_in, digests_at}
use Rattle.flatten.proofs.digests.put_digests.Given as goal

-- the digests of the rounds so far
abbrev pub invariant-loop-number : goal.invariant-loop-number
invariant-loop-number l =
    l.digests.items ≡ l.initial.digests.items ++ flat_map (λ r. digests_at l.dag r (is_in l.ordered (l.fn.round - r))) (range_with_len l.first (l.number - l.first))
