use Rattle.std.proofs.Common.{◌≡◌, ◌++◌}
use Rattle.std.specs.Prelude.{None, filter_map, if◌then◌else◌}
use Rattle.std.specs.List.{range_with_len}
use Rattle.committee.specs.Sets.{has}
use Rattle.dag.specs.Graph.{digest_in}
use Rattle.flatten.proofs.digests.put_round.Given as goal

-- the digests of those of the members so far
abbrev pub invariant-loop-author : goal.invariant-loop-author
invariant-loop-author l =
    l.digests.items ≡ l.initial.digests.items ++ filter_map (λ author. if has l.authors author then digest_in l.dag l.round author else None) (range_with_len 0 l.author)
