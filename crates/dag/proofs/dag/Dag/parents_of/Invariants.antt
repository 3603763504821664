use Rattle.std.proofs.Common.{◌≡◌, ◌+◌, ◌-◌, ◌*◌, ◌≤◌, ℕ, cond}
use Rattle.std.specs.Prelude.{sum_by, ◌&&◌}
use Rattle.std.specs.List.{list_any, range_with_len}
use Rattle.wire.specs.declared.limits.TheConstants.{MAX_PARENTS}
use Rattle.committee.specs.Sets.{has}
use Rattle.dag.specs.Graph.{has_parent_in, references_at}
use Rattle.dag.proofs.dag.Dag.parents_of.Given as goal

-- the parents of those of the members so far, of whose certificates each reference counts once
abbrev pub invariant-loop-author : goal.invariant-loop-author
invariant-loop-author l =
    ((other : ℕ) → has l.parents other ≡ list_any (λ a. has l.authors a && has_parent_in l.self l.round a (l.round - 1) other) (range_with_len 0 l.author))
    × (l.reads ≡ l.initial.reads + sum_by (λ a. cond (has l.authors a) (references_at l.self l.round a) 0) (range_with_len 0 l.author))
    × (l.reads ≤ l.initial.reads + MAX_PARENTS * l.author)
