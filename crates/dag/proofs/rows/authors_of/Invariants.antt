use Rattle.std.proofs.Common.{◌≡◌, ℕ, take}
use Rattle.std.specs.Prelude.{◌==◌, ◌&&◌}
use Rattle.std.specs.List.{list_any}
use Rattle.committee.specs.Sets.{has}
use Rattle.dag.specs.Graph.{row_at}
use Rattle.dag.specs.Rows.{names}
use Rattle.dag.proofs.rows.authors_of.Given as goal

-- the parents so far that are kept
abbrev pub invariant-loop-parent : goal.invariant-loop-parent
invariant-loop-parent l = (author : ℕ) → has l.authors author
    ≡ list_any (λ parent. names (row_at l.floor l.rows.items l.below parent.author.0) parent && (author == parent.author.0))
    (take l.parent-index l.parents)
