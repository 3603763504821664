use Rattle.std.proofs.Common.{◌≡◌, ℕ, take}
use Rattle.std.specs.Prelude.{◌==◌}
use Rattle.std.specs.List.{list_any}
use Rattle.committee.specs.Sets.{has}
use Rattle.dag.proofs.rows.authors.Given as goal

-- those of the parents so far
abbrev pub invariant-loop-parent : goal.invariant-loop-parent
invariant-loop-parent l = (author : ℕ) → has l.authors author ≡ list_any (λ parent. author == parent.author.0) (take l.parent-index l.parents)
