use Rattle.std.proofs.Common.{◌≡◌, true, take}
use Rattle.std.specs.List.{list_all}
use Rattle.spec_model.specs.Holdings.{is_held}
use Rattle.spec_model.specs.Nodes.{node_view}
use Rattle.checkpoint.specs.Judging.{slots_at}
use Rattle.checkpoint.proofs.judging.held.are_all_held.Given as goal

-- each parent so far is held
abbrev pub invariant-loop-parent : goal.invariant-loop-parent
invariant-loop-parent g l = list_all (is_held (slots_at (node_view g.S.Sign.scheme l.node) l.floor l.list) l.floor l.round) (take l.parent-index l.parents) ≡ true
