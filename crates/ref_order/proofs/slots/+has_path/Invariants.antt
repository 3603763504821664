use Rattle.std.proofs.Common.{◌≡◌, ◌-◌, ◌&&◌, drop}
use Rattle.std.specs.List.{list_any}
use Rattle.spec_model.specs.Slots.{slots_of, is_parent, has_path}
use Rattle.ref_order.proofs.slots.+has_path.Given as goal

abbrev pub decreases-has_path : goal.decreases-has_path
decreases-has_path l = l.steps

-- a child among those that are left has a path, or there is none
abbrev pub invariant-loop-child : goal.invariant-loop-child
invariant-loop-child l =
    list_any (λ child. has_path l.size (slots_of l.certificates) (l.steps - 1) l.start child && is_parent l.end child) (drop l.child-index l.child-items)
    ≡ has_path l.size (slots_of l.certificates) l.steps l.start l.end
