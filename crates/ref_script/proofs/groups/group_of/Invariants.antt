use Rattle.std.proofs.Common.{◌≡◌, take, drop}
use Rattle.spec_world.specs.Text.{filled, group_of}
use Rattle.ref_script.proofs.groups.group_of.Given as goal

-- the group goes on from those so far with those that are left
abbrev pub invariant-loop-count : goal.invariant-loop-count
invariant-loop-count l = group_of l.events ≡ filled (take l.count l.events) (drop l.count l.events)
