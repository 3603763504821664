use Rattle.std.proofs.Common.{◌≡◌, drop, slice_get}
use Rattle.dag.specs.Graph.{held_in}
use Rattle.dag.proofs.row.nth_held.Given as goal

-- of what the slots from this one on hold it is still this place
abbrev pub invariant-loop-author : goal.invariant-loop-author
invariant-loop-author l = slice_get (held_in l.slots) l.place ≡ slice_get (held_in (drop l.author l.slots)) l.before
