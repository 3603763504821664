use Rattle.std.proofs.Common.{◌≡◌, drop, slice_get}
use Rattle.std.specs.List.{flat_map}
use Rattle.dag.specs.Graph.{held_in}
use Rattle.dag.proofs.rows.nth.Given as goal

-- of what the rows from this one on hold it is still this place
abbrev pub invariant-loop-i : goal.invariant-loop-i
invariant-loop-i l = slice_get (flat_map held_in l.rows.items) l.place ≡ slice_get (flat_map held_in (drop l.i l.rows.items)) l.before
