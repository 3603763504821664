use Rattle.std.proofs.Common.{◌≡◌, ◌++◌, filter, drop}
use Rattle.ref_script.specs.Desks.{desk_of}
use Rattle.spec_world.specs.Text.{due, frames, is_due}
use Rattle.ref_script.proofs.frames.put_due.Given as goal

-- those so far and those of the outputs that are left are all
abbrev pub invariant-loop-waiting : goal.invariant-loop-waiting
invariant-loop-waiting l =
    l.bytes.items ++ frames (filter (λ waiting. is_due (desk_of l.desk) waiting) (drop l.waiting-index l.waiting-items)) ≡ l.fn.bytes.items ++ frames (due (desk_of l.desk))
