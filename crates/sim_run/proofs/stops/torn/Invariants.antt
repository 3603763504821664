use Rattle.std.proofs.Common.{◌≡◌, ℕ, ◌<◌, length, get_or}
use Rattle.std.specs.Prelude.{if◌then◌else◌}
use Rattle.diskmodel.specs.Memory.{content_of, state_of}
use Rattle.diskmodel.specs.Outcomes.{is_written}
use Rattle.sim_run.proofs.stops.torn.Given as goal

-- the places before this one
abbrev pub invariant-loop-place : goal.invariant-loop-place
invariant-loop-place l =
    (length l.torn.items ≡ l.place)
    × ((k : ℕ) → k < l.place → get_or l.torn.items k 0 ≡ (if is_written (state_of l.disk).spans k then l.byte else get_or (content_of l.disk) k 0))
