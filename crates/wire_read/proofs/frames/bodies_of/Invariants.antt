use Rattle.std.proofs.Common.{◌≡◌, ◌-◌, ◌≤◌, length, drop}
use Rattle.std.specs.Prelude.{All}
use Rattle.wire_read.specs.Frames.{IsFrameBody, stream_of, bodies_bytes}
use Rattle.wire_read.proofs.frames.bodies_of.Given as goal

-- the frames so far, and then what is left
abbrev pub invariant-loop-bodies : goal.invariant-loop-bodies
invariant-loop-bodies l = record {
  within : l.taken ≤ length l.stream;
  so_far : l.stream ≡ stream_of (bodies_bytes l.bodies.items) (drop l.taken l.stream);
  each : All IsFrameBody (bodies_bytes l.bodies.items);
}

abbrev pub decreases-loop-bodies : goal.decreases-loop-bodies
decreases-loop-bodies l = length l.stream - l.taken
