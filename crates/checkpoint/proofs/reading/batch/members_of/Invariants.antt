use Rattle.std.proofs.Common.{◌≡◌, ◌-◌}
use Rattle.std.specs.Int.{w16}
use Rattle.spec_checkpoint.specs.Reading.{counted_at, member_at}
use Rattle.spec_model.specs.Nodes.{node_view}
use Rattle.wire.specs.Reading.{more_at}
use Rattle.checkpoint.proofs.reading.batch.members_of.Given as goal

-- those that are still read, after those so far, are all
abbrev pub invariant-loop : goal.invariant-loop
invariant-loop g l =
    more_at (member_at (node_view g.S.Sign.scheme l.node)) (l.count - l.counter) l.members.items l.reader
    ≡ counted_at w16 65535 (member_at (node_view g.S.Sign.scheme l.fn.node)) l.fn.reader
