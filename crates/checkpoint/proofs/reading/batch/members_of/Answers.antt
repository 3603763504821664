use Rattle.std.proofs.lemmas.Result.{err_from_is_err_and}
use Rattle.std.specs.Int.{w16}
use Rattle.spec_checkpoint.specs.Reading.{counted_at, member_at}
use Rattle.spec_model.specs.Nodes.{node_view}
use Rattle.wire_read.proofs.Entries.{goes_on, ends, is_done}
use Rattle.checkpoint.proofs.reading.batch.members_of.Goals as goal

pub returns-in_err-member : goal.returns-in_err-member
returns-in_err-member g c =
    let p = err_from_is_err_and c.from_residual-in_err-member.result c.from_residual-in_err-member.ensures.1 in
    let entry_at = member_at (node_view g.S.Sign.scheme c.args.node.now) in
    let before = c.deref.ensures.value in
    rw (p.1, p.2) (ends entry_at c.in_err-member.field-0.0 c.in_ok-count.count c.loop.counter c.loop.members.items c.loop.reader (counted_at w16 65535 entry_at c.args.reader.now) c.loop-test.true
    (rw before at c.in_err-member.ensures) c.loop.invariant)

pub loop-preserved : goal.loop-preserved
loop-preserved g c =
    let entry_at = member_at (node_view g.S.Sign.scheme c.args.node.now) in
    let before = c.deref.ensures.value in
    rw c.in_ok-push.ensures.items (goes_on entry_at c.in_ok-count.count c.loop.counter c.loop.members.items c.loop.reader c.in_ok-member.member c.member_of.new.reader
    (counted_at w16 65535 entry_at c.args.reader.now) c.loop-test.true (rw before at c.in_ok-member.ensures) c.loop.invariant)

pub returns : goal.returns
returns g c =
    let entry_at = member_at (node_view g.S.Sign.scheme c.args.node.now) in
    is_done entry_at c.in_ok-count.count c.loop.counter c.loop.members.items c.loop.reader (counted_at w16 65535 entry_at c.args.reader.now) c.loop-test.false c.loop.invariant
