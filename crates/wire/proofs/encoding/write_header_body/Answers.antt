use Rattle.std.proofs.Common.{take}
use Rattle.std.specs.Int.{w16, w64, to_be_bytes}
use Rattle.wire.specs.Encoding.{batches_bytes, parents_bytes}
use Rattle.wire.proofs.Joining.{five_pieces}
use Rattle.wire.proofs.encoding.write_header_body.Goals as goal

pub returns-clause-bytes : goal.returns-clause-bytes
returns-clause-bytes c =
    let header = c.args.header.now in
    let two = rw c.two_bytes.ensures.bytes at c.write_at-round.ensures.bytes in
    let three = rw (c.eight_bytes.ensures.bytes, c.number.ensures.value) at c.write_at-batches.ensures.bytes in
    five_pieces (take c.args.place c.args.area.now) c.args.tag (to_be_bytes w16 header.author.0) (to_be_bytes w64 header.round) (batches_bytes header.batches) (parents_bytes header.parents)
    _ _ _ _ _ c.write_at-author.ensures.bytes two three c.write_batches-parents.ensures.bytes c.write_parents.ensures.bytes
