use Rattle.std.proofs.Common.{[]}
use Rattle.wire.proofs.digests.body_digest.Goals as goal

pub returns : goal.returns
returns c =
    let head = rw c.head_bytes.ensures at (c.update.ensures [] c.new-hasher.ensures) in
    c.finalize.ensures _ (c.feed_parents.ensures _ (c.feed_batches.ensures _ head))
