use Rattle.std.proofs.Common.{◌++◌}
use Rattle.std.specs.Int.{w64, to_be_bytes}
use Rattle.wire.specs.Outputs.{digests_bytes, order_bytes}
use Rattle.wire.proofs.Joining.{tagged_pieces, put_rest}
use Rattle.wire.proofs.output_bytes.put_order.Goals as goal

pub returns-clause-bytes : goal.returns-clause-bytes
returns-clause-bytes c =
    let digests = c.args.digests.now in
    let start = rw c.eight_bytes.ensures.bytes at c.in_ok-extend_from_slice.ensures.items in
    put_rest c.put_digests.result _ (digests_bytes digests) _ (c.args.out.now.items ++ order_bytes c.args.start digests) c.put_digests.ensures.bytes
    (tagged_pieces c.args.out.now.items 7 (to_be_bytes w64 c.args.start) (digests_bytes digests) _ _ c.in_ok-push.ensures.items start)
