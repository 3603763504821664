use Rattle.std.proofs.Common.{arith, length, ◌++◌, ap, ◌∙◌}
use Rattle.std.specs.List.{flat_map}
use Rattle.std.specs.Int.{w32, to_be_bytes}
use Rattle.wire.specs.Fields.{IsDigest}
use Rattle.wire.specs.Outputs.{digest_bytes}
use Rattle.wire.proofs.Pieces.{one_more, each_more, all_put}
use Rattle.wire.proofs.output_bytes.put_digests.Goals as goal

pub loop-digest-preserved : goal.loop-digest-preserved
loop-digest-preserved c =
    let until = c.loop-digest.invariant in
    let put = c.in_ok-put_digest.ensures in
    record {
      bytes = one_more digest_bytes c.args.out.now.items (to_be_bytes w32 (length c.as_slice-list.result.now)) c.loop-digest.out.items c.put_digest.new.out.items c.as_slice-list.result.now
          c.loop-digest.digest-index _ c.loop-digest-test.true until.bytes put.bytes;
      len = omega (arith, until.len, put.len);
      each = each_more IsDigest c.as_slice-list.result.now c.loop-digest.digest-index _ c.loop-digest-test.true until.each put.fits;
    }

pub returns-clause-bytes : goal.returns-clause-bytes
returns-clause-bytes c =
    all_put digest_bytes c.args.out.now.items (to_be_bytes w32 (length c.as_slice-list.result.now)) c.loop-digest.out.items c.as_slice-list.result.now c.loop-digest.digest-index
    c.loop-digest-test.false c.loop-digest.invariant.bytes
    ∙ ap (λ l. c.args.out.now.items ++ (to_be_bytes w32 (length l) ++ flat_map digest_bytes l)) c.as_slice-list.ensures.value
