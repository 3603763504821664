use Rattle.std.proofs.Common.{arith, length, take, ◌++◌, ap, ◌∙◌}
use Rattle.std.specs.Int.{w16, to_be_bytes}
use Rattle.std.specs.List.{flat_map}
use Rattle.wire.specs.Encoding.{parent_reference_bytes}
use Rattle.wire.proofs.Pieces.{one_more, all_put}
use Rattle.wire.proofs.encoding.write_parents.Goals as goal

pub write_parent_reference-next-requires : goal.write_parent_reference-next-requires
write_parent_reference-next-requires c =
    let until = c.loop-parent.invariant in
    omega (arith, c.requires, c.loop-parent-test.true, until.place, until.len, ap length c.as_slice-list.ensures.value)

pub loop-parent-preserved : goal.loop-parent-preserved
loop-parent-preserved c =
    let until = c.loop-parent.invariant in
    let put = c.write_parent_reference-next.ensures in
    record {
      bytes = one_more parent_reference_bytes (take c.args.place c.args.area.now) (to_be_bytes w16 (length c.as_slice-list.result.now)) (take c.loop-parent.next c.loop-parent.area)
          (take c.write_parent_reference-next.result c.write_parent_reference-next.new.area) c.as_slice-list.result.now c.loop-parent.parent-index _ c.loop-parent-test.true until.bytes put.bytes;
      place = omega (arith, until.place, put.next);
      len = omega (arith, until.len, put.len);
    }

pub returns-clause-bytes : goal.returns-clause-bytes
returns-clause-bytes c =
    all_put parent_reference_bytes (take c.args.place c.args.area.now) (to_be_bytes w16 (length c.as_slice-list.result.now)) (take c.loop-parent.next c.loop-parent.area) c.as_slice-list.result.now
    c.loop-parent.parent-index c.loop-parent-test.false c.loop-parent.invariant.bytes
    ∙ ap (λ l. take c.args.place c.args.area.now ++ (to_be_bytes w16 (length l) ++ flat_map parent_reference_bytes l)) c.as_slice-list.ensures.value
