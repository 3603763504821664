use Rattle.std.proofs.Common.{length, arith}
use Rattle.std.proofs.lemmas.List.{get_or_default}
use Rattle.diskmodel.proofs.Spans.{copied, copied_all}
use Rattle.diskmodel.proofs.history.copy_spans.Goals as goal

pub loop-span-preserved : goal.loop-span-preserved
loop-span-preserved c = record {
  size = omega (arith, c.copy_span.ensures.len, c.loop-span.invariant.size);
  differ = copied c.args.spans.now c.loop-span.span-index _ c.args.from.now c.loop-span.into c.copy_span.new.into c.loop-span-test.true
      (get_or_default c.args.spans.now c.loop-span.span-index _ _ c.loop-span-test.true)
      c.copy_span.ensures.len c.copy_span.ensures.inside c.copy_span.ensures.outside c.loop-span.invariant.differ;
}

pub returns : goal.returns
returns c =
    copied_all c.args.spans.now c.loop-span.span-index (length c.args.into.now) c.args.from.now c.loop-span.into
    c.loop-span-test.false c.loop-span.invariant.size c.requires.shorter c.loop-span.invariant.differ
