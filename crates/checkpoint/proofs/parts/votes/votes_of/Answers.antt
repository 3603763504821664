use Rattle.std.proofs.Common.{◌+◌, ◌++◌, ◌∷◌, [], length, length-append, ap, sym, ◌∙◌, arith}
use Rattle.std.specs.FinMap as map
use Rattle.checkpoint.proofs.Copied.{one_more}
use Rattle.checkpoint.proofs.parts.votes.votes_of.Goals as goal

pub loop-place-preserved : goal.loop-place-preserved
loop-place-preserved c = record {
  are = c.in_ok-push.ensures.items ∙ ap (λ l. l ++ c.in-Some.vote ∷ []) c.loop-place.invariant.are
      ∙ sym (one_more (map.entries c.args.votes.now) c.loop-place.place c.in-Some.vote (sym c.nth.ensures ∙ c.in-Some.is));
  count = ap length c.in_ok-push.ensures.items ∙ length-append c.loop-place.found.items (c.in-Some.vote ∷ []) ∙ ap (λ n. n + 1) c.loop-place.invariant.count;
}

pub unreachable-requires : goal.unreachable-requires
unreachable-requires c = omega (arith, c.loop-place.found.small, c.loop-place.invariant.count, c.loop-place-test.false)
