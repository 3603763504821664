use Rattle.std.proofs.Common.{◌∙◌}
use Rattle.spec_model.specs.Holdings.{genesis}
use Rattle.header.proofs.Ranges.{mapped_more}
use Rattle.ref_checkpoint.proofs.held.first.Goals as goal

pub loop-author-preserved : goal.loop-author-preserved
loop-author-preserved c =
    rw (c.in_ok-push.ensures.items, c.genesis.ensures)
    (mapped_more genesis c.loop-author.found.items c.loop-author.author c.args.size c.loop-author-test.true ∙ c.loop-author.invariant)
