use Rattle.std.proofs.Common.{sym}
use Rattle.std.proofs.lemmas.List.Elements.{recursion_from_All}
use Rattle.batchstore.specs.Kept.{IsUnderItsDigest}
use Rattle.batchstore.proofs.Restored.{listed_more}
use Rattle.batchstore.proofs.store.nameable_among.Goals as goal

pub loop-entry-preserved : goal.loop-entry-preserved
loop-entry-preserved c =
    let batches = c.args.batches.now in
    listed_more c.args.committee.now c.args.own.0 batches c.loop-entry.entry-index c.entry-item.result c.loop-entry.nameable.entries c.list_one.new.nameable.entries
    c.loop-entry-test.true (sym c.entry-item.is) (recursion_from_All IsUnderItsDigest batches c.requires.digested) c.requires.distinct c.loop-entry.invariant c.in_ok-list_one.ensures
