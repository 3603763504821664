use Rattle.std.proofs.Common.{rules}
use Rattle.std.proofs.lemmas.List.Sorted.{IsPartitionPoint-from_clause}
use Rattle.sequencer.specs.Listing.{comes_before}
use Rattle.sequencer.proofs.Waves.{parted}
use Rattle.checkpoint.proofs.judging.held.place_of.Goals as goal

pub returns : goal.returns
returns c =
    IsPartitionPoint-from_clause (comes_before c.args.round c.args.author) c.args.list.now c.partition_point.result c.partition_point.ensures.partitioned
    (parted c.args.list.now c.args.round c.args.author c.requires) (λ a r f' k. search rules)
