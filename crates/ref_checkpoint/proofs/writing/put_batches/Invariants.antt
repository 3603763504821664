use Rattle.std.proofs.Common.{◌≡◌, ◌++◌, map, take}
use Rattle.spec_checkpoint.specs.Records.{batch_record}
use Rattle.ref_checkpoint.specs.Lists.{contents}
use Rattle.ref_checkpoint.proofs.writing.put_batches.Given as goal

-- those so far have been put
abbrev pub invariant-loop-kept : goal.invariant-loop-kept
invariant-loop-kept l = contents l.rows.items ≡ contents l.initial.rows.items ++ map batch_record (take l.kept-index l.batches)
