use Rattle.std.proofs.Common.{◌≡◌, ◌++◌, drop, flat_map}
use Rattle.spec_model.specs.Admitting.{batch_outputs}
use Rattle.spec_model.specs.Histories.{batches}
use Rattle.spec_model.specs.Nodes.{node_view}
use Rattle.ref_admission.proofs.giving.of_batches.Given as goal

-- what is put out so far and for the batches that are left is what is put out for all
abbrev pub invariant-loop-batch : goal.invariant-loop-batch
invariant-loop-batch g l =
    l.found ++ flat_map (batch_outputs (node_view g.S.Sign.scheme l.node)) (drop l.batch-index l.batch-items)
    ≡ flat_map (batch_outputs (node_view g.S.Sign.scheme l.node)) (batches l.history)
