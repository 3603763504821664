use Rattle.std.proofs.Common.{◌≡◌, ◌++◌, [], take, drop}
use Rattle.spec_checkpoint.specs.Faults.{batch_tests}
use Rattle.spec_model.specs.Nodes.{node_view}
use Rattle.ref_checkpoint.proofs.judging.put_batch_tests.Given as goal

-- the tests that have been put, and those of the batches that are left, are all
abbrev pub invariant-loop-place : goal.invariant-loop-place
invariant-loop-place g l =
    l.tests.items ++ batch_tests (node_view g.S.Sign.scheme l.node) (take l.place l.batches) (drop l.place l.batches)
    ≡ l.initial.tests.items ++ batch_tests (node_view g.S.Sign.scheme l.node) [] l.batches
