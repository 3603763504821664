use Rattle.std.proofs.Common.{◌≡◌, IsTrue, drop, filter_map, fold}
use Rattle.wire.specs.References.{batches_rise}
use Rattle.spec_model.specs.Nodes.{node_view}
use Rattle.wire.specs.References.{placed}
use Rattle.spec_model.specs.Proposing.{to_name, nameable}
use Rattle.ref_admission.proofs.proposing.nameable.Given as goal

-- those so far with those of the batches that are left in their places are all, and they rise
abbrev pub invariant-loop-batch : goal.invariant-loop-batch
invariant-loop-batch g l =
    let node = node_view g.S.Sign.scheme l.node in
    let state = g.H.Held.state l.held in
    record {
      all : fold placed l.found.items (filter_map (to_name node state) (drop l.batch-index l.batch-items)) ≡ nameable node state;
      order : IsTrue (batches_rise l.found.items);
    }
