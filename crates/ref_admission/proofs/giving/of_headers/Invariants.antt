use Rattle.std.proofs.Common.{◌≡◌, ◌++◌, drop, flat_map}
use Rattle.spec_model.specs.Admitting.{header_outputs}
use Rattle.spec_model.specs.Histories.{headers}
use Rattle.spec_model.specs.Nodes.{node_view}
use Rattle.ref_admission.proofs.giving.of_headers.Given as goal

-- what is put out so far and for the headers that are left is what is put out for all
abbrev pub invariant-loop-header : goal.invariant-loop-header
invariant-loop-header g l =
    l.found ++ flat_map (header_outputs (node_view g.S.Sign.scheme l.node)) (drop l.header-index l.header-items)
    ≡ flat_map (header_outputs (node_view g.S.Sign.scheme l.node)) (headers l.history)
