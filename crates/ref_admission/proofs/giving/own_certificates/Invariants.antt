use Rattle.std.proofs.Common.{◌≡◌, ◌++◌, drop, filter, map}
use Rattle.spec_model.specs.Giving.{is_given}
use Rattle.spec_model.specs.Holdings.{certificates}
use Rattle.spec_model.specs.Nodes.{node_view}
use Rattle.wire.specs.declared.output.Output.TheVariants as output
use Rattle.ref_admission.proofs.giving.own_certificates.Given as goal

-- those so far and those among what is left are those of all
abbrev pub invariant-loop-certificate : goal.invariant-loop-certificate
invariant-loop-certificate g l =
    let node = node_view g.S.Sign.scheme l.node in
    l.found ++ map output.Certificate (filter (is_given node l.history) (drop l.certificate-index l.certificate-items))
    ≡ map output.Certificate (filter (is_given node l.history) (certificates node l.history))
