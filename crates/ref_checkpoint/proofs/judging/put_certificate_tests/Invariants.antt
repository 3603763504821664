use Rattle.std.proofs.Common.{◌≡◌, ◌++◌, map, take}
use Rattle.spec_checkpoint.specs.Faults.{is_certificate_sound}
use Rattle.spec_model.specs.Nodes.{node_view}
use Rattle.ref_checkpoint.proofs.judging.put_certificate_tests.Given as goal

-- the tests of those so far have been put
abbrev pub invariant-loop-certificate : goal.invariant-loop-certificate
invariant-loop-certificate g l = l.tests.items ≡ l.initial.tests.items ++ map (is_certificate_sound (node_view g.S.Sign.scheme l.node) l.checkpoint) (take l.certificate-index l.certificates)
