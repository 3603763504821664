use Rattle.std.proofs.Common.{◌≡◌, map}
use Rattle.std.specs.Prelude.{All}
use Rattle.spec_model.specs.Nodes.{node_view}
use Rattle.spec_model.specs.Slots.{certificate_digest}
use Rattle.checkpoint.specs.Judging.{passes_itself}
use Rattle.checkpoint.specs.Kept.{certificate_of}
use Rattle.checkpoint.proofs.judging.certificates.recheck_all.Given as goal

-- the certificates so far have their digests, and were checked
abbrev pub invariant-loop-certificate : goal.invariant-loop-certificate
invariant-loop-certificate g l = record {
  list : map certificate_of l.list.items ≡ l.yielded;
  digested : All (λ one. one.1 ≡ certificate_digest one.0.header) l.list.items;
  passed : l.passed.items ≡ map (passes_itself (node_view g.S.Sign.scheme l.node)) l.yielded;
}
