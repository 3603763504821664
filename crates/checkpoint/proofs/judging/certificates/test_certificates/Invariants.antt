use Rattle.std.proofs.Common.{◌≡◌, ◌+◌, map, take}
use Rattle.spec_model.specs.Nodes.{node_view}
use Rattle.checkpoint.specs.Judging.{NoneFails, is_certificate_sound_at, slots_at}
use Rattle.checkpoint.specs.Kept.{certificate_of}
use Rattle.checkpoint.proofs.judging.certificates.test_certificates.Given as goal

-- none of the certificates so far fails
abbrev pub invariant-loop-index : goal.invariant-loop-index
invariant-loop-index g l = record {
  place : l.place ≡ l.first + l.index;
  none : NoneFails l.first (map (λ one. is_certificate_sound_at (node_view g.S.Sign.scheme l.node) l.floor (slots_at (node_view g.S.Sign.scheme l.node) l.floor l.list) (certificate_of one))
      (take l.index l.list));
}
