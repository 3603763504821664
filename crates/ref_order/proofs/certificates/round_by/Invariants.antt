use Rattle.std.proofs.Common.{◌≡◌, ◌≤◌, ◌^◌, drop, filter, fold, map, max}
use Rattle.spec_model.specs.Holdings.{is_full}
use Rattle.spec_model.specs.Nodes.{node_view}
use Rattle.spec_model.specs.Slots.{slots_of}
use Rattle.ref_order.proofs.certificates.round_by.Given as goal

-- the greatest so far and among those that are left is the greatest of all
abbrev pub invariant-loop-certificate : goal.invariant-loop-certificate
invariant-loop-certificate g l =
    let full = is_full (node_view g.S.Sign.scheme l.node) (slots_of l.certificates) in
    record {
      all : fold max l.greatest (filter full (map (λ c. c.header.round) (drop l.certificate-index l.certificates)))
          ≡ fold max 0 (filter full (map (λ c. c.header.round) l.certificates));
      within : l.greatest ≤ 2 ^ 48;
    }
