use Rattle.std.proofs.Common.{◌≡◌, ℕ}
use Rattle.std.specs.Prelude.{◌&&◌, nat_lt}
use Rattle.committee.specs.Sets.{has}
use Rattle.spec_model.specs.Nodes.{node_view}
use Rattle.spec_model.specs.States.{holds}
use Rattle.ref_order.proofs.held.holders.Given as goal

-- the set has those so far who hold the batch
abbrev pub invariant-loop-member : goal.invariant-loop-member
invariant-loop-member g l =
    let node = node_view g.S.Sign.scheme l.node in
    (m : ℕ) → has l.found m ≡ (nat_lt m l.member && holds node (g.H.Held.state l.held) l.digest m)
