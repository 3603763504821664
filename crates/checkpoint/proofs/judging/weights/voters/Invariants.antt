use Rattle.std.proofs.Common.{◌≡◌, ℕ}
use Rattle.std.specs.Prelude.{◌&&◌, nat_lt}
use Rattle.committee.specs.Sets.{has}
use Rattle.spec_checkpoint.specs.Faults.{has_kept}
use Rattle.spec_model.specs.Nodes.{node_view}
use Rattle.checkpoint.proofs.judging.weights.voters.Given as goal

-- the set has those so far whose votes are there
abbrev pub invariant-loop-voter : goal.invariant-loop-voter
invariant-loop-voter g l = (m : ℕ) → has l.found m ≡ (nat_lt m l.voter && has_kept (node_view g.S.Sign.scheme l.node) l.read m)
