use Rattle.std.proofs.Common.{◌≡◌, ◌<◌, ◌≤◌}
use Rattle.std.specs.Prelude.{IfSome}
use Rattle.spec_model.specs.Ordering.{top_to}
use Rattle.ref_order.specs.Ledgers.{ledger_view}
use Rattle.ref_checkpoint.proofs.held.top_of.Given as goal

-- the greatest of the waves so far has been found
abbrev pub invariant-loop-below : goal.invariant-loop-below
invariant-loop-below l = record {
  value : l.found ≡ top_to (ledger_view l.ledger) l.below;
  within : IfSome l.found (λ wave. (0 < wave) × (wave ≤ l.below));
}
