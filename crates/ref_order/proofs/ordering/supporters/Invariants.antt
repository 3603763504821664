use Rattle.std.proofs.Common.{◌≡◌, ℕ}
use Rattle.std.specs.Prelude.{◌&&◌, nat_lt}
use Rattle.committee.specs.Sets.{has}
use Rattle.spec_model.specs.Ordering.{supports}
use Rattle.ref_order.proofs.ordering.supporters.Given as goal
use Rattle.ref_order.specs.Ledgers.{ledger_view}

-- the set has those so far who support the certificate
abbrev pub invariant-loop-member : goal.invariant-loop-member
invariant-loop-member l = (m : ℕ) → has l.supporting m ≡ (nat_lt m l.member && supports (ledger_view l.ledger) l.certificate m)
