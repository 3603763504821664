use Rattle.std.proofs.Common.{◌≡◌, [], ℕ}
use Rattle.std.specs.Prelude.{nat_lt, ◌&&◌}
use Rattle.committee.specs.Sets.{has}
use Rattle.spec_model.specs.Ordering.{supports}
use Rattle.sequencer.specs.Listing.{ledger_of}
use Rattle.sequencer.proofs.listed.is_supported.Given as goal

-- of the members so far those who support it
abbrev pub invariant-loop-member : goal.invariant-loop-member
invariant-loop-member l = (other : ℕ) → has l.supporters other ≡ (nat_lt other l.member && supports (ledger_of l.committee l.list []) l.leader.0 other)
