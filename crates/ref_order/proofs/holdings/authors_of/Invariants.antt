use Rattle.std.proofs.Common.{◌≡◌, ℕ}
use Rattle.std.specs.Prelude.{◌&&◌, nat_lt, is_some}
use Rattle.committee.specs.Sets.{has}
use Rattle.spec_model.specs.Slots.{slots_of}
use Rattle.ref_order.proofs.holdings.authors_of.Given as goal

-- the set has those so far who have a certificate
abbrev pub invariant-loop-author : goal.invariant-loop-author
invariant-loop-author l = (m : ℕ) → has l.held m ≡ (nat_lt m l.author && is_some (slots_of l.certificates l.round m))
