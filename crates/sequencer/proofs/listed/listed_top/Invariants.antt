use Rattle.std.proofs.Common.{◌≡◌, ◌-◌}
use Rattle.spec_model.specs.Ordering.{top, top_to}
use Rattle.sequencer.specs.Listing.{ledger_of}
use Rattle.sequencer.proofs.listed.listed_top.Given as goal

-- none of the waves so far is committed
abbrev pub invariant-loop-past : goal.invariant-loop-past
invariant-loop-past l = top (ledger_of l.committee l.list l.coins) ≡ top_to (ledger_of l.committee l.list l.coins) (l.most - l.past)
