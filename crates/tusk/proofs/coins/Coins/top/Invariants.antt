use Rattle.std.proofs.Common.{◌≡◌, ◌-◌}
use Rattle.spec_model.specs.Ordering.{top, top_to}
use Rattle.tusk.specs.Chain.{ledger_in}
use Rattle.tusk.proofs.coins.Coins.top.Given as goal

-- none of the waves so far is committed
abbrev pub invariant-loop-past : goal.invariant-loop-past
invariant-loop-past l = top (ledger_in l.dag l.self) ≡ top_to (ledger_in l.dag l.self) (l.count - l.past)
