use Rattle.std.proofs.Common.{◌≡◌, ◌++◌, drop, option_copied}
use Rattle.spec_model.specs.Ordering.{segments}
use Rattle.ref_order.specs.Ledgers.{ledger_view}
use Rattle.ref_machine.proofs.newly.segments_after.Given as goal

-- what is ordered so far and what the leaders that are left order is all
abbrev pub invariant-loop-leader : goal.invariant-loop-leader
invariant-loop-leader l =
    let ledger = ledger_view l.ledger in
    l.found.items ++ segments ledger (option_copied l.previous) (drop l.leader-index l.leaders) ≡ segments ledger (option_copied l.fn.before) l.leaders
