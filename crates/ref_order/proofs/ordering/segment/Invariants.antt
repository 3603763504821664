use Rattle.std.proofs.Common.{◌≡◌, ◌++◌, drop, filter, option_copied}
use Rattle.spec_model.specs.Ordering.{is_ordered_by, segment}
use Rattle.ref_order.proofs.ordering.segment.Given as goal
use Rattle.ref_order.specs.Ledgers.{ledger_view}

-- those so far and those among what is left are those of all
abbrev pub invariant-loop-certificate : goal.invariant-loop-certificate
invariant-loop-certificate l =
    let ledger = ledger_view l.ledger in
    l.found.items ++ filter (is_ordered_by ledger (option_copied l.previous) l.leader) (drop l.certificate-index l.certificate-items) ≡ segment ledger (option_copied l.previous) l.leader
