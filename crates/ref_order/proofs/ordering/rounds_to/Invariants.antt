use Rattle.std.proofs.Common.{◌≡◌, ◌+◌, ◌-◌, ◌++◌, flat_map}
use Rattle.std.specs.List.{range_with_len}
use Rattle.spec_model.specs.Ordering.{size_in, rounds_to}
use Rattle.spec_model.specs.Slots.{round_of}
use Rattle.ref_order.proofs.ordering.rounds_to.Given as goal
use Rattle.ref_order.specs.Ledgers.{ledger_view}

-- those so far and those of the rounds that are left are those of all
abbrev pub invariant-loop-lower : goal.invariant-loop-lower
invariant-loop-lower l =
    let ledger = ledger_view l.ledger in
    l.found.items ++ flat_map (round_of (size_in ledger) ledger.slots) (range_with_len (l.lower + 1) (l.round - l.lower)) ≡ rounds_to ledger l.round
