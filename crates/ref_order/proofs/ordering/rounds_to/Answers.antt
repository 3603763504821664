use Rattle.std.proofs.Common.{◌∙◌, arith}
use Rattle.spec_model.specs.Ordering.{size_in}
use Rattle.spec_model.specs.Slots.{round_of}
use Rattle.ref_order.proofs.Ranges.{round_more}
use Rattle.ref_order.proofs.ordering.rounds_to.Goals as goal
use Rattle.ref_order.specs.Ledgers.{ledger_view}

pub loop-lower-preserved : goal.loop-lower-preserved
loop-lower-preserved c =
    let ledger = ledger_view c.args.ledger.now in
    let make = round_of (size_in ledger) ledger.slots in
    let more = round_more make c.loop-lower.found.items c.loop-lower.lower c.args.round (omega (arith, c.loop-lower-test.true)) in
    rw (c.in_ok-append.ensures.items, c.in_ok-more.ensures) (more ∙ c.loop-lower.invariant)
