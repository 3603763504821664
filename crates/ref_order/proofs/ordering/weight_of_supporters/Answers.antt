use Rattle.std.proofs.Common.{◌∙◌}
use Rattle.spec_model.specs.Ordering.{supports}
use Rattle.ref_order.proofs.Sets.{weighs}
use Rattle.ref_order.proofs.ordering.weight_of_supporters.Goals as goal
use Rattle.ref_order.specs.Ledgers.{ledger_view}

pub returns : goal.returns
returns c =
    let ledger = ledger_view c.args.ledger.now in
    c.weight.ensures.value ∙ weighs ledger.charter c.supporters.result (supports ledger c.args.certificate.now) c.supporters.ensures
