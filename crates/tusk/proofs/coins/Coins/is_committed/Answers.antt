use Rattle.std.proofs.Common.{◌∙◌, ap, sym, false}
use Rattle.std.specs.Option.{option_map_or}
use Rattle.spec_model.specs.Ordering.{has_support}
use Rattle.tusk.proofs.Supporting.{led_by}
use Rattle.tusk.proofs.coins.Coins.is_committed.Goals as goal
use Rattle.tusk.specs.Chain.{ledger_in}

pub returns-in-Some : goal.returns-in-Some
returns-in-Some c =
    let ledger = ledger_in c.args.dag.now c.args.self.now in
    let led = led_by ledger c.args.wave c.in-Some.leader c.limits_hold.ensures.placed c.in-Some.ensures.value in
    c.is_supported.ensures led.certificate c.args.self.now led.held ∙ sym (ap (λ o. option_map_or (has_support ledger) o false) led.leads)
