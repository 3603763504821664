use Rattle.std.proofs.Common.{◌∙◌, ap, sym, arith, map}
use Rattle.std.proofs.lemmas.Result.{IfOk-weaker}
use Rattle.tusk.proofs.Chains.{newer_at_is}
use Rattle.tusk.proofs.Supporting.{led_by}
use Rattle.tusk.proofs.coins.Coins.newer_at.Goals as goal
use Rattle.tusk.specs.Chain.{ledger_in, slot_of}

pub returns-in-Some : goal.returns-in-Some
returns-in-Some c =
    let ledger = ledger_in c.args.dag.now c.args.self.now in
    let led = led_by ledger c.args.wave c.in-Some.leader c.limits_hold.ensures.placed c.in-Some.ensures.value in
    let all = newer_at_is ledger c.args.last c.args.wave led.certificate (omega (arith, c.if-wave-last.false)) led.leads in
    IfOk-weaker c.newer_to.result _ _ (λ chain is. is led.certificate led.held ∙ sym (ap (map slot_of) all)) c.newer_to.ensures
