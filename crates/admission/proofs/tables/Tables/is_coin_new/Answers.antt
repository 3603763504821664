use Rattle.std.proofs.Common.{[], ap, ◌∙◌}
use Rattle.wire.specs.declared.message.Message.TheVariants as message
use Rattle.spec_model.specs.Admitting.{order_outputs}
use Rattle.spec_machine.specs.Machine.{grown}
use Rattle.admission.specs.Decisions.{reported, is_new_decision, coin_decision}
use Rattle.admission.proofs.Answered.{coin_answered}
use Rattle.admission.proofs.Closing.{newness_is_reported}
use Rattle.admission.proofs.tables.Tables.is_coin_new.Goals as goal

pub returns : goal.returns
returns c = λ node state event meets from.
    let tables = c.args.self.now in
    let coin = c.args.coin.now in
    c.is_new.ensures ∙ ap is_new_decision c.coin_decision.ensures
    ∙ newness_is_reported _ (order_outputs state (grown node state (message.Coin coin))) [] (coin_decision tables c.args.sender coin)
    (coin_answered node state event tables coin meets ∙ ap (λ s. reported (order_outputs state (grown node state (message.Coin coin))) [] (coin_decision tables s coin)) from)
