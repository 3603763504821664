use Rattle.std.proofs.Common.{◌≡◌, true, [], ap, sym, ◌∙◌}
use Rattle.std.specs.Prelude.{Ok}
use Rattle.wire.specs.declared.message.Message.TheVariants as message
use Rattle.spec_model.specs.Admitting.{is_new, order_outputs}
use Rattle.spec_machine.specs.Machine.{answered, grown}
use Rattle.admission.specs.Decisions.{reported, coin_decision}
use Rattle.admission.specs.declared.tables.answer.Answer.TheVariants.{New}
use Rattle.admission.proofs.Answered.{coin_answered}
use Rattle.admission.proofs.Closing.{refused_answer, refused_refuses, new_refuses, went}
use Rattle.admission.proofs.Committing.{put_out}
use Rattle.admission.proofs.tables.Tables.take_coin.Goals as goal

pub returns-in-Err-clause-answer : goal.returns-in-Err-clause-answer
returns-in-Err-clause-answer c = λ node state event meets from.
    let tables = c.args.self.now in
    let coin = c.args.coin.now in
    let is = coin_answered node state event tables coin meets ∙ ap (λ s. reported (order_outputs state (grown node state (message.Coin coin))) [] (coin_decision tables s coin)) from in
    refused_answer _ _ [] (coin_decision tables c.args.sender coin) c.in-Err.refusal is (sym c.in-Err.ensures)

pub returns-in-Err-clause-refused : goal.returns-in-Err-clause-refused
returns-in-Err-clause-refused c = λ node state event meets from.
    let tables = c.args.self.now in
    let coin = c.args.coin.now in
    let is = coin_answered node state event tables coin meets ∙ ap (λ s. reported (order_outputs state (grown node state (message.Coin coin))) [] (coin_decision tables s coin)) from in
    refused_refuses _ _ [] (coin_decision tables c.args.sender coin) c.in-Err.refusal is (sym c.in-Err.ensures)

pub returns-in-Ok-New-clause-answer : goal.returns-in-Ok-New-clause-answer
returns-in-Ok-New-clause-answer c = λ node state event meets from.
    let tables = c.args.self.now in
    let coin = c.args.coin.now in
    let is = coin_answered node state event tables coin meets ∙ ap (λ s. reported (order_outputs state (grown node state (message.Coin coin))) [] (coin_decision tables s coin)) from in
    let decided : coin_decision tables c.args.sender coin ≡ Ok New = sym c.in-Ok-New.ensures ∙ ap (λ a. Ok a) c.in-Ok-New.field-0-is in
    let new : is_new (answered node state event) ≡ true = ap is_new (is ∙ ap (reported (order_outputs state (grown node state (message.Coin coin))) []) decided) in
    put_out tables (message.Coin coin) c.new_coin.result c.new_step.result node state event c.new_step.ensures.ok c.new_step.ensures.err c.new_coin.ensures.outputs meets new

pub returns-in-Ok-New-clause-refused : goal.returns-in-Ok-New-clause-refused
returns-in-Ok-New-clause-refused c = λ node state event meets from.
    let tables = c.args.self.now in
    let coin = c.args.coin.now in
    let is = coin_answered node state event tables coin meets ∙ ap (λ s. reported (order_outputs state (grown node state (message.Coin coin))) [] (coin_decision tables s coin)) from in
    let decided : coin_decision tables c.args.sender coin ≡ Ok New = sym c.in-Ok-New.ensures ∙ ap (λ a. Ok a) c.in-Ok-New.field-0-is in
    new_refuses _ (order_outputs state (grown node state (message.Coin coin))) c.new_step.result (is ∙ ap (reported (order_outputs state (grown node state (message.Coin coin))) []) decided)

pub returns-in-Ok-New-clause-at : goal.returns-in-Ok-New-clause-at
returns-in-Ok-New-clause-at c = λ new. went c.new_coin.result c.new_step.result c.new_step.ensures.ok c.new_step.ensures.err new c.new_coin.ensures.at
