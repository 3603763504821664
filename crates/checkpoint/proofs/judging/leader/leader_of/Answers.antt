use Rattle.std.proofs.Common.{◌≡◌, ◌*◌, ◌-◌, ◌%◌, ℕ, length, Some, ap, sym, ◌∙◌, arith}
use Rattle.std.specs.Prelude.{option_copied, option_map}
use Rattle.std.proofs.lemmas.Option.{none-some, same_Some}
use Rattle.sequencer.specs.Restored.{Digested, listed}
use Rattle.checkpoint.proofs.Leaders.{is_led, listed_round}
use Rattle.checkpoint.proofs.judging.leader.leader_of.Goals as goal

pub returns-in_err-coin-clause-round : goal.returns-in_err-coin-clause-round
returns-in_err-coin-clause-round c =
    let led = is_led c.args.committee.now c.args.list.now c.args.coins.now c.args.wave c.requires.top in
    absurd (none-some led.coin (c.in_err-coin.ensures.value ∙ led.chosen))

pub overflow_mul-wave : goal.overflow_mul-wave
overflow_mul-wave c =
    let led = is_led c.args.committee.now c.args.list.now c.args.coins.now c.args.wave c.requires.top in
    let within = led.within in
    let small = c.count.ensures.small in
    let count = c.count.ensures.value in
    omega (arith, within, small, count)

pub returns-in_err-leader-clause-round : goal.returns-in_err-leader-clause-round
returns-in_err-leader-clause-round c =
    let charter = c.args.committee.now in
    let led = is_led charter c.args.list.now c.args.coins.now c.args.wave c.requires.top in
    let coin : c.in_ok-coin.coin ≡ led.coin = same_Some c.in_ok-coin.coin led.coin (c.in_ok-coin.ensures.value ∙ led.chosen) in
    let there = ap (λ (n : ℕ). listed c.args.list.now (2 * c.args.wave - 1) (n % length charter.keys)) coin ∙ led.held in
    let size = ap (λ (n : ℕ). listed c.args.list.now (2 * c.args.wave - 1) (c.in_ok-coin.coin % n)) c.size.ensures.value in
    absurd (none-some led.certificate (c.in_err-leader.ensures.value ∙ size ∙ there))

pub returns-clause-round : goal.returns-clause-round
returns-clause-round c =
    let size = c.in_ok-coin.coin % c.size.result in
    let there : Some c.in_ok-leader.field-0.now.0 ≡ listed c.args.list.now (2 * c.args.wave - 1) size =
    sym (ap (λ o. option_map (λ (one : Digested). one.0) (option_copied o)) c.in_ok-leader.was) ∙ c.entry_of.ensures.value in
    ap (λ (n : ℕ). Some n) (listed_round c.args.list.now (2 * c.args.wave - 1) size c.in_ok-leader.field-0.now.0 (sym there))
