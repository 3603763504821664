use Rattle.std.proofs.Common.{◌≡◌, ◌∙◌, ◌/◌, ℕ, length, ap, sym, arith}
use Rattle.std.specs.Prelude.{min}
use Rattle.spec_model.specs.Ordering.{top_to}
use Rattle.sequencer.specs.Listing.{ledger_of}
use Rattle.sequencer.proofs.Waves.{none_at_all, asked_from}
use Rattle.sequencer.proofs.listed.listed_top.Goals as goal

pub returns-in_err-last : goal.returns-in_err-last
returns-in_err-last c = c.from_residual.ensures ∙ none_at_all c.args.committee.now c.args.list.now c.args.coins.now (sym c.in_err-last.ensures.value)

pub loop-past-init : goal.loop-past-init
loop-past-init c =
    let charter = c.args.committee.now in
    let list = c.args.list.now in
    let coins = c.args.coins.now in
    let last = c.in_ok-last.field-0.now in
    let most : c.min-most.result ≡ min (length coins) (last.0.header.round / 2) =
    c.min-most.ensures ∙ ap (λ (n : ℕ). min n (c.number.result / 2)) c.count.ensures.value ∙ ap (λ (r : ℕ). min (length coins) (r / 2)) c.number.ensures.value in
    asked_from charter list coins last c.min-most.result c.limits_hold.ensures c.requires (sym c.in_ok-last.ensures.value) most
    ∙ ap (top_to (ledger_of charter list coins)) (omega arith)
